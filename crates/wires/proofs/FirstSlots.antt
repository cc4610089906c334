-- From first slots that are the sums of the nets' counts, a record's slot is one more than the number of records that go before it.
use mathlib.Core.Path.{◌≡◌, refl, ap}
use mathlib.Core.Bool.{Bool, true, false, ◌&&◌, ◌||◌}
use mathlib.Core.List.{List, [], ◌∷◌}
use Prim.Native.Nat.{ℕ, zero, suc, ◌+◌, ◌<◌}
use native.Mathlib.Omega.{arith}
use lib.ListN.{length}
use lib.Dec.{ltb, eqb}
use borrow.Author.Tests.{ltb-true, ltb-false, lt-ltb, le-ltb, eqb-true, eqb-false}
use Rattle.rules.specs.Basic.{pick}
use Rattle.rules.specs.Film.{Rec}
use Rattle.rules.specs.FilmOrder.{goes_before}
use Rattle.rules.specs.WireRules.{net_of}
use Rattle.rules.proofs.Open.{one}
use Rattle.wires.specs.Laying.{records_of, first_slot}
use Rattle.wires.proofs.Among.{All, nil, cons}
use Rattle.wires.proofs.RecordOrder.{spot, by-numbers}
use Rattle.wires.proofs.Ranks.{rank}
use Rattle.wires.proofs.Counts.{mark, under}
use Rattle.wires.proofs.Slots.{slot}

pub first_slot-pos : (rs : List Rec) (n : ℕ) → 0 < first_slot rs n
unfolding first_slot
first_slot-pos rs zero = omega arith
first_slot-pos rs (suc n) = omega (arith, first_slot-pos rs n)

first_slot-none : (n : ℕ) → first_slot [] n ≡ 1
unfolding first_slot records_of
first_slot-none zero = refl
first_slot-none (suc n) = omega (arith, first_slot-none n)

one-zero : (m : ℕ) → one (ltb m 0) ≡ 0
unfolding one
one-zero m = rw (le-ltb m 0 (omega arith))

one-suc : (m n : ℕ) → one (ltb m (suc n)) ≡ one (ltb m n) + one (eqb m n)
unfolding one
one-suc m n = go (ltb m n) (eqb m n) refl refl
  where
    go : (p q : Bool) → ltb m n ≡ p → eqb m n ≡ q → one (ltb m (suc n)) ≡ one p + one q
    go true true e f = absurd (omega (arith, ltb-true m n e, eqb-true m n f))
    go true false e f = rw (lt-ltb m (suc n) (omega (arith, ltb-true m n e)))
    go false true e f = rw (lt-ltb m (suc n) (omega (arith, eqb-true m n f)))
    go false false e f =
        let d = eqb-false m n f in
        let k = ltb-false m n e in
        rw (le-ltb m (suc n) (omega arith))

pick-one : (t : Bool) → pick t 1 0 ≡ one t
unfolding pick one
pick-one true = refl
pick-one false = refl

-- a record more moves on the first slots of the nets above its own
first_slot-more : (r : Rec) (rs : List Rec) (n : ℕ) → first_slot (r ∷ rs) n ≡ one (ltb (net_of r) n) + first_slot rs n
unfolding first_slot records_of
first_slot-more r rs zero = omega (arith, one-zero (net_of r))
first_slot-more r rs (suc n) = omega (arith, first_slot-more r rs n, pick-one (eqb (net_of r) n), one-suc (net_of r) n)

one-goes : (q r : Rec) → one (goes_before q r) ≡ one (ltb (net_of q) (net_of r)) + mark (net_of r) (spot r) (net_of q) (spot q)
unfolding mark one
one-goes q r = rw (by-numbers q r) (go (ltb (net_of q) (net_of r)) (eqb (net_of q) (net_of r)) (ltb (spot q) (spot r)) refl refl)
  where
    go : (p t s : Bool) → ltb (net_of q) (net_of r) ≡ p → eqb (net_of q) (net_of r) ≡ t → one (p || (t && s)) ≡ one p + one (t && s)
    go true true s e f = absurd (omega (arith, ltb-true (net_of q) (net_of r) e, eqb-true (net_of q) (net_of r) f))
    go true false s e f = refl
    go false t s e f = omega arith

pub slot-rank : (rs : List Rec) (r : Rec) → slot (first_slot rs) rs r ≡ suc (rank r rs)
unfolding slot under rank
slot-rank [] r = omega (arith, first_slot-none (net_of r))
slot-rank (q ∷ rs) r = omega (arith, first_slot-more q rs (net_of r), one-goes q r, slot-rank rs r)

-- behind the last net's slots all are counted
pub first_slot-last : (n : ℕ) {rs : List Rec} → All (λ r. net_of r < n) rs → first_slot rs n ≡ suc (length rs)
unfolding one
first_slot-last n nil = first_slot-none n
first_slot-last n (cons {x = r} {l = rs} h a) =
    let e : one (ltb (net_of r) n) ≡ 1 = ap one (lt-ltb (net_of r) n h) in
    omega (arith, first_slot-more r rs n, first_slot-last n a)
