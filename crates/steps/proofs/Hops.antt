-- A hop is made exactly where the street rules allow it, and leads to a rank of the nets that are then open.
use mathlib.Core.Path.{◌≡◌, refl}
use mathlib.Core.Bool.{Bool, true, false, ◌&&◌}
use mathlib.Core.Option.{Option, none, some}
use Prim.Native.Nat.{ℕ, suc, ◌+◌, ◌-◌, ◌*◌, ◌≤◌, ◌<◌}
use native.Mathlib.Omega.{arith}
use lib.Dec.{T, eqb, ltb}
use Rattle.std.specs.Prelude.{IsTrue}
use borrow.Author.Tests.{eqb-true, eq-eqb, ne_eqb, ltb-true, ltb-false}
use Rattle.rules.specs.Basic.{keep}
use Rattle.rules.specs.declared.Kind.{Kind}
use Rattle.rules.specs.declared.Kind.TheVariants.{B, M, E, N}
use Rattle.rules.specs.Street.{fits, last, fits_at}
use Rattle.rules.specs.Judgement.{left}
use Rattle.rules.proofs.Fits.{Fits, fits→, →fits, FitsAt, fits_at→, →fits_at}
use Rattle.steps.specs.Plan.{turn_kind, turn_age, touches, stays}
use Rattle.steps.specs.Ranks.{capacity, fact, at_of, less_of, hop_by}
use Rattle.steps.specs.Sets.{ranks, held}
use Rattle.steps.specs.Stops.{hop_at, Sound}
use Rattle.steps.specs.declared.plan.Stop.{Stop}
use Rattle.steps.proofs.Ranks.{rank_lt, less-lt, fact-five, fact-six, fact-of-five}
use Rattle.steps.proofs.Slots.{held-few, held-middle}

pub of-true : {b : Bool} → b ≡ true → T b
of-true e = rw e tt

pub to-true : (b : Bool) → T b → b ≡ true
to-true true t = refl
to-true false t = absurd t

module _ (ku kl p b : ℕ) where
  pub fits-fits : fits ku kl p b ≡ true → Fits ku kl p b
  fits-fits e = fits→ ku kl p b (of-true e)

  pub fitting : Fits ku kl p b → fits ku kl p b ≡ true
  fitting f = to-true (fits ku kl p b) (→fits ku kl p b f)

  pub unfit : (Fits ku kl p b → ⊥) → fits ku kl p b ≡ false
  unfit n = go (fits ku kl p b) refl
    where
      go : (t : Bool) → fits ku kl p b ≡ t → t ≡ false
      go true e = absurd (n (fits-fits e))
      go false e = refl

module _ (ku kl : ℕ) (k : Kind) (a b r p : ℕ) where
  abbrev here : Option ℕ
  here = hop_by ku kl k a b r p

  pub hop-begins : k ≡ B → fits ku kl (suc p) (suc b) ≡ true → here ≡ some (p * fact b + r)
  unfolding hop_by keep
  hop-begins e f = rw (e, f)

  pub hop-unbegun : k ≡ B → fits ku kl (suc p) (suc b) ≡ false → here ≡ none
  unfolding hop_by keep
  hop-unbegun e f = rw (e, f)

  pub hop-meets : k ≡ M → p ≡ at_of a b r → fits ku kl (suc p) b ≡ true → here ≡ some r
  unfolding hop_by keep
  hop-meets e q f = rw (e, eq-eqb p (at_of a b r) q, f)

  pub hop-ends : k ≡ E → p ≡ at_of a b r → fits ku kl (suc p) b ≡ true → here ≡ some (less_of a b r)
  unfolding hop_by keep
  hop-ends e q f = rw (e, eq-eqb p (at_of a b r) q, f)

pub hop-elsewhere : (ku kl : ℕ) (k : Kind) (a b r p : ℕ) → IsTrue (touches k) → (p ≡ at_of a b r → ⊥) → hop_by ku kl k a b r p ≡ none
unfolding hop_by keep
hop-elsewhere ku kl B a b r p h n = absurd (of-true h)
hop-elsewhere ku kl M a b r p h n = rw (ne_eqb p (at_of a b r) n)
hop-elsewhere ku kl E a b r p h n = rw (ne_eqb p (at_of a b r) n)
hop-elsewhere ku kl N a b r p h n = absurd (of-true h)

no-keep : {A : Type 0} (t f : Bool) (x : A) → f ≡ false → keep (t && f) x ≡ none
unfolding keep
no-keep true f x e = rw e
no-keep false f x e = refl

pub hop-unmet : (ku kl : ℕ) (k : Kind) (a b r p : ℕ) → IsTrue (touches k) → fits ku kl (suc p) b ≡ false → hop_by ku kl k a b r p ≡ none
unfolding hop_by
hop-unmet ku kl B a b r p h n = absurd (of-true h)
hop-unmet ku kl M a b r p h n = no-keep (eqb p (at_of a b r)) (fits ku kl (suc p) b) r n
hop-unmet ku kl E a b r p h n = no-keep (eqb p (at_of a b r)) (fits ku kl (suc p) b) (less_of a b r) n
hop-unmet ku kl N a b r p h n = absurd (of-true h)

-- what a hop that is made says
pub record Made (ku kl : ℕ) (k : Kind) (a b r p x : ℕ) : Type 0 where
  pub room : p ≤ ku
  pub left-open : left k b ≤ ku + kl
  pub lands : (IsTrue (touches k) → a < b) → r < fact b → x < fact (left k b)

pub kept : {A : Type 0} (t : Bool) (x y : A) → keep t x ≡ some y → (t ≡ true) × (x ≡ y)
unfolding keep
kept true x y e = (refl, (cc))
kept false x y e = let z : ◌≡◌ {A = ℕ} 0 1 = cc in absurd (omega arith)

pub both : (s t : Bool) → s && t ≡ true → (s ≡ true) × (t ≡ true)
both true t e = (refl, e)
both false t e = let z : ◌≡◌ {A = ℕ} 0 1 = cc in absurd (omega arith)

-- a blank is passed where the limits allow as many wires above it, and leaves the order as it is
pub hop-rests : (ku kl : ℕ) (k : Kind) (a b r p : ℕ) → k ≡ N → FitsAt N ku kl (suc p) b → hop_by ku kl k a b r p ≡ some r
unfolding hop_by keep
hop-rests ku kl k a b r p h f = rw (h, to-true (fits_at N ku kl (suc p) b) (→fits_at ku kl (suc p) b N f))

pub hop-rested : (ku kl : ℕ) (k : Kind) (a b r p x : ℕ) → k ≡ N → hop_by ku kl k a b r p ≡ some x → FitsAt N ku kl (suc p) b
unfolding hop_by
hop-rested ku kl k a b r p x h e = go (rw h at e)
  where
    go : hop_by ku kl N a b r p ≡ some x → FitsAt N ku kl (suc p) b
    go f = fits_at→ ku kl (suc p) b N (of-true (kept (fits_at N ku kl (suc p) b) r x f).0)

-- where no net begins or ends, the order stays as it is
pub hop-still : (ku kl : ℕ) (k : Kind) (a b r p x : ℕ) → IsTrue (stays k) → hop_by ku kl k a b r p ≡ some x → r ≡ x
unfolding hop_by
hop-still ku kl B a b r p x h e = absurd (of-true h)
hop-still ku kl M a b r p x h e = (kept (eqb p (at_of a b r) && fits ku kl (suc p) b) r x e).1
hop-still ku kl E a b r p x h e = absurd (of-true h)
hop-still ku kl N a b r p x h e = (kept (fits_at N ku kl (suc p) b) r x e).1

pub hop-made : (ku kl : ℕ) (k : Kind) (a b r p x : ℕ) → hop_by ku kl k a b r p ≡ some x → Made ku kl k a b r p x
unfolding hop_by left last
hop-made ku kl B a b r p x e =
    let (t, q) = kept (fits ku kl (suc p) (suc b)) (p * fact b + r) x e in
    let f : Fits ku kl (suc p) (suc b) = fits-fits ku kl (suc p) (suc b) t in
    record { room = omega arith; left-open = omega arith; lands = λ h l. rw (← q) (rank_lt p b r (omega arith) l) }
hop-made ku kl M a b r p x e =
    let (t, q) = kept (eqb p (at_of a b r) && fits ku kl (suc p) b) r x e in
    let f : Fits ku kl (suc p) b = fits-fits ku kl (suc p) b (both (eqb p (at_of a b r)) (fits ku kl (suc p) b) t).1 in
    record { room = omega arith; left-open = omega arith; lands = λ h l. rw (← q) l }
hop-made ku kl E a b r p x e =
    let (t, q) = kept (eqb p (at_of a b r) && fits ku kl (suc p) b) (less_of a b r) x e in
    let f : Fits ku kl (suc p) b = fits-fits ku kl (suc p) b (both (eqb p (at_of a b r)) (fits ku kl (suc p) b) t).1 in
    record {
      room = omega arith;
      left-open = omega arith;
      lands = λ h l. rw (← q)
          (less-lt a b r (h refl) l);
    }
hop-made ku kl N a b r p x e =
    let f = hop-rested ku kl N a b r p x refl e in
    let q = hop-still ku kl N a b r p x refl e in
    record { room = omega (arith, f.upper); left-open = f.sum; lands = λ h l. rw (← q) l }

-- a net that is begun as the sixth fits in the middle alone
begun-held : (ku kl b r p : ℕ) → ku ≤ 3 → kl ≤ 3 → r < fact b → Fits ku kl (suc p) (suc b) → held (p * fact b + r) ≡ true
begun-held ku kl b r p hu hl l f = go (ltb b 5) refl
  where
    go : (t : Bool) → ltb b 5 ≡ t → held (p * fact b + r) ≡ true
    go true e =
        let m : suc b ≤ 5 = ltb-true b 5 e in
        held-few (p * fact b + r) (omega (arith, rank_lt p b r (omega arith) l, fact-five (suc b) m))
    go false e =
        let m : b ≡ 5 = omega (arith, ltb-false b 5 e) in
        let n : fact b ≡ 120 = rw m (fact-of-five) in
        rw n (held-middle (p * 120 + r) (omega arith) (omega arith))

ended_held : (a b r : ℕ) → b ≤ capacity → a < b → r < fact b → held (less_of a b r) ≡ true
ended_held a b r f h l = held-few (less_of a b r) (omega (arith, less-lt a b r h l, fact-five (b - 1) (omega arith)))

-- a touched net that is passed keeps the limits where it stands
pub hop-met : (ku kl : ℕ) (k : Kind) (a b r p x : ℕ) → k ≡ M → hop_by ku kl k a b r p ≡ some x → (r ≡ x) × (fits ku kl (suc (at_of a b r)) b ≡ true)
unfolding hop_by
hop-met ku kl k a b r p x ek e = go (hop-one (rw ek at e))
  where
    hop-one : hop_by ku kl M a b r p ≡ some x → (eqb p (at_of a b r) && fits ku kl (suc p) b ≡ true) × (r ≡ x)
    hop-one f = kept (eqb p (at_of a b r) && fits ku kl (suc p) b) r x f

    go : (eqb p (at_of a b r) && fits ku kl (suc p) b ≡ true) × (r ≡ x) → (r ≡ x) × (fits ku kl (suc (at_of a b r)) b ≡ true)
    go (t, q) =
        let (u, f) = both (eqb p (at_of a b r)) (fits ku kl (suc p) b) t in
        let m : p ≡ at_of a b r = eqb-true p (at_of a b r) u in
        (q, rw m at f)

-- a net that a sound stop touches is open before it
pub touched-at : (t : Stop) → Sound t → (k : Kind) → turn_kind t.step.turn ≡ k → IsTrue (touches k) → turn_age t.step.turn < t.step.count
touched-at t h k e i = h.touched (rw e i)

-- at a sound stop a hop has one of six positions, and lands on a rank of the gap
pub stop-lands : (t : Stop) (r p x : ℕ) → Sound t → r < fact t.step.count → hop_at t r p ≡ some x → (p < capacity) × (x < ranks)
stop-lands t r p x h l e =
    let m = hop-made t.streets.upper t.streets.lower (turn_kind t.step.turn) (turn_age t.step.turn) t.step.count r p x e in
    let hu = t.streets.upper_few in
    let hl = t.streets.lower_few in
    (omega (arith, m.room), omega (arith, m.lands h.touched l, fact-six (left (turn_kind t.step.turn) t.step.count) (omega (arith, m.left-open))))

-- and on a rank that a set can hold, from one that it can
pub hop-held : (ku kl : ℕ) (k : Kind) (a b r p x : ℕ) → ku ≤ 3 → kl ≤ 3 → b ≤ capacity → (IsTrue (touches k) → a < b) → r < fact b → held r ≡ true →
    hop_by ku kl k a b r p ≡ some x → held x ≡ true
unfolding hop_by
hop-held ku kl B a b r p x hu hl f h l d e =
    let (t, q) = kept (fits ku kl (suc p) (suc b)) (p * fact b + r) x e in
    rw (← q) (begun-held ku kl b r p hu hl l (fits-fits ku kl (suc p) (suc b) t))
hop-held ku kl M a b r p x hu hl f h l d e =
    rw (← hop-still ku kl M a b r p x refl e) d
hop-held ku kl E a b r p x hu hl f h l d e =
    rw (← (kept (eqb p (at_of a b r) && fits ku kl (suc p) b) (less_of a b r) x e).1) (ended_held a b r f (h refl) l)
hop-held ku kl N a b r p x hu hl f h l d e =
    rw (← hop-still ku kl N a b r p x refl e) d

pub stop-held : (t : Stop) (r p x : ℕ) → Sound t → r < fact t.step.count → held r ≡ true → hop_at t r p ≡ some x → held x ≡ true
stop-held t r p x h = hop-held t.streets.upper t.streets.lower (turn_kind t.step.turn) (turn_age t.step.turn) t.step.count r p x t.streets.upper_few t.streets.lower_few h.few h.touched

pub none-some : {A : Type 0} {o : Option ℕ} {x : ℕ} → o ≡ none → o ≡ some x → A
none-some e f = let z : ◌≡◌ {A = ℕ} 0 1 = cc in absurd (omega arith)

pub same_some : {o : Option ℕ} {x y : ℕ} → o ≡ some x → o ≡ some y → x ≡ y
same_some e f = cc
