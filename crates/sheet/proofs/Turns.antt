-- The row that is given back numbers its nets in the order of their first nodes and has 255 at blanks.
use mathlib.Core.Path.{◌≡◌, refl}
use mathlib.Core.List.{List, [], ◌∷◌}
use mathlib.Core.Option.{none}
use Prim.Native.Nat.{ℕ, zero, suc, ◌-◌, ◌≤◌, ◌<◌}
use native.Mathlib.Omega.{arith}
use lib.ListN.{length}
use Rattle.rules.specs.Basic.{put, cut}
use Rattle.rules.specs.declared.Kind.{Kind}
use Rattle.rules.specs.declared.Kind.TheVariants.{B, M, E, N}
use Rattle.rules.specs.Row.{node}
use Rattle.rules.specs.Bits.{Below, nil, cons}
use Rattle.rules.specs.Street.{last, counted, next}
use Rattle.rules.specs.Sheet.{kind_in, Entry, begun, begun_by, nets_of, nets, net_at, pins_of, label, row_of}
use Rattle.rules.specs.Judgement.{left, judge}
use Rattle.rules.proofs.Fields.{below_at, below-mono}
use Rattle.rules.proofs.Fits.{FitsAt}
use Rattle.rules.proofs.Lists.{length-put, length_cut}
use Rattle.rules.proofs.Legal.{Legal, done, then}
use Rattle.rules.proofs.GivenBack.{labelled, labels, begun_by-le}
use Rattle.rules.proofs.Accepted.{judge-passed}
use Rattle.sheet.specs.InTurn.{InTurn, old, new, unjoined}

below_put : {m : ℕ} (k : ℕ) {x : ℕ} {o : List ℕ} → x < m → Below m o → Below m (put k x o)
unfolding put
below_put zero h p = cons h p
below_put (suc k) h nil = cons h nil
below_put (suc k) h (cons q p) = cons q (below_put k h p)

below-cut : {m : ℕ} (k : ℕ) {o : List ℕ} → Below m o → Below m (cut k o)
unfolding cut
below-cut k nil = nil
below-cut zero (cons q p) = p
below-cut (suc k) (cons q p) = cons q (below-cut k p)

module _ {ku kl : ℕ} where
  -- from an order of nets that have begun
  labels-turn : {b : ℕ} {es : List Entry} → Legal ku kl b es → (n : ℕ) (o : List ℕ) → length o ≡ b → Below n o → begun_by n es ≤ 255 → InTurn n (labels n o es)
  unfolding nets net_at label begun_by begun next last counted left
  labels-turn done n o q low few = InTurn.nil
  labels-turn (then {b} {f} {a} {es} h l) n o q low few = go (kind_in f) h few (λ n' o'. labels-turn l n' o')
    where
      go : (k : Kind) → FitsAt k ku kl (suc a) (counted k b) → begun_by (begun k n) es ≤ 255
          → ((n' : ℕ) (o' : List ℕ) → length o' ≡ left k b → Below n' o' → begun_by n' es ≤ 255 → InTurn n' (labels n' o' es))
          → InTurn n (labelled k a n o ∷ labels (begun k n) (next (node k n) o (suc a)) es)
      go B h few r =
          new {n = n} refl (omega (arith, begun_by-le (suc n) es)) (r (suc n) (put (suc a - 1) n o) (omega (arith, length-put (suc a - 1) n o)) (below_put (suc a - 1) (omega arith) (below-mono (omega arith) low)) few)
      go M h few r = old (below_at low a 0 (omega (arith, h.high))) (r n o q low few)
      go E h few r =
          old (below_at low a 0 (omega (arith, h.high)))
          (r n (cut (suc a - 1) o) (omega (arith, h.high, length_cut (suc a - 1) o (omega (arith, h.high)))) (below-cut (suc a - 1) low) few)
      go N h few r = unjoined refl (r n o q low few)

pub row-turn : (s : List ℕ) → judge s ≡ none → nets_of s ≤ 255 → InTurn 0 (row_of s)
unfolding row_of pins_of nets_of
row-turn s e few = labels-turn (judge-passed s e).legal 0 [] refl nil few
