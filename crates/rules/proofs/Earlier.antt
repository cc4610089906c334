-- Reading order is strict, and goes by what follows where two lists begin alike.
use mathlib.Core.Path.{◌≡◌, ◌∙◌}
use mathlib.Core.List.{List, ◌∷◌}
use Prim.Native.Nat.{ℕ, ◌<◌}
use lib.ListN.{length}
use native.Mathlib.Omega.{arith}
use Rattle.rules.specs.Street.{Earlier, here, there}

pub earlier-asymmetric : {ps qs : List ℕ} → Earlier ps qs → Earlier qs ps → ⊥
earlier-asymmetric (here a) (here b) = omega arith
earlier-asymmetric (here a) (there e r) = omega arith
earlier-asymmetric (there e r) (here b) = omega arith
earlier-asymmetric (there e r) (there e' r') = earlier-asymmetric r r'

pub earlier-irreflexive : {ps : List ℕ} → Earlier ps ps → ⊥
earlier-irreflexive h = earlier-asymmetric h h

pub earlier-tail : {p q : ℕ} {ps qs : List ℕ} → p ≡ q → Earlier (p ∷ ps) (q ∷ qs) → Earlier ps qs
earlier-tail e (here l) = absurd (omega arith)
earlier-tail e (there e' r) = r

pub earlier-map : {p q : ℕ} {ps qs cs ds : List ℕ} → (p ≡ q → Earlier ps qs → Earlier cs ds) →
    Earlier (p ∷ ps) (q ∷ qs) → Earlier (p ∷ cs) (q ∷ ds)
earlier-map f (here l) = here l
earlier-map f (there e r) = there e (f e r)

-- both lists have a place where they differ
pub earlier-lengths : {ps qs : List ℕ} → Earlier ps qs → (0 < length ps) × (0 < length qs)
earlier-lengths (here l) = omega arith
earlier-lengths (there e r) = omega arith

pub earlier-transitive : {ps qs rs : List ℕ} → Earlier ps qs → Earlier qs rs → Earlier ps rs
earlier-transitive (here {p = p} a) (here {q = r} b) = here {p = p} {q = r} (omega arith)
earlier-transitive (here {p = p} a) (there {q = r} e t) = here {p = p} {q = r} (omega arith)
earlier-transitive (there {p = p} e s) (here {q = r} b) = here {p = p} {q = r} (omega arith)
earlier-transitive (there e s) (there e' t) = there (e ∙ e') (earlier-transitive s t)
