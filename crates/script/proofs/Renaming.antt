-- Nets under other names: a node has the turn, and leaves the young ones, that it has and leaves under the net's own name.
use mathlib.Core.Path.{◌≡◌, refl, ap, ◌∙◌}
use mathlib.Core.List.{List, map}
use Prim.Native.Nat.{ℕ}
use Rattle.rules.specs.Basic.{cut}
use Rattle.rules.specs.declared.Kind.{Kind}
use Rattle.rules.specs.declared.Kind.TheVariants.{B, M, E, N}
use Rattle.rules.specs.Row.{before, node}
use Rattle.rules.proofs.Renamed.{cut-map, before-map, Only}
use Rattle.steps.specs.declared.plan.Turn.TheVariants.{Meets, Ends}
use Rattle.steps.specs.Plan.{young, turn}

module _ (f : ℕ → ℕ) (x : ℕ) (only : Only f x) where
  pub turn-map : (k : Kind) (l : List ℕ) → turn (node k (f x)) (map f l) ≡ turn (node k x) l
  unfolding turn
  turn-map B l = refl
  turn-map M l = ap Meets (before-map f x only l)
  turn-map E l = ap Ends (before-map f x only l)
  turn-map N l = refl

  pub young-map : (k : Kind) (l : List ℕ) → young (node k (f x)) (map f l) ≡ map f (young (node k x) l)
  unfolding young
  young-map B l = refl
  young-map M l = refl
  young-map E l = ap (λ (j : ℕ). cut j (map f l)) (before-map f x only l) ∙ cut-map f (before x l) l
  young-map N l = refl
