-- The turn of a node has its kind.
use mathlib.Core.Path.{◌≡◌, refl}
use mathlib.Core.List.{List}
use Prim.Native.Nat.{ℕ}
use Rattle.rules.specs.declared.Kind.TheVariants.{B, M, E, N}
use Rattle.rules.specs.Row.{Node, node}
use Rattle.rules.specs.Street.{kind}
use Rattle.steps.specs.Plan.{turn, turn_kind}

pub kind-turn : (n : Node) (o : List ℕ) → turn_kind (turn n o) ≡ kind n
unfolding turn kind
kind-turn (node B x) o = refl
kind-turn (node M x) o = refl
kind-turn (node E x) o = refl
kind-turn (node N x) o = refl
