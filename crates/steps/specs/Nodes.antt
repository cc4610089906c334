-- What the bodies of a node are given, forward and back.
use Rattle.std.specs.Prelude.{List, ℕ, suc, ◌*◌, ◌≤◌, length}
use Rattle.steps.specs.declared.plan.Stop.{Stop}
use Rattle.steps.specs.Sets.{stretch, Empty}
use Rattle.steps.specs.Stops.{Sound}
use Rattle.steps.specs.Masks.{Sources}

-- node g is to be passed: the stop is sound, gap g is there and empty, and the ranks before the node are of the nets that it finds open
pub record ToSpread (t : Stop) (s : List ℕ) (g : ℕ) : Type 0 where
  pub sound : Sound t
  pub room : stretch * suc g ≤ length s
  pub empty : Empty s g
  pub sources : Sources t s g

-- gap g is to be pruned by the node after it: the stop is sound, the gap after the node is there too, and the ranks before it are of the nets that it finds open
pub record ToPrune (t : Stop) (s : List ℕ) (g : ℕ) : Type 0 where
  pub sound : Sound t
  pub room : stretch * suc (suc g) ≤ length s
  pub sources : Sources t s (suc g)
