-- `cmp` of levels meets its contract: each field is the level of the height that is seen (`level-high`). Assumes nothing.
use native.Mathlib.Omega.{arith}
use Rattle.slots.specs.Heights.{level-high}
use Rattle.slots.proofs.levels.LevelOrd.cmp.Goals as goal

pub returns : goal.returns
returns c = grind (arith, level-high)
