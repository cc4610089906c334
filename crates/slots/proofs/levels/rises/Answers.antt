-- `slots::levels::rises` meets its contract: `level-ranked`. Assumes nothing.
use native.Mathlib.Omega.{arith}
use Rattle.slots.proofs.Tracks.{level-ranked}
use Rattle.slots.proofs.levels.rises.Goals as goal

pub returns : goal.returns
returns c = grind (arith, level-ranked)
