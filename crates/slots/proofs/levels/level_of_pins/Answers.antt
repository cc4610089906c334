-- `slots::levels::level_of_pins` meets its contract: the axis is level 0. Assumes nothing.
use mathlib.Core.Path.{refl}
use native.Mathlib.Omega.{arith}
use Rattle.slots.specs.Heights.{high}
use Rattle.slots.proofs.levels.level_of_pins.Goals as goal

pub invariant_of-result : goal.invariant_of-result
unfolding high
invariant_of-result c = record { low = omega arith; top = omega arith }

pub returns : goal.returns
unfolding high
returns c = refl
