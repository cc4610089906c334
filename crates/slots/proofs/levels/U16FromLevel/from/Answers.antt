-- `u16::from` of a level meets its contract: `field_is` over the seven levels. Assumes nothing.
use Rattle.slots.proofs.Tracks.{field-sums, field-small, field_is, field-low}
use Rattle.slots.proofs.levels.U16FromLevel.from.Goals as goal

pub overflow_add-result : goal.overflow_add-result
overflow_add-result c = field-sums c.level.inside.0 c.level.invariant

pub overflow_cast-result : goal.overflow_cast-result
overflow_cast-result c = field-small c.level.inside.0 c.level.invariant

pub returns : goal.returns
returns c = rw (← c.level.view_is) (field_is c.level.inside.0 c.level.invariant, field-low c.level.inside.0 c.level.invariant)
