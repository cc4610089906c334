-- `slots::levels::upper_at` meets its contract: `upper-own`. Assumes nothing.
use mathlib.Core.Path.{refl, ◌∙◌}
use Rattle.rules.specs.Film.{upper_at}
use Rattle.slots.proofs.Tracks.{upper-own}
use Rattle.slots.proofs.levels.upper_at.Goals as goal

pub returns-in-N : goal.returns-in-N
unfolding upper_at
returns-in-N c = rw c.in-N.is refl

pub returns-in_default : goal.returns-in_default
returns-in_default c = let a = c.args in c.min.ensures ∙ upper-own a.kind a.ku a.above c.in_default.not-N
