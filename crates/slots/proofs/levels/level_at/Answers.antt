-- `slots::levels::level_at` meets its contract: `level-above` and `level-below`. Assumes nothing.
use native.Mathlib.Omega.{arith}
use Rattle.slots.proofs.Tracks.{level-above, level-below}
use Rattle.slots.proofs.levels.level_at.Goals as goal

pub invariant_of-result : goal.invariant_of-result
invariant_of-result c = let a = c.args in (level-above a.u a.q (omega arith) (omega arith) c.if-q-u.true).0

pub returns-then-q-u : goal.returns-then-q-u
returns-then-q-u c = let a = c.args in (level-above a.u a.q (omega arith) (omega arith) c.if-q-u.true).1

pub invariant_of-result-2 : goal.invariant_of-result-2
invariant_of-result-2 c = let a = c.args in (level-below a.u a.q c.if-q-u.false (omega arith)).0

pub returns : goal.returns
returns c = let a = c.args in (level-below a.u a.q c.if-q-u.false (omega arith)).1
