-- `steps::word::only` meets its contract: the test picks.
use Rattle.rules.specs.Basic.{pick}
use Rattle.steps.proofs.word.only.Goals as goal

pub returns-then-t : goal.returns-then-t
unfolding pick
returns-then-t c = rw c.if-t.true

pub returns : goal.returns
unfolding pick
returns c = rw c.if-t.false
