-- The plan holds the steps of the nodes passed.
use Rattle.script.proofs.Telling.{Telling}
use Rattle.script.proofs.plan.tell.Given as goal

abbrev pub invariant-loop-i : goal.invariant-loop-i
invariant-loop-i l = Telling l.labels.row.now l.plan l.nets l.i
