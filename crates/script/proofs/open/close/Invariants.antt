-- `script::open::close` meets its contract. The loop's invariant is `Closing`: the younger nets before a cell have moved up.
use Rattle.script.proofs.Lining.{Closing}
use Rattle.script.proofs.open.close.Given as goal

abbrev pub invariant-loop-k : goal.invariant-loop-k
invariant-loop-k l = Closing l.initial.labels l.initial.elders l.e l.b l.labels l.elders l.k
