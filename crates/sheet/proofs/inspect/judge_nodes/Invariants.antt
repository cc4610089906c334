-- `sheet::inspect::judge_nodes` meets its contract. The loop's invariant: the nodes passed have no fault and leave b nets open (`Scanned`). Assumes nothing.
use Rattle.sheet.proofs.Scans.{Scanned}
use Rattle.sheet.proofs.inspect.judge_nodes.Given as goal

abbrev pub invariant-loop-i : goal.invariant-loop-i
invariant-loop-i l = Scanned l.streets.upper l.streets.lower l.fields l.i l.b
