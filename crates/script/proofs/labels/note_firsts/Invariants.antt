-- The table holds the first nodes among those passed, which stand behind those that are left.
use Rattle.script.proofs.Noting.{FirstsBehind}
use Rattle.script.proofs.labels.note_firsts.Given as goal

abbrev pub invariant-loop-i : goal.invariant-loop-i
invariant-loop-i l = FirstsBehind l.row l.i-iterator.iter.iter.rest.now l.i-iterator.iter.count l.table
