-- The table holds the last nodes among those passed.
use Rattle.script.specs.Tabled.{Lasts}
use Rattle.script.proofs.labels.note_lasts.Given as goal

abbrev pub invariant-loop-i : goal.invariant-loop-i
invariant-loop-i l = Lasts l.row l.i l.table
