-- `sheet::reader::write_row` meets its contract. The loop's invariant: the walk has come to node i (`Walked`), and the buffer is filled so
-- far with the row. Assumes nothing.
use mathlib.Core.Path.{◌≡◌}
use Rattle.sheet.specs.Fields.{row_in, filled}
use Rattle.sheet.proofs.Walks.{Walked}
use Rattle.sheet.proofs.reader.write_row.Given as goal

abbrev pub invariant-loop-i : goal.invariant-loop-i
invariant-loop-i l = Walked l.nodes.fields.now l.nodes.clear l.i l.walk × (l.row ≡ filled (row_in l.nodes.fields.now) l.initial.row l.i)
