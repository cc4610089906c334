-- `steps::tables::left_of` meets its contract: the table's entry is what is left of the piece.
use mathlib.Core.Path.{◌∙◌}
use native.Mathlib.Omega.{arith}
use Rattle.steps.proofs.FourTables.{right}
use Rattle.steps.proofs.tables.left_of.Goals as goal

pub returns : goal.returns
returns c =
    let g = c.args in
    let h = c.requires in
    c.from.ensures ∙ right.rest g.e g.p _ h.0 h.1 (omega arith)
