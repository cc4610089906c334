-- `steps::tables::spot` meets its contract: the table's pair is the place and the rank that is left.
use mathlib.Core.Path.{◌∙◌}
use Rattle.steps.proofs.FourTables.{right}
use Rattle.steps.proofs.tables.spot.Goals as goal

pub returns : goal.returns
returns c =
    let g = c.args in
    let h = c.requires in
    let v = right.spot g.e g.r h.0 h.1 in
    record { at = c.from.ensures ∙ v.0; rest = c.from-2.ensures ∙ v.1 }
