-- `steps::tables::back` meets its contract: the table's word is the preimage.
use Rattle.steps.specs.Four.{left_of}
use Rattle.steps.proofs.FourSets.{pulled}
use Rattle.steps.proofs.FourTables.{right}
use Rattle.steps.proofs.tables.back.Goals as goal

pub returns : goal.returns
returns c =
    let g = c.args in
    let h = c.requires in
    pulled (left_of g.e) g.y _ (right.back g.e g.y h.0 h.1)
