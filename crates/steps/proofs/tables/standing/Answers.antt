-- `steps::tables::standing` meets its contract: the table's word is the preimage.
use Rattle.steps.specs.Four.{place_of}
use Rattle.steps.proofs.FourSets.{pulled}
use Rattle.steps.proofs.FourTables.{right}
use Rattle.steps.proofs.tables.standing.Goals as goal

pub returns : goal.returns
returns c =
    let g = c.args in
    let h = c.requires in
    pulled (place_of g.e) g.places _ (right.stand g.e g.places h.0 h.1)
