-- The first node of a label is its net's, by `firsts-home`.
use Rattle.script.proofs.Noting.{firsts-home}
use Rattle.script.proofs.labels.Labels.of.Goals as goal

pub invariant_of-result : goal.invariant_of-result
invariant_of-result c =
    let f = c.note_firsts.ensures in
    record { tabled = record { firsts = f.cells; begins = firsts-home c.args.row.now _ f; lasts = c.note_lasts.ensures } }
