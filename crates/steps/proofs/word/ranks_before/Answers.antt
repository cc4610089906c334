-- `steps::word::ranks_before` meets its contract: the low 24 bits of the word before the node.
use Rattle.steps.proofs.OpeningMarks.{before-ranks}
use Rattle.steps.proofs.word.ranks_before.Goals as goal

pub returns : goal.returns
returns c =
    let g = c.args in
    before-ranks g.work.now g.g g.k c.before-2.result c.before-2.ensures
