-- `steps::tables::taken` meets its contract: the test is of bit k of l.
use Rattle.steps.proofs.EndingFive.{taken-bits, taken-le}
use Rattle.steps.proofs.tables.taken.Goals as goal

pub returns : goal.returns
returns c =
    let g = c.args in
    let o = c.only in
    (taken-bits g.l g.k g.w o.result o.ensures, taken-le g.l g.k g.w o.result o.ensures)
