-- `steps::end::five_before` meets its contract: three words in a row.
use Rattle.steps.proofs.EndingGaps.{five-read}
use Rattle.steps.proofs.end.five_before.Goals as goal

pub returns : goal.returns
returns c = let g = c.args in five-read g.work.now g.g g.k _ c.before-2.ensures c.before-3.ensures c.before-4.ensures
