-- `steps::end::youngest_left` meets its contract: the words of legal places together.
use Rattle.steps.proofs.EndingFive.{youngest-words}
use Rattle.steps.proofs.end.youngest_left.Goals as goal

pub returns : goal.returns
returns c = let g = c.args in youngest-words g.l g.five _ _ _ c.taken.ensures.0 c.taken-2.ensures.0 c.taken-3.ensures.0
