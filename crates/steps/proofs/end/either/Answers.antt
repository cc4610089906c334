-- `steps::end::either` meets its contract.
use Rattle.steps.proofs.EndingSix.{either-words}
use Rattle.steps.proofs.end.either.Goals as goal

pub returns : goal.returns
returns c = let g = c.args in either-words g.x g.y
