-- `steps::end::third_alone` meets its contract.
use Rattle.steps.proofs.EndingSix.{third-words}
use Rattle.steps.proofs.end.third_alone.Goals as goal

pub returns : goal.returns
returns c = third-words c.args.n
