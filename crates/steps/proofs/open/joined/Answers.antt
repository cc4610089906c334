-- `steps::open::joined` meets its contract, by the law of words laid over each other.
use Rattle.steps.proofs.OpeningBits.{laid}
use Rattle.steps.proofs.open.joined.Goals as goal

pub returns : goal.returns
returns c = laid c.args.w c.args.f
