-- `steps::open::copies` meets its contract, by the law of copies.
use Rattle.steps.proofs.OpeningBits.{copied}
use Rattle.steps.proofs.open.copies.Goals as goal

pub returns : goal.returns
returns c = copied c.args.w c.args.f c.requires.0 c.requires.1
