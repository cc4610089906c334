-- `steps::older::Older::piece_back` meets its contract: the piece of the youngest at d leads back.
use Rattle.steps.proofs.EndingFive.{passing-back}
use Rattle.steps.proofs.older.Older.piece_back.Goals as goal

pub returns : goal.returns
returns c =
    let g = c.args in
    passing-back g.self.elders g.n g.d g.z c.back.result c.back.ensures
