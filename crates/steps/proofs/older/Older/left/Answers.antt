-- `steps::older::Older::left` meets its contract: the place of the youngest is the piece of what is left.
use Rattle.steps.proofs.EndingFive.{older-words}
use Rattle.steps.proofs.older.Older.left.Goals as goal

pub returns : goal.returns
returns c =
    let g = c.args in
    let p = c.piece_left-b in
    let q = c.piece_left-c in
    older-words g.self.places g.five g.self.elders p.result q.result g.self.few g.self.inside p.ensures q.ensures
