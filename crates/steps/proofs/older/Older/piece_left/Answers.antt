-- `steps::older::Older::piece_left` meets its contract: what is left of both parts.
use Rattle.steps.proofs.EndingFive.{piece_of}
use Rattle.steps.proofs.older.Older.piece_left.Goals as goal

pub returns : goal.returns
returns c =
    let g = c.args in
    piece_of g.self.elders g.self.places g.d g.x g.y c.over_at.result c.under_at.result c.without.result
    c.over_at.ensures c.under_at.ensures c.without.ensures
