-- `steps::older::Older::over_at` meets its contract: the places of four are those of five, from the one after d on.
use native.Mathlib.Omega.{arith}
use Rattle.steps.proofs.EndingFive.{over-passing}
use Rattle.steps.proofs.older.Older.over_at.Goals as goal

pub returns : goal.returns
returns c =
    let g = c.args in
    let h = c.requires in
    over-passing g.self.places g.d (omega (arith, g.self.inside.below)) (omega (arith, h)) g.self.elders c.standing.result c.standing.ensures
