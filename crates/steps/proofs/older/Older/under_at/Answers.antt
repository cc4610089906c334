-- `steps::older::Older::under_at` meets its contract: the places of four are those of five, up to d.
use native.Mathlib.Omega.{arith}
use Rattle.steps.proofs.EndingFive.{under-lt, under-passing}
use Rattle.steps.proofs.older.Older.under_at.Goals as goal

pub standing-requires : goal.standing-requires
standing-requires c =
    let g = c.args in
    let h = c.requires in
    (g.self.few, under-lt g.self.places g.d (omega (arith, g.self.inside.below)) h)

pub returns : goal.returns
returns c =
    let g = c.args in
    let h = c.requires in
    under-passing g.self.places g.d (omega (arith, g.self.inside.below)) h g.self.elders c.standing.result c.standing.ensures
