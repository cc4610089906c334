-- `steps::tables::few_at` meets its contract: the places of b are those of four below the missing nets.
use native.Mathlib.Omega.{arith}
use Rattle.steps.proofs.EndingFew.{places-lt, few-stands}
use Rattle.steps.proofs.tables.few_at.Goals as goal

pub standing-requires : goal.standing-requires
standing-requires c =
    let g = c.args in
    let h = c.requires in
    (omega arith, places-lt g.b g.a h.0 h.1 g.l h.2)

pub returns : goal.returns
returns c =
    let g = c.args in
    let h = c.requires in
    few-stands g.b g.a h.0 h.1 g.l h.2 c.standing.result c.standing.ensures
