-- `steps::end::few_left` meets its contract: what is left of four nets is left of b.
use Rattle.steps.proofs.EndingFew.{few-gone}
use Rattle.steps.proofs.end.few_left.Goals as goal

pub returns : goal.returns
returns c =
    let g = c.args in
    let h = c.requires in
    few-gone g.b g.a h.few.0 h.few.1 g.l h.few.2 c.few_at-z.result c.few_at-z.ensures.bits g.w c.without.result h.by_index
    c.without.ensures
