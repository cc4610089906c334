-- `steps::end::few_back` meets its contract: what leads back to four nets leads back to b.
use Rattle.steps.proofs.EndingFew.{few-comes}
use Rattle.steps.proofs.end.few_back.Goals as goal

pub returns : goal.returns
returns c =
    let g = c.args in
    let h = c.requires in
    few-comes g.b g.a h.0 h.1 g.l h.2 c.few_at-z.result c.few_at-z.ensures.bits g.n c.back.result
    c.back.ensures
