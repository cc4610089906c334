-- `steps::end::five_back` meets its contract: the youngest ends, or another.
use mathlib.Core.Path.{◌≡◌}
use native.Mathlib.Omega.{arith}
use Rattle.steps.proofs.EndingFive.{youngest-from}
use Rattle.steps.proofs.end.five_back.Goals as goal

pub returns-then-a-eq0 : goal.returns-then-a-eq0
returns-then-a-eq0 c =
    let g = c.args in
    let e : g.a ≡ 0 = omega arith in
    rw e (youngest-from g.l _ g.n c.taken.ensures.0 c.taken-then-a-eq0.ensures.0 c.taken-then-a-eq0-2.ensures.0)
