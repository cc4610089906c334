-- `orders::pass::enter` meets its contract: by how many others there are.
use mathlib.Core.Path.{◌≡◌}
use native.Mathlib.Omega.{arith}
use Rattle.steps.specs.Ranks.{fact}
use Rattle.orders.proofs.Entering.{few-somewhere, few-entry}
use Rattle.orders.proofs.pass.enter.Goals as goal

pub enter_few-requires-clause-somewhere : goal.enter_few-requires-clause-somewhere
enter_few-requires-clause-somewhere c =
    let a = c.args in
    let h = c.requires in
    few-somewhere a.b a.r (omega arith) h.g_in_bounds.2 a.work.now a.g c.word.result c.word.ensures h.somewhere

pub returns-in-0-to-3 : goal.returns-in-0-to-3
returns-in-0-to-3 c =
    let a = c.args in
    let o = c.enter_few in
    few-entry a.b a.r (omega arith) c.requires.g_in_bounds.2 a.work.now a.g c.word.result c.word.ensures o.result.at o.result.rest o.ensures

pub enter_fifth-requires-clause-g_in_bounds : goal.enter_fifth-requires-clause-g_in_bounds
unfolding fact
enter_fifth-requires-clause-g_in_bounds c =
    let e : c.args.b ≡ 4 = omega arith in
    (c.requires.g_in_bounds.0, rw e at c.requires.g_in_bounds.2)

pub enter_sixth-requires-clause-g_in_bounds : goal.enter_sixth-requires-clause-g_in_bounds
unfolding fact
enter_sixth-requires-clause-g_in_bounds c =
    let h = c.requires in
    let e : c.args.b ≡ 5 = omega (arith, h.g_in_bounds.1) in
    (h.g_in_bounds.0, rw e at h.g_in_bounds.2)
