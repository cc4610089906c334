-- Each node of the walk is one of the first way, by `walks_more`.
use Rattle.std.proofs.Common.{arith, ap, ◌∙◌}
use Rattle.steps.specs.Plan.{turn_kind}
use Rattle.orders.proofs.Nodes.{step-read}
use Rattle.router.proofs.Walking.{walks-none, in-row, walks-standing, walks_more, walks-end}
use Rattle.router.proofs.walk.walk.Goals as goal

pub loop-i-init : goal.loop-i-init
loop-i-init c =
    let a = c.args in
    walks-none a.row.now a.plan.now a.streets a.work.now c.requires c.new-held.result c.new-held.ensures a.entries.now (omega arith)

pub bounds-row-i : goal.bounds-row-i
bounds-row-i c =
    let a = c.args in
    let l = c.loop-i in
    in-row a.row.now a.plan.now a.streets a.work.now c.requires l.entries l.held l.i l.rank l.invariant c.loop-i-test.true

pub stand-after-requires : goal.stand-after-requires
stand-after-requires c =
    let a = c.args in
    let l = c.loop-i in
    rw (step-read a.plan.now l.i c.index-plan-i.result c.loop-i-test.true c.index-plan-i.is)
    (walks-standing a.row.now a.plan.now a.streets a.work.now c.requires l.entries l.held l.i l.rank l.invariant c.loop-i-test.true)

pub listed : goal.listed
listed c =
    let a = c.args in
    let l = c.loop-i in
    omega (arith, c.requires.planned.few, in-row a.row.now a.plan.now a.streets a.work.now c.requires l.entries l.held l.i l.rank l.invariant c.loop-i-test.true)

pub bounds-entries-i : goal.bounds-entries-i
bounds-entries-i c =
    let a = c.args in
    let l = c.loop-i in
    omega (arith, c.requires.planned.few, in-row a.row.now a.plan.now a.streets a.work.now c.requires l.entries l.held l.i l.rank l.invariant c.loop-i-test.true)

pub loop-i-preserved : goal.loop-i-preserved
loop-i-preserved c =
    let a = c.args in
    let l = c.loop-i in
    let s = step-read a.plan.now l.i c.index-plan-i.result c.loop-i-test.true c.index-plan-i.is in
    walks_more a.row.now a.plan.now a.streets a.work.now c.requires l.entries l.held l.i l.rank l.invariant c.loop-i-test.true
    c.new.result c.stand-after.result.0.rest c.stand-after.result.1 (rw s at (c.new.ensures.kind ∙ c.from.ensures ∙ ap turn_kind c.turn.ensures))
    (rw (c.new.ensures.above) (rw s at c.stand-after.ensures))

pub returns : goal.returns
returns c =
    let a = c.args in
    let l = c.loop-i in
    walks-end a.row.now a.plan.now a.streets a.work.now c.requires l.entries l.held l.i l.rank l.invariant c.loop-i-test.false
