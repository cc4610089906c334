-- What is told so far grows by each node's step, by `telling-more`, up to one that finds six open, by `telling-full`.
use Rattle.std.proofs.Common.{arith, add-one}
use Rattle.script.proofs.Telling.{telling-none, telling-turning, telling-more, telling-full, telling-end}
use Rattle.script.proofs.plan.tell.Goals as goal

pub loop-i-init : goal.loop-i-init
loop-i-init c = rw c.new-nets.ensures (telling-none c.args.labels.now.row.now c.args.plan.now (omega arith))

pub turn_at-turn-requires : goal.turn_at-turn-requires
turn_at-turn-requires c =
    let l = c.loop-i in
    let r = c.args.labels.now in
    rw (c.from-at.ensures, add-one l.i)
    (telling-turning r.row.now r.first.now r.last.now l.plan l.nets l.i r.tabled c.requires l.invariant c.loop-i-test.true)

pub returns-in_default : goal.returns-in_default
returns-in_default c =
    let l = c.loop-i in
    let r = c.args.labels.now in
    rw c.new.ensures
    (telling-full r.row.now r.first.now r.last.now l.plan l.nets l.i r.tabled c.requires l.invariant c.loop-i-test.true
    (rw (c.from-at.ensures, add-one l.i) at c.in_default.ensures))

pub loop-i-preserved : goal.loop-i-preserved
loop-i-preserved c =
    let l = c.loop-i in
    let r = c.args.labels.now in
    rw (add-one l.i)
    (telling-more r.row.now r.first.now r.last.now l.plan l.nets l.i r.tabled c.requires l.invariant c.loop-i-test.true
    c.in-Some.step c.turn_at-turn.new.nets (rw (c.from-at.ensures, add-one l.i) at c.in-Some.ensures))

pub returns : goal.returns
returns c = telling-end c.args.labels.now.row.now c.loop-i.plan c.loop-i.nets c.loop-i.i c.loop-i.invariant (omega arith)
