-- `orders::pass::forward` meets its contract. The loop's invariant: the gaps passed hold exactly the ranks of ways.
use native.Mathlib.Omega.{arith}
use Rattle.orders.proofs.Filling.{fills-start, fills-cleared, fills-ranks, fills-step, fills-stuck, fills-end}
use Rattle.orders.proofs.Nodes.{step-read, stop-ready, stop-behind}
use Rattle.orders.proofs.pass.forward.Goals as goal

pub loop-g-init : goal.loop-g-init
loop-g-init c = fills-start c.args.plan.now c.args.streets c.args.work.now c.requires

pub spread-requires : goal.spread-requires
spread-requires c =
    let a = c.args in
    let l = c.loop-g in
    let t = c.loop-g-test.true in
    let d = c.clear in
    let f = fills-cleared a.plan.now a.streets a.work.now c.requires l.g l.work d.new.work l.invariant d.ensures in
    let p = f.passes in
    rw (step-read a.plan.now l.g c.index-plan-g.result t c.index-plan-g.is)
    record {
      given = record {
        sound = (stop-ready a.plan.now a.streets l.g t a.work.now p.end c.requires p.way).0;
        room = omega (arith, c.requires.room, f.long, t);
        empty = d.ensures.sound;
        sources = fills-ranks a.plan.now a.streets a.work.now c.requires l.g d.new.work t f;
      };
      behind = stop-behind a.plan.now a.streets l.g t a.work.now c.requires;
    }

pub returns-then-spread : goal.returns-then-spread
returns-then-spread c =
    let a = c.args in
    let l = c.loop-g in
    let t = c.loop-g-test.true in
    let d = c.clear in
    let f = fills-cleared a.plan.now a.streets a.work.now c.requires l.g l.work d.new.work l.invariant d.ensures in
    let w = c.spread in (
      fills-stuck a.plan.now a.streets a.work.now c.requires l.g d.new.work w.new.work t f
          (rw (step-read a.plan.now l.g c.index-plan-g.result t c.index-plan-g.is) at w.ensures.exactly)
          (rw c.if-spread.true at w.ensures.bare),
      t,
    )

pub loop-g-preserved : goal.loop-g-preserved
loop-g-preserved c =
    let a = c.args in
    let l = c.loop-g in
    let t = c.loop-g-test.true in
    let d = c.clear in
    let f = fills-cleared a.plan.now a.streets a.work.now c.requires l.g l.work d.new.work l.invariant d.ensures in
    let w = c.spread in
    fills-step a.plan.now a.streets a.work.now c.requires l.g d.new.work w.new.work t f
    (rw (step-read a.plan.now l.g c.index-plan-g.result t c.index-plan-g.is) at w.ensures.exactly) (rw c.if-spread.false at w.ensures.bare)

pub returns : goal.returns
returns c =
    let a = c.args in
    let l = c.loop-g in
    fills-end a.plan.now a.streets a.work.now c.requires l.g l.work (omega (arith, c.loop-g-test.false)) l.invariant
