-- `orders::pass::prune` meets its contract. The loop's invariant: the gaps from that before node g on are pruned.
use mathlib.Core.Path.{◌≡◌}
use Prim.Native.Nat.{suc, ◌-◌}
use native.Mathlib.Omega.{arith}
use Rattle.orders.proofs.Pruning.{prunes-start, mark-ranks, mark-reached, prunes-step, prunes-end}
use Rattle.orders.proofs.Nodes.{step-read, stop-sound}
use Rattle.orders.proofs.pass.prune.Goals as goal

pub loop-g-init : goal.loop-g-init
loop-g-init c =
    let h = c.requires in
    prunes-start c.args.plan.now c.args.streets c.args.work.now h.given h.filled

pub prune_set-requires : goal.prune_set-requires
prune_set-requires c =
    let h = c.requires in
    let a = c.args in
    let l = c.loop-g in
    let t = c.loop-g-test.true in
    let ei : l.g ≡ suc (l.g - 1) = omega (arith, t) in
    let eh : l.g - 1 ≡ suc (l.g - 1 - 1) = omega (arith, t) in
    rw (step-read a.plan.now (l.g - 1) c.index-plan-g.result (omega (arith, l.invariant.node, t)) c.index-plan-g.is)
    record {
      given = record {
        sound = stop-sound a.plan.now a.streets (l.g - 1) a.work.now (omega (arith, l.invariant.node, t)) h.given h.passable;
        room = omega (arith, h.given.room, l.invariant.long, l.invariant.node);
        sources = mark-ranks a.plan.now a.streets a.work.now h.given h.filled l.g (l.g - 1) (l.g - 1 - 1) l.work ei eh l.invariant;
      };
      by_index = mark-reached a.plan.now a.streets a.work.now h.given h.filled l.g (l.g - 1) (l.g - 1 - 1) l.work ei eh l.invariant;
    }

pub loop-g-preserved : goal.loop-g-preserved
loop-g-preserved c =
    let h = c.requires in
    let a = c.args in
    let l = c.loop-g in
    let t = c.loop-g-test.true in
    let ei : l.g ≡ suc (l.g - 1) = omega (arith, t) in
    let eh : l.g - 1 ≡ suc (l.g - 1 - 1) = omega (arith, t) in
    prunes-step a.plan.now a.streets a.work.now h.given h.filled l.g (l.g - 1) (l.g - 1 - 1) l.work ei eh l.invariant c.prune_set.new.work
    (rw (step-read a.plan.now (l.g - 1) c.index-plan-g.result (omega (arith, l.invariant.node, t)) c.index-plan-g.is) at c.prune_set.ensures)

pub returns : goal.returns
returns c =
    let h = c.requires in
    let l = c.loop-g in
    prunes-end c.args.plan.now c.args.streets c.args.work.now h.given h.filled l.g l.work (omega (arith, c.loop-g-test.false)) l.invariant
