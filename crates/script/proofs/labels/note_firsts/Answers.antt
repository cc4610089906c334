use Rattle.std.proofs.Common.{◌≡◌, length, arith}
use Rattle.script.proofs.Noting.{behind-none, behind-more}
use Rattle.script.proofs.labels.note_firsts.Goals as goal

pub loop-i-init : goal.loop-i-init
loop-i-init c =
    let same = c.into_iter-i-iterator.ensures.into_iter_gives in
    let r = c.rev-i-items.ensures.source in
    let e = c.enumerate.ensures in
    behind-none _ _ _ _ (rw (same, r, e.source) c.iter.ensures.rest) (rw (same, r) e.count) (omega arith)

pub loop-i-preserved : goal.loop-i-preserved
loop-i-preserved c =
    let s = c.in-Some.ensures.steps in
    rw c.from.ensures
    (behind-more _ _ _ _ c.loop-i.invariant _ c.in-Some.x.now c.in-Some.i _ s.1.0 (omega arith) s.1.1 s.0)

pub returns : goal.returns
returns c =
    let none : length c.loop-i.i-iterator.iter.iter.rest.now ≡ 0 = c.in-None.ensures.steps.1.0 in
    rw none at c.loop-i.invariant.firsts
