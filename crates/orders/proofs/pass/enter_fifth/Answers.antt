-- `orders::pass::enter_fifth` meets its contract. The loop's invariant: the places passed make no marked rank.
use mathlib.Core.Path.{◌≡◌, ◌∙◌}
use Prim.Native.Nat.{◌+◌, ◌*◌}
use native.Mathlib.Omega.{arith}
use Rattle.steps.specs.Sets.{marked}
use Rattle.steps.proofs.Words.{bit-set, bit-unset}
use Rattle.orders.proofs.Entering.{passed-more, passed-found, passed-last, fifth-rank, fifth-read}
use Rattle.orders.proofs.pass.enter_fifth.Goals as goal

pub returns-then-word-r-eq1 : goal.returns-then-word-r-eq1
returns-then-word-r-eq1 c =
    let a = c.args in
    let l = c.loop-p in
    let w = c.word in
    passed-found (marked a.work.now a.g) 4 a.r l.p (24 * l.p + a.r) l.invariant (fifth-rank l.p a.r)
    (fifth-read a.work.now a.g l.p a.r w.result (omega (arith, c.loop-p-test.true)) c.requires.g_in_bounds.1 w.ensures ∙
    bit-set w.result a.r c.if-word-r-eq1.true)

pub loop-p-preserved : goal.loop-p-preserved
loop-p-preserved c =
    let a = c.args in
    let l = c.loop-p in
    let w = c.word in
    passed-more (marked a.work.now a.g) 4 a.r l.p (24 * l.p + a.r) l.invariant (fifth-rank l.p a.r) c.loop-p-test.true
    (fifth-read a.work.now a.g l.p a.r w.result (omega (arith, c.loop-p-test.true)) c.requires.g_in_bounds.1 w.ensures ∙
    bit-unset w.result a.r c.if-word-r-eq1.false)

pub returns : goal.returns
returns c =
    let a = c.args in
    let l = c.loop-p in
    let e : l.p ≡ 4 = omega (arith, c.loop-p-test.false, l.invariant.low) in
    passed-last (marked a.work.now a.g) 4 a.r 4 (96 + a.r) (rw e at l.invariant) (fifth-rank 4 a.r) (omega arith) c.requires.somewhere
