-- `orders::pass::enter_few` meets its contract. The loop's invariant: the places passed make no rank of the word.
use native.Mathlib.Omega.{arith}
use Rattle.steps.specs.Sets.{bit}
use Rattle.steps.proofs.Words.{bit-set, bit-unset}
use Rattle.orders.proofs.Entering.{passed-more, passed-found, next-rank, few-below}
use Rattle.orders.proofs.pass.enter_few.Goals as goal

pub overflow_shr-w : goal.overflow_shr-w
overflow_shr-w c =
    let l = c.loop-p in
    let m = few-below c.args.b c.args.r c.requires.b_bound.0 c.requires.b_bound.1 l.p l.invariant.0.low in
    omega (arith, m, l.invariant.1)

pub returns-then-w-x-eq1 : goal.returns-then-w-x-eq1
returns-then-w-x-eq1 c =
    let g = c.args in
    let l = c.loop-p in
    passed-found (bit g.w) g.b g.r l.p l.x l.invariant.0 l.invariant.1 (bit-set g.w l.x c.if-w-x-eq1.true)

pub loop-p-preserved : goal.loop-p-preserved
loop-p-preserved c =
    let g = c.args in
    let l = c.loop-p in (
      passed-more (bit g.w) g.b g.r l.p l.x l.invariant.0 l.invariant.1 c.loop-p-test.true (bit-unset g.w l.x c.if-w-x-eq1.false),
      next-rank g.b g.r l.p l.x c.factorial-unit.result l.invariant.1 c.factorial-unit.ensures.value,
    )
