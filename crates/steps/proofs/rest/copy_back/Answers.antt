-- `steps::rest::copy_back` meets its contract. The loop's invariant: the words passed are those of the gap after.
use Prim.Native.Nat.{◌+◌}
use native.Mathlib.Numerals.{add-one}
use native.Mathlib.Omega.{arith}
use Rattle.steps.proofs.Resting.{copy_start, copy_step}
use Rattle.steps.proofs.rest.copy_back.Goals as goal

pub loop-k-init : goal.loop-k-init
loop-k-init c =
    (copy_start c.args.work.now c.args.g c.args.from, omega arith, c.requires.1)

pub loop-k-preserved : goal.loop-k-preserved
loop-k-preserved c =
    let a = c.args in
    let l = c.loop-k in
    let w = c.word-w in
    let p = c.put_word in (
      copy_step a.work.now a.g a.from (a.g + 1) l.k w.result l.work p.new.work (add-one a.g) l.invariant.1 w.ensures
          l.invariant.0 p.ensures,
      omega (arith, l.invariant.1),
      omega (arith, c.loop-k-test.true),
    )
