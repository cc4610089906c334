-- `steps::rest::copy_on` meets its contract. The loop's invariant: the words passed are those before the node, and their ranks are joined in one.
use native.Mathlib.Omega.{arith}
use Rattle.steps.specs.Sets.{source}
use Rattle.steps.specs.Masks.{between}
use Rattle.steps.proofs.Touching.{sifts-bare}
use Rattle.steps.proofs.Resting.{on-start, on_step, on-end}
use Rattle.steps.proofs.rest.copy_on.Goals as goal

pub loop-k-init : goal.loop-k-init
loop-k-init c =
    (on-start c.args.work.now c.args.g c.args.from, omega arith, c.requires.g_in_bounds.1)

pub loop-k-preserved : goal.loop-k-preserved
loop-k-preserved c =
    let a = c.args in
    let l = c.loop-k in
    let t = c.loop-k-test.true in
    let w = c.ranks_before-w in
    let p = c.put_word in (
      on_step a.work.now a.g a.from l.k w.result l.any l.work p.new.work l.invariant.1 (omega (arith, c.requires.g_in_bounds.2, t)) l.invariant.0
          w.ensures p.ensures,
      omega (arith, l.invariant.1),
      omega (arith, t),
    )

pub returns : goal.returns
returns c =
    let a = c.args in
    let l = c.loop-k in record {
      redone = on-end a.work.now a.g a.from l.k a.to l.any l.work c.loop-k-test.false l.invariant.2 l.invariant.0;
      bare = sifts-bare a.work.now a.g (source a.work.now a.g) (between a.from l.k) l.work l.any c.requires.empty l.invariant.0;
    }
