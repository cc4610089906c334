-- `steps::open::open_sixth` meets its contract. The loop's invariant: the words passed are copied to both places of the sixth net.
use native.Mathlib.Omega.{arith}
use Rattle.steps.proofs.OpeningSlots.{sixth-start, sixth-step, sixth-opened, sixth-bare}
use Rattle.steps.proofs.open.open_sixth.Goals as goal

pub loop-k-init : goal.loop-k-init
loop-k-init c = sixth-start c.args.work.now c.args.g

pub loop-k-preserved : goal.loop-k-preserved
loop-k-preserved c =
    let g = c.args in
    let l = c.loop-k in
    let w = c.ranks_before-w in
    let p = c.put_word in
    let q = c.put_word-in-loop-k in
    sixth-step g.work.now g.g l.k l.any w.result l.work p.new.work q.new.work l.invariant c.loop-k-test.true
    w.ensures p.ensures q.ensures

pub returns : goal.returns
returns c =
    let l = c.loop-k in record {
      opened = sixth-opened c.args.work.now c.args.g c.requires.empty c.requires.by_index l.k l.any l.work (omega (arith, c.loop-k-test.false)) l.invariant;
      bare = sixth-bare c.args.work.now c.args.g c.requires.empty c.requires.by_index l.k l.any l.work (omega (arith, c.loop-k-test.false)) l.invariant;
    }
