-- `steps::open::unopen_sixth` meets its contract. The loop's invariant: the words passed are cut by the two of the next gap.
use native.Mathlib.Omega.{arith}
use Rattle.steps.proofs.OpeningBack.{sixth-loses}
use Rattle.steps.proofs.open.unopen_sixth.Goals as goal

pub returns : goal.returns
returns c =
    let l = c.loop-k in
    sixth-loses c.args.work.now c.args.g l.k l.work (omega (arith, c.loop-k-test.false)) c.requires.by_index l.invariant
