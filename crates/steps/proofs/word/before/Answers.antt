-- `steps::word::before` meets its contract: before node 0 there is rank 0 alone.
use native.Mathlib.Omega.{arith}
use Prim.Native.Nat.{◌-◌}
use Rattle.steps.proofs.EndingSets.{before-gap, before-first, before-other}
use Rattle.steps.proofs.word.before.Goals as goal

pub returns-then-g-gt0 : goal.returns-then-g-gt0
returns-then-g-gt0 c =
    let g = c.args in
    before-gap g.work.now g.g (g.g - 1) g.k c.word.result (omega arith) c.word.ensures

pub returns-then-k-eq0 : goal.returns-then-k-eq0
returns-then-k-eq0 c =
    let g = c.args in
    before-first g.work.now g.g g.k (omega arith) (omega arith)

pub returns : goal.returns
returns c =
    let g = c.args in
    before-other g.work.now g.g g.k (omega arith) c.if-k-eq0.false
