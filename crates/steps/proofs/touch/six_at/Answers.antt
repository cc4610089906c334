-- `steps::touch::six_at` meets its contract: the net is the youngest, or third of the five others.
use Prim.Native.Nat.{◌-◌}
use native.Mathlib.Omega.{arith}
use Rattle.steps.proofs.Masks.{youngest-six, older-six}
use Rattle.steps.proofs.touch.six_at.Goals as goal

pub returns-then-a-eq0 : goal.returns-then-a-eq0
returns-then-a-eq0 c =
    youngest-six c.args.a c.args.e c.requires.1 c.if-a-eq0.true

pub returns : goal.returns
returns c =
    let h = c.if-a-eq0.false in
    older-six c.args.a c.args.e c.requires.1 (c.args.a - 1) c.five_at.result (omega arith) c.five_at.ensures
