-- `steps::touch::touch_five` meets its contract. The loop's invariant: the words passed are made anew, and their ranks are joined in one.
use Prim.Native.Nat.{◌-◌, ◌≤◌}
use Rattle.steps.specs.Masks.{between}
use Rattle.steps.proofs.Touching.{Sifts, Five}
use Rattle.steps.proofs.touch.touch_five.Given as goal

abbrev pub invariant-loop-e : goal.invariant-loop-e
invariant-loop-e l = Sifts l.initial.work l.g (between 1 l.e) (Five l.a l.l l.initial.work l.g (l.g - 1)) l.work l.any × (1 ≤ l.e) × (l.e ≤ 4)
