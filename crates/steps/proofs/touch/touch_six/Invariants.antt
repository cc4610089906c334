-- `steps::touch::touch_six` meets its contract. The loop's invariant: the words passed, two by two, are made anew, and their ranks are joined in one.
use Prim.Native.Nat.{◌-◌, ◌≤◌}
use Rattle.steps.proofs.Touching.{Sifts, Six, paired}
use Rattle.steps.proofs.touch.touch_six.Given as goal

abbrev pub invariant-loop-e : goal.invariant-loop-e
invariant-loop-e l = Sifts l.initial.work l.g (paired l.e) (Six l.a l.initial.work l.g (l.g - 1)) l.work l.any × (1 ≤ l.e) × (l.e ≤ 4)
