-- `steps::rest::copy_on` meets its contract. The loop's invariant: the words passed are those before the node, and their ranks are joined in one.
use Prim.Native.Nat.{◌≤◌}
use Rattle.steps.specs.Sets.{source}
use Rattle.steps.specs.Masks.{between}
use Rattle.steps.proofs.Touching.{Sifts}
use Rattle.steps.proofs.rest.copy_on.Given as goal

abbrev pub invariant-loop-k : goal.invariant-loop-k
invariant-loop-k l = Sifts l.initial.work l.g (between l.from l.k) (source l.initial.work l.g) l.work l.any × (l.from ≤ l.k) × (l.k ≤ l.to)
