-- `steps::rest::copy_back` meets its contract. The loop's invariant: the words passed are those of the gap after.
use Prim.Native.Nat.{suc, ◌≤◌}
use Rattle.steps.specs.Sets.{marked}
use Rattle.steps.specs.Masks.{between, Redone}
use Rattle.steps.proofs.rest.copy_back.Given as goal

abbrev pub invariant-loop-k : goal.invariant-loop-k
invariant-loop-k l = Redone l.initial.work l.g (between l.from l.k) (λ x. marked l.initial.work (suc l.g) x) l.work × (l.from ≤ l.k) × (l.k ≤ l.to)
