-- `orders::pass::enter_few` meets its contract. The loop's invariant: the places passed make no rank of the word.
use mathlib.Core.Path.{◌≡◌}
use Prim.Native.Nat.{◌+◌, ◌*◌}
use Rattle.steps.specs.Ranks.{fact}
use Rattle.steps.specs.Sets.{bit}
use Rattle.orders.proofs.Entering.{Passed}
use Rattle.orders.proofs.pass.enter_few.Given as goal

abbrev pub invariant-loop-p : goal.invariant-loop-p
invariant-loop-p l = Passed (bit l.w) l.b l.r l.p × (l.x ≡ l.p * fact l.b + l.r)
