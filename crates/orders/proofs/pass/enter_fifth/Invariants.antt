-- `orders::pass::enter_fifth` meets its contract. The loop's invariant: the places passed make no marked rank.
use Rattle.steps.specs.Sets.{marked}
use Rattle.orders.proofs.Entering.{Passed}
use Rattle.orders.proofs.pass.enter_fifth.Given as goal

abbrev pub invariant-loop-p : goal.invariant-loop-p
invariant-loop-p l = Passed (marked l.work l.g) 4 l.r l.p
