-- `orders::pass::forward` meets its contract. The loop's invariant: the gaps passed hold exactly the ranks of ways.
use Rattle.orders.proofs.Filling.{Fills}
use Rattle.orders.proofs.pass.forward.Given as goal

abbrev pub invariant-loop-g : goal.invariant-loop-g
invariant-loop-g l = Fills l.plan l.streets l.initial.work l.g l.work
