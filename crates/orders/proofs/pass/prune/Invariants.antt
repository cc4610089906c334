-- `orders::pass::prune` meets its contract. The loop's invariant: the gaps from that before node g on are pruned.
use Rattle.orders.proofs.Pruning.{Prunes}
use Rattle.orders.proofs.pass.prune.Given as goal

abbrev pub invariant-loop-g : goal.invariant-loop-g
invariant-loop-g l = Prunes l.plan l.streets l.initial.work l.g l.work
