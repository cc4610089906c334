-- The places so far begin the first way, and the order is that of the rank.
use Rattle.router.proofs.Walking.{Walks}
use Rattle.router.proofs.walk.walk.Given as goal

abbrev pub invariant-loop-i : goal.invariant-loop-i
invariant-loop-i l = Walks l.row l.plan l.streets l.entries l.held l.i l.rank
