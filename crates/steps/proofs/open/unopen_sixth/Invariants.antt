-- `steps::open::unopen_sixth` meets its contract. The loop's invariant: the words passed are cut by the two of the next gap.
use Rattle.steps.proofs.OpeningBack.{Cut}
use Rattle.steps.proofs.open.unopen_sixth.Given as goal

abbrev pub invariant-loop-k : goal.invariant-loop-k
invariant-loop-k l = Cut l.initial.work l.g l.k l.work
