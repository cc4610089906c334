-- `steps::open::open_sixth` meets its contract. The loop's invariant: the words passed are copied to both places of the sixth net.
use Rattle.steps.proofs.OpeningSlots.{Sixth}
use Rattle.steps.proofs.open.open_sixth.Given as goal

abbrev pub invariant-loop-k : goal.invariant-loop-k
invariant-loop-k l = Sixth l.initial.work l.g l.k l.work l.any
