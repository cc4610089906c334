-- `sheet::layout::unpack_fours` meets its contract. The loop's invariant is `Fours`: the nodes passed are unpacked. Assumes nothing.
use Rattle.sheet.proofs.FieldBytes.{Fours}
use Rattle.sheet.proofs.layout.unpack_fours.Given as goal

abbrev pub invariant-loop-k : goal.invariant-loop-k
invariant-loop-k l = Fours l.s l.initial.fields l.n l.fields l.k
