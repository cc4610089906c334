-- `sheet::layout::unpack` meets its contract. The loop's invariant is `Filling`: the nodes before i are unpacked. Assumes nothing.
use Rattle.sheet.proofs.FieldBytes.{Filling}
use Rattle.sheet.proofs.layout.unpack.Given as goal

abbrev pub invariant-loop-i : goal.invariant-loop-i
invariant-loop-i l = Filling l.s l.initial.fields l.n l.fields l.i
