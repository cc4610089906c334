-- The nodes of the fours passed are laid behind the head.
use Rattle.std.proofs.Common.{length}
use Rattle.writer.proofs.Laying.{Fours}
use Rattle.writer.proofs.write_fours.Given as goal

abbrev pub invariant-loop-k : goal.invariant-loop-k
invariant-loop-k l =
    Fours l.initial.buf l.entries (length l.yielded) l.k-iterator.iter.rest.now l.k-iterator.iter.size l.k-iterator.count l.buf
