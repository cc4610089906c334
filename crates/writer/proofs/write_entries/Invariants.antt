-- The nodes passed are laid behind the head.
use Rattle.std.proofs.Common.{◌+◌}
use Rattle.writer.specs.Entered.{Started}
use Rattle.writer.proofs.write_entries.Given as goal

abbrev pub invariant-loop-i : goal.invariant-loop-i
invariant-loop-i l = Started l.fn.buf l.entries (l.done + l.i) l.buf
