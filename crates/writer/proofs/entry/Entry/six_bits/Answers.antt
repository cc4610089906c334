-- The byte of an entry is its six bits, by `six-digits`.
use Rattle.writer.proofs.Laying.{six-digits}
use Rattle.writer.proofs.entry.Entry.six_bits.Goals as goal

pub returns : goal.returns
returns c = rw (c.from.ensures, ← c.self.view_is) (six-digits c.self.inside.0 c.self.invariant, c.self.invariant)
