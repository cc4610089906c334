-- The code's entry as contracts see it: as its kind and the nets above it.
use Rattle.std.specs.Prelude.{◌≡◌, ℕ, ◌<◌}
use Rattle.std.proofs.Common.{ap}
use Rattle.writer.specs.declared.entry.Entry.TheInside.{Inside}
use Rattle.writer.specs.Entries.{Entry, byte_of, entry_in, byte-entry}

abbrev pub entry_seen : Inside → Entry
entry_seen a = entry_in a.0

abbrev pub IsSixBits : Inside → Type 0
IsSixBits a = a.0 < 64

abbrev pub of_entry : Entry → Inside
of_entry e = record { 0 = byte_of e }

pub of_entry_ok : (a : Inside) → IsSixBits a → of_entry (entry_seen a) ≡ a
of_entry_ok a h = ap (λ (x : ℕ). record { 0 = x }) (byte-entry a.0 h)
