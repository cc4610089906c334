-- A record stamped on a film, five bytes at its place, where the film reaches so far.
use Rattle.std.specs.Prelude.{List, ℕ, ◌+◌, ◌*◌, length, leb}
use Rattle.std.proofs.Math.Seq.{paste}
use Rattle.rules.specs.Basic.{pick}
use Rattle.rules.specs.Bits.{bytes}
use Rattle.rules.specs.Film.{Rec, rec_bits}

-- the columns that a record's field of 13 bits can hold
abbrev pub columns : ℕ
columns = 8192

-- the places of records that 16 bits can count, with slot k + 1 for place k
abbrev pub places : ℕ
places = 65536

-- the film with 40 bits as record i; left as it was where it ends before
unfoldable pub stamp : List ℕ → ℕ → List ℕ → List ℕ
stamp film i l = pick (leb (5 * i + 5) (length film)) (paste film (5 * i) (bytes l) 5) film

-- the film with a record at place i
unfoldable pub stamped : ℕ → Rec → List ℕ → List ℕ
stamped i r film = stamp film i (rec_bits r)
