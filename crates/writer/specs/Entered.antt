-- Nodes' entries as a sheet's, and what writing them asks and gives.
use Rattle.std.specs.Prelude.{◌≡◌, List, [], ◌∷◌, ◌++◌, ℕ, ◌+◌, ◌*◌, ◌≤◌, length, take, drop}
use Rattle.rules.specs.Bits.{digits, bits}
use Rattle.rules.specs.Sheet.{Entry as SheetEntry, entry, entry_bits, size, code}
use Rattle.writer.specs.Entries.{Entry}

-- a node's entry, as the sheet's definition has it
abbrev pub entry_of : Entry → SheetEntry
entry_of e = entry (code e.kind) e.above

-- the entries of nodes
unfoldable pub listed : List Entry → List SheetEntry
listed [] = []
listed (e ∷ es) = entry_of e ∷ listed es

-- Ku, Kl and the number of nodes
unfoldable pub head_bits : (ku kl n : ℕ) → List ℕ
head_bits ku kl n = digits 4 ku ++ (digits 2 kl ++ digits 10 n)

-- the bits of the first i nodes
abbrev pub entered : List Entry → ℕ → List ℕ
entered es i = entry_bits (listed (take i es))

-- entries that have room behind the head
pub record Entering (buf : List ℕ) (es : List Entry) : Type 0 where
  pub few : length es ≤ 512
  pub room : 16 + 6 * length es ≤ 8 * length buf

-- a sheet that has room
pub record Writing (buf : List ℕ) (es : List Entry) : Type 0 where
  pub few : length es ≤ 512
  pub room : size (length es) ≤ length buf

-- a list with new in place of as many, from a place on
abbrev pub over : List ℕ → ℕ → List ℕ → List ℕ
over l at new = take at l ++ (new ++ drop (at + length new) l)

-- new bits stand from bit at on, and every other bit is as it was
pub record Laid (s : List ℕ) (at : ℕ) (new s' : List ℕ) : Type 0 where
  pub is : bits s' ≡ over (bits s) at new
  pub kept : length s' ≡ length s

-- the bits of the first r nodes stand behind the head
pub record Started (s : List ℕ) (es : List Entry) (r : ℕ) (s' : List ℕ) : Type 0 where
  pub within : r ≤ length es
  pub laid : Laid s 16 (entered es r) s'
