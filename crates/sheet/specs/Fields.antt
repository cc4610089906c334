-- The fields of a sheet's nodes in bytes, one for each node: 16 times its kind field, plus its position field.
use Rattle.std.specs.Prelude.{◌≡◌, List, [], ◌++◌, map, ℕ, ◌+◌, ◌*◌, ◌/◌, ◌%◌, ◌≤◌, length, take, drop}
use Rattle.std.proofs.Math.Option.{none}
use Rattle.rules.specs.Basic.{tabulate}
use Rattle.rules.specs.Bits.{Below, field}
use Rattle.rules.specs.Sheet.{Entry, entry, count_of, entries_of, nets, label}
use Rattle.rules.specs.Judgement.{scan, left_open}

-- the entry in a byte
unfoldable pub entry_in : ℕ → Entry
entry_in x = entry (x / 16) (x % 16)

-- the entries in bytes
abbrev pub entries_in : List ℕ → List Entry
entries_in fs = map entry_in fs

-- the row of nodes with these fields
abbrev pub row_in : List ℕ → List ℕ
row_in fs = map label (nets 0 [] (entries_in fs))

-- the six bits of each of a sheet's first n nodes
unfoldable pub fields_of : List ℕ → ℕ → List ℕ
fields_of s n = tabulate (λ i. field s (16 + 6 * i) 6) n

-- the bytes d with the first i of t over theirs
abbrev pub filled : List ℕ → List ℕ → ℕ → List ℕ
filled t d i = take i t ++ drop i d

-- a sheet's nodes, of which there are n, can be unpacked: they lie in it, and there is a byte for each
pub record Packed (s : List ℕ) (n : ℕ) (fields : List ℕ) : Type 0 where
  pub count : n ≡ count_of s
  pub within : 16 + 6 * n ≤ 8 * length s
  pub room : n ≤ length fields

-- the first bytes are the fields of the sheet's nodes
pub record Unpacked (s fields : List ℕ) : Type 0 where
  pub within : count_of s ≤ length fields
  pub low : Below 64 (take (count_of s) fields)
  pub entries : entries_in (take (count_of s) fields) ≡ entries_of s

-- at most 512 nodes with these fields have no fault under Ku and Kl, of at most three tracks, and no net is open after the last
pub record Faultless (ku kl : ℕ) (fs : List ℕ) : Type 0 where
  pub upper : ku ≤ 3
  pub lower : kl ≤ 3
  pub few : length fs ≤ 512
  pub clear : scan ku kl 1 0 (entries_in fs) ≡ none
  pub closed : left_open 0 (entries_in fs) ≡ 0
