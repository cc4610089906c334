-- Document 01, 'The sheet', with request 1's blanks: its fields, its bytes, the sheet of a placing, and the row that the reader gives back.
--
-- "Sheet" is document 01's own term.
use Rattle.std.specs.Prelude.{◌≡◌, Bool, false, ◌&&◌, List, [], ◌∷◌, ◌++◌, map, ℕ, zero, suc, ◌+◌, ◌-◌, ◌*◌, ◌/◌, ◌≤◌, ◌<◌, length, get_or, drop, leb}
use Rattle.std.proofs.Math.Option.{Option, none, some}
use Rattle.rules.specs.Basic.{tabulate}
use Rattle.rules.specs.declared.Kind.{Kind}
use Rattle.rules.specs.declared.Kind.TheVariants.{B, M, E, N}
use Rattle.rules.specs.Row.{Node, node, nodes, lone}
use Rattle.rules.specs.Street.{kind, next, Placing}
use Rattle.rules.specs.Bits.{digits, val, bits, bytes, field}

-- the track counts that the router takes
unfoldable pub takes : (ku kl : ℕ) → Bool
takes ku kl = leb ku 3 && leb kl 3

-- the kind field: B 0, M 1, E 2, a blank 3
unfoldable pub code : Kind → ℕ
code B = 0
code M = 1
code E = 2
code N = 3

-- the kind of a kind field, which has two bits
unfoldable pub kind_in : ℕ → Kind
kind_in zero = B
kind_in (suc zero) = M
kind_in (suc (suc zero)) = E
kind_in (suc (suc (suc f))) = N

-- a node's two fields: its kind, and p − 1, the number of nets above its own; at a blank that is s
pub data Entry : Type 0 where
  entry : (kind above : ℕ) → Entry

-- the entries of nodes with their positions
unfoldable pub entries : List Node → List ℕ → List Entry
entries [] ps = []
entries (n ∷ ns) [] = []
entries (n ∷ ns) (p ∷ ps) = entry (code (kind n)) (p - 1) ∷ entries ns ps

-- six bits an entry
unfoldable pub entry_bits : List Entry → List ℕ
entry_bits [] = []
entry_bits (entry f a ∷ es) = digits 2 f ++ (digits 4 a ++ entry_bits es)

-- the bytes of a sheet of n nodes: 2 + ⌈3n/4⌉
unfoldable pub size : ℕ → ℕ
size n = 2 + (3 * n + 3) / 4

-- the bits behind its last node
unfoldable pub padding : ℕ → ℕ
padding n = 8 * size n - (16 + 6 * n)

-- a sheet's bits: Ku in 4, Kl in 2, n in 10, the entries, zero bits to the end of the byte
unfoldable pub sheet_bits : (ku kl : ℕ) → List Entry → List ℕ
sheet_bits ku kl es =
    digits 4 ku ++ (digits 2 kl ++ (digits 10 (length es) ++ (entry_bits es ++ digits (padding (length es)) 0)))

-- the sheet of nodes with their positions
unfoldable pub sheet : (ku kl : ℕ) → List Node → List ℕ → List ℕ
sheet ku kl ns ps = bytes (sheet_bits ku kl (entries ns ps))

-- a row with a placing, under a node count and track counts that the router takes
pub record Placed (row : List ℕ) (ku kl : ℕ) (ps : List ℕ) : Type 0 where
  pub least : 2 ≤ length row
  pub most : length row ≤ 512
  pub whole : (i : ℕ) → i < length row → lone row i ≡ false
  pub upper : ku ≤ 3
  pub lower : kl ≤ 3
  pub placing : Placing ku kl (nodes row) ps

-- s is the sheet of some row's placing; the row's labels may be any numbers, since bytes cannot name 256 nets
pub record SheetOf (s : List ℕ) : Type 0 where
  pub row : List ℕ
  pub ku : ℕ
  pub kl : ℕ
  pub ps : List ℕ
  pub placed : Placed row ku kl ps
  pub is : s ≡ sheet ku kl (nodes row) ps

-- what stands in a sheet's fields
unfoldable pub upper_of : List ℕ → ℕ
upper_of s = field s 0 4

unfoldable pub lower_of : List ℕ → ℕ
lower_of s = field s 4 2

unfoldable pub count_of : List ℕ → ℕ
count_of s = field s 6 10

unfoldable pub entry_at : List ℕ → ℕ → Entry
entry_at s i = entry (field s (16 + 6 * i) 2) (field s (18 + 6 * i) 4)

unfoldable pub entries_of : List ℕ → List Entry
entries_of s = tabulate (entry_at s) (count_of s)

unfoldable pub padding_of : List ℕ → ℕ
padding_of s = val (drop (16 + 6 * count_of s) (bits s))

-- the nets begun after a node, where n were before it
unfoldable pub begun : Kind → ℕ → ℕ
begun B n = suc n
begun M n = n
begun E n = n
begun N n = n

-- the nets begun by entries, where n were before them
unfoldable pub begun_by : ℕ → List Entry → ℕ
begun_by n [] = n
begun_by n (entry f a ∷ es) = begun_by (begun (kind_in f) n) es

-- the nets of a sheet
unfoldable pub nets_of : List ℕ → ℕ
nets_of s = begun_by 0 (entries_of s)

-- the net at a node, by its number: a new net has the next, else it is the one with a others above; a blank has none
unfoldable pub net_at : Kind → ℕ → ℕ → List ℕ → Option ℕ
net_at B a n o = some n
net_at M a n o = some (get_or o a 0)
net_at E a n o = some (get_or o a 0)
net_at N a n o = none

-- the nets from an order of numbers on, with n nets begun: they are 0, 1, 2 in the order of their first nodes
unfoldable pub nets : ℕ → List ℕ → List Entry → List (Option ℕ)
nets n o [] = []
nets n o (entry f a ∷ es) =
    net_at (kind_in f) a n o ∷ nets (begun (kind_in f) n) (next (node (kind_in f) n) o (suc a)) es

-- the net at each pin of a sheet
unfoldable pub pins_of : List ℕ → List (Option ℕ)
pins_of s = nets 0 [] (entries_of s)

-- the reader's label: a net's number, and 255 for a blank
unfoldable pub label : Option ℕ → ℕ
label none = 255
label (some n) = n

-- the row that the reader gives back
unfoldable pub row_of : List ℕ → List ℕ
row_of s = map label (pins_of s)
