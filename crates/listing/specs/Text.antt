-- Document 01, 'Specimens', on `listrow`, with request 1's blanks: the text of the router's answer on an input, as bytes of ASCII.
use Rattle.std.specs.Prelude.{List, [], ◌∷◌, ◌++◌, ℕ, zero, suc, ◌+◌, ◌*◌, ◌/◌, ◌%◌, replicate, eqb}
use Rattle.std.specs.declared.result.Result.TheVariants.{Ok, Err}
use Rattle.rules.specs.Answers.{Routing}
use Rattle.rules.specs.Basic.{pick}
use Rattle.rules.specs.declared.Kind.{Kind}
use Rattle.rules.specs.declared.Kind.TheVariants.{B, M, E, N}
use Rattle.rules.specs.Street.{counted}
use Rattle.rules.specs.Sheet.{Entry, entry, kind_in, size, upper_of, lower_of, entries_of}
use Rattle.rules.specs.Judgement.{left}
use Rattle.rules.specs.Answers.{Said, route_said, routing, first_sheet}

-- the digits of n, none for 0; at most so many
unfoldable pub leading : (most n : ℕ) → List ℕ
leading zero n = []
leading (suc k) n = pick (eqb n 0) [] (leading k (n / 10) ++ ((48 + n % 10) ∷ []))

-- n in decimal: no leading zeros, `0` for 0
unfoldable pub decimal : ℕ → List ℕ
decimal n = leading n (n / 10) ++ ((48 + n % 10) ∷ [])

-- a field with the byte that ends it
unfoldable pub closed : List ℕ → ℕ → List ℕ
closed field end = field ++ (end ∷ [])

-- a line of four fields: one space between them, a line feed at the end
unfoldable pub line : (a b c d : List ℕ) → List ℕ
line a b c d = closed a 32 ++ (closed b 32 ++ (closed c 32 ++ closed d 10))

-- the words `sheet`, `refused` and `at`
unfoldable pub sheet_word : List ℕ
sheet_word = 115 ∷ 104 ∷ 101 ∷ 101 ∷ 116 ∷ []

unfoldable pub refused_word : List ℕ
refused_word = 114 ∷ 101 ∷ 102 ∷ 117 ∷ 115 ∷ 101 ∷ 100 ∷ []

unfoldable pub at_word : List ℕ
at_word = 97 ∷ 116 ∷ []

-- the kind letters B, M, E and N
unfoldable pub letter : Kind → ℕ
letter B = 66
letter M = 77
letter E = 69
letter N = 78

-- p of a node with a wires above; at a blank s, which is a
unfoldable pub place_in : Kind → ℕ → ℕ
place_in B a = suc a
place_in M a = suc a
place_in E a = suc a
place_in N a = a

-- `sheet`, n, Ku, Kl
unfoldable pub head_line : (n ku kl : ℕ) → List ℕ
head_line n ku kl = line sheet_word (decimal n) (decimal ku) (decimal kl)

-- a node, from 1: its number, its kind letter, p or s, and the open nets with its own if it has one, where b were open before it
unfoldable pub node_line : (i b : ℕ) → Entry → List ℕ
node_line i b (entry f a) = line (decimal i) (letter (kind_in f) ∷ []) (decimal (place_in (kind_in f) a)) (decimal (counted (kind_in f) b))

-- the nets open after a node, where b were before it
unfoldable pub open_after : ℕ → Entry → ℕ
open_after b (entry f a) = left (kind_in f) b

-- nodes from node i on, before which b nets are open
unfoldable pub node_lines : (i b : ℕ) → List Entry → List ℕ
node_lines i b [] = []
node_lines i b (e ∷ es) = node_line i b e ++ node_lines (suc i) (open_after b e) es

-- `refused`, number, `at`, place
unfoldable pub refused_line : Said → List ℕ
refused_line s = line refused_word (decimal s.number) at_word (decimal s.place)

-- the text of an answer, with the sheet that was written
unfoldable pub listed : Routing → (s : List ℕ) → List ℕ
listed (Ok n) s = head_line n (upper_of s) (lower_of s) ++ node_lines 1 0 (entries_of s)
listed (Err e) s = refused_line (route_said (Err e))

-- byte Ku, byte Kl, then the row; under two bytes, the empty row
unfoldable pub upper_in : List ℕ → ℕ
upper_in [] = 0
upper_in (ku ∷ []) = 0
upper_in (ku ∷ kl ∷ row) = ku

unfoldable pub lower_in : List ℕ → ℕ
lower_in [] = 0
lower_in (ku ∷ []) = 0
lower_in (ku ∷ kl ∷ row) = kl

unfoldable pub row_in : List ℕ → List ℕ
row_in [] = []
row_in (ku ∷ []) = []
row_in (ku ∷ kl ∷ row) = row

-- the router's answer with buffers that are long enough for every row that it takes
unfoldable pub answer : (row : List ℕ) (ku kl : ℕ) → Routing
answer row ku kl = routing row ku kl (replicate (90 * 512) 0) (replicate (size 512) 0)

-- the text of a row under Ku and Kl
unfoldable pub row_text : (row : List ℕ) (ku kl : ℕ) → List ℕ
row_text row ku kl = listed (answer row ku kl) (first_sheet row ku kl)

-- the text of an input
unfoldable pub input_text : List ℕ → List ℕ
input_text input = row_text (row_in input) (upper_in input) (lower_in input)
