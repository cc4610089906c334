-- Document 01, 'The row and its words', with request 1's blanks: rows, nets, kinds, joined pins, lone labels.
--
-- A row is a list of labels, one byte a node. Document 01 counts nodes from 1; here node i is the one with i before it, and answers give i + 1.
use Rattle.std.specs.Prelude.{◌≡◌, Bool, true, false, not, ◌&&◌, List, [], ◌∷◌, ℕ, suc, ◌<◌, length, get_or, drop, eqb, ltb}
use Rattle.rules.specs.Basic.{pick, tabulate}
use Rattle.rules.specs.declared.Kind.{Kind}
use Rattle.rules.specs.declared.Kind.TheVariants.{B, M, E, N}

-- how many stand before the first x of a list; all, where x is not in it
unfoldable pub before : ℕ → List ℕ → ℕ
before x [] = 0
before x (y ∷ l) = pick (eqb y x) 0 (suc (before x l))

-- x stands in the list
unfoldable pub has : ℕ → List ℕ → Bool
has x l = ltb (before x l) (length l)

-- node i is a blank: its label is 255, which no net has
unfoldable pub blank : List ℕ → ℕ → Bool
blank row i = eqb (get_or row i 0) 255

-- nodes i and j are in one net: they carry one label, which is not that of blanks
unfoldable pub joined : List ℕ → ℕ → ℕ → Bool
joined row i j = not (blank row i) && eqb (get_or row i 0) (get_or row j 0)

-- the first node of node i's net; a net is known by it, since labels carry no other meaning
unfoldable pub home : List ℕ → ℕ → ℕ
home row i = before (get_or row i 0) row

-- a later node is in node i's net
unfoldable pub later : List ℕ → ℕ → Bool
later row i = has (get_or row i 0) (drop (suc i) row)

-- a node: its kind and its net; a blank, which has none, is known by itself
pub data Node : Type 0 where
  node : Kind → ℕ → Node

-- the kind of a node, by whether it is its net's first and whether a later one follows
unfoldable pub kind_of : Bool → Bool → Kind
kind_of true more = B
kind_of false true = M
kind_of false false = E

unfoldable pub node_at : List ℕ → ℕ → Node
node_at row i = pick (blank row i) (node N i) (node (kind_of (eqb (home row i) i) (later row i)) (home row i))

-- the nodes of a row, as the street rules see them
unfoldable pub nodes : List ℕ → List Node
nodes row = tabulate (node_at row) (length row)

-- the label of node i, which is no blank, stands at no other node
unfoldable pub lone : List ℕ → ℕ → Bool
lone row i = not (blank row i) && eqb (home row i) i && not (later row i)

-- two rows join the same pins: equally many nodes, any two in one net in both rows or in neither, and the same nodes blank
pub record SamePins (row row' : List ℕ) : Type 0 where
  pub count : length row ≡ length row'
  pub joins : (i j : ℕ) → i < length row → j < length row → joined row i j ≡ joined row' i j
  pub blanks : (i : ℕ) → i < length row → blank row i ≡ blank row' i
