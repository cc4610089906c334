-- Tables that hold, by label, the first and the last node of a row that carries it, counted from 1.
use Rattle.std.specs.Prelude.{◌≡◌, Bool, not, ◌&&◌, List, ℕ, suc, ◌-◌, ◌≤◌, ◌<◌, length, get_or, eqb}
use Rattle.rules.specs.Basic.{pick}
use Rattle.rules.specs.Row.{home}

-- a table's entry for the label of node i
abbrev pub noted : (row table : List ℕ) → ℕ → ℕ
noted row table i = get_or table (get_or row i 0) 0

-- the table holds the first node of each label among the nodes from k on
pub record Firsts (row : List ℕ) (k : ℕ) (table : List ℕ) : Type 0 where
  pub cells : length table ≡ 256
  pub from : (i : ℕ) → k ≤ i → i < length row → noted row table i ≤ suc i
  pub counted : (i : ℕ) → k ≤ i → i < length row → 0 < noted row table i
  pub same : (i : ℕ) → k ≤ i → i < length row → get_or row (noted row table i - 1) 0 ≡ get_or row i 0

-- the table holds the last node of each label among the nodes before k
pub record Lasts (row : List ℕ) (k : ℕ) (table : List ℕ) : Type 0 where
  pub cells : length table ≡ 256
  pub upto : (i : ℕ) → i < k → i < noted row table i
  pub within : (i : ℕ) → i < k → noted row table i ≤ k
  pub same : (i : ℕ) → i < k → get_or row (noted row table i - 1) 0 ≡ get_or row i 0

-- the labels of a row: at the label of node i, the first node that carries it, and the last
pub record Tabled (row first last : List ℕ) : Type 0 where
  pub firsts : length first ≡ 256
  pub begins : (i : ℕ) → i < length row → noted row first i ≡ suc (home row i)
  pub lasts : Lasts row (length row) last

-- 1 where a label's first node is there and is the last
unfoldable pub alone : (first last : ℕ) → ℕ
alone first last = pick (eqb first 0) 0 (pick (eqb first last) 1 0)

-- the label is a net's, and its first and its last node are one
abbrev pub lone_label : (first last : List ℕ) → ℕ → Bool
lone_label first last x = not (eqb x 255) && eqb (get_or first x 0) (get_or last x 0)

-- of the labels below n none has one node only
abbrev pub Apart : (first last : List ℕ) → ℕ → Type 0
Apart first last n = (x : ℕ) → x < n → alone (get_or first x 0) (get_or last x 0) ≡ 0
