-- The film and the arrays by net that say where its records go, as the laying that they are, and what the functions on one net's records ensure.
use Rattle.std.specs.Prelude.{◌≡◌, List, [], ◌∷◌, ℕ, zero, suc, ◌+◌, ◌≤◌, ◌<◌, min, max, length, get_or, set, replicate}
use Rattle.rules.specs.Film.{Rec, across, upright, axis}
use Rattle.wires.specs.Laying.{Laying, laid}
use Rattle.slots.specs.Stamps.{columns, stamped}

-- what is lent: the film's bytes, and by net the slot of its next record, the slot that its open run holds, 0 for none, and the column where that run began
pub record Lent : Type 0 where
  pub film : List ℕ
  pub next : List ℕ
  pub held : List ℕ
  pub starts : List ℕ

abbrev pub lent : (film next held starts : List ℕ) → Lent
lent film next held starts = record { film = film; next = next; held = held; starts = starts }

-- the number of net n
abbrev pub read : List ℕ → ℕ → ℕ
read l n = get_or l n 0

abbrev pub laying : Lent → Laying (List ℕ)
laying p = record { film = p.film; next = read p.next; held = read p.held }

-- of each net 0: no run holds a slot
abbrev pub none-held : List ℕ
none-held = replicate 256 0

-- a number for each net, slots from 1 on, and columns that a record's field can hold
pub record Arrays (next held starts : List ℕ) : Type 0 where
  pub nexts : length next ≡ 256
  pub helds : length held ≡ 256
  pub begins : length starts ≡ 256
  pub from_one : (n : ℕ) → n < 256 → 1 ≤ read next n
  pub since : (n : ℕ) → read starts n < columns

-- 16 bits hold k more than any of the numbers
abbrev pub Room : ℕ → List ℕ → Type 0
Room k l = (n : ℕ) → read l n + k < 65536

-- the records were laid, with at most k slots of a net
pub record Laid (rs : List Rec) (k : ℕ) (p r : Lent) : Type 0 where
  pub records : laying r ≡ laid stamped (laying p) rs
  pub arrays : Arrays r.next r.held r.starts
  pub room : (j : ℕ) → Room (j + k) p.next → Room j r.next

-- a vertical between heights a and b
abbrev pub vertical : (net a b x : ℕ) → Rec
vertical net a b x = upright net (min a b) x (max a b)

-- the net's run on height o ended at column x, where a vertical leads to height h and a run begins
pub record Turned (net o h x : ℕ) (p r : Lent) : Type 0 where
  pub laid : Laid (across net o (read p.starts net) x ∷ vertical net h o x ∷ []) 2 p r
  pub held : r.held ≡ set p.held net (read p.next net + 1)
  pub starts : r.starts ≡ set p.starts net x

-- the net began at column x on height h
pub record Began (net h x : ℕ) (p r : Lent) : Type 0 where
  pub laid : Laid (vertical net axis h x ∷ []) 2 p r
  pub held : r.held ≡ set p.held net (read p.next net + 1)
  pub starts : r.starts ≡ set p.starts net x

-- the net ended at column x on height h
pub record Ended (net h x : ℕ) (p r : Lent) : Type 0 where
  pub laid : Laid (vertical net axis h x ∷ across net h (read p.starts net) x ∷ []) 1 p r
  pub held : r.held ≡ set p.held net 0
  pub starts : r.starts ≡ p.starts

-- the first slot of net n, where l has the number of each net's records
unfoldable pub summed : List ℕ → ℕ → ℕ
summed l zero = 1
summed l (suc n) = summed l n + read l n

-- the first slots of the nets, and the number of all records
pub record Summed (l l' : List ℕ) (r : ℕ) : Type 0 where
  pub nets : length l' ≡ 256
  pub slots : (n : ℕ) → n < 256 → read l' n ≡ summed l n
  pub all : suc r ≡ summed l 256
