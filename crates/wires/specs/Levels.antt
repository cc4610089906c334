-- Document 01, 'From sheet to wires', without a sweep: the height of a net over each unit stretch, and the records that follow from it.
--
-- A height is a level plus 4, as in the film's definition. Nodes count from 0, and so do columns after a node.
use Rattle.std.specs.Prelude.{◌≡◌, Bool, ◌≢◌, ◌↔◌, ℕ, suc, ◌+◌, ◌-◌, ◌*◌, ◌≤◌, ◌<◌, min, max, get_or, leb, ltb, eqb}
use mathlib.Core.List.{List, [], ◌∷◌, Memᴰ}
use Rattle.std.proofs.Math.Option.{Option, none, some}
use Rattle.rules.specs.Basic.{pick, put, keep}
use Rattle.rules.specs.declared.Kind.{Kind}
use Rattle.rules.specs.declared.Kind.TheVariants.{B, M, E, N}
use Rattle.rules.specs.Row.{before, has, node}
use Rattle.rules.specs.Street.{next}
use Rattle.rules.specs.Sheet.{kind_in, Entry, entry, begun, nets}
use Rattle.rules.specs.Film.{Rec, across, upright, axis, upper_at, height_at}

-- a node: the wires laid in the upper street, the nets open there from top to bottom, its own among them if it has one, and those open after it
pub record Stop : Type 0 where
  pub laid : ℕ
  pub there : List ℕ
  pub onward : List ℕ

-- the nets at a node, where o were open before it
unfoldable pub present : Kind → (a n : ℕ) → List ℕ → List ℕ
present B a n o = put a n o
present M a n o = o
present E a n o = o
present N a n o = o

-- the nodes of entries, from the order o of nets on, with n nets begun
unfoldable pub stops : (ku n : ℕ) → List ℕ → List Entry → List Stop
stops ku n o [] = []
stops ku n o (entry f a ∷ es) =
    let k = kind_in f in
    let o' = next (node k n) o (suc a) in
    record { laid = upper_at k ku a; there = present k a n o; onward = o' } ∷ stops ku (begun k n) o' es

-- the height of net x at a node
unfoldable pub height_in : Stop → ℕ → ℕ
height_in s x = height_at s.laid (suc (before x s.there))

-- net x goes up, or down, from one node to the next
unfoldable pub rises : Stop → Stop → ℕ → Bool
rises s t x = ltb (height_in s x) (height_in t x)

unfoldable pub sinks : Stop → Stop → ℕ → Bool
sinks s t x = ltb (height_in t x) (height_in s x)

-- how many nets of an order pass a test: all, those above x, those below x
unfoldable pub count : (ℕ → Bool) → List ℕ → ℕ
count f [] = 0
count f (y ∷ o) = pick (f y) 1 0 + count f o

unfoldable pub above : (ℕ → Bool) → ℕ → List ℕ → ℕ
above f x [] = 0
above f x (y ∷ o) = pick (eqb y x) 0 (pick (f y) 1 0 + above f x o)

unfoldable pub below : (ℕ → Bool) → ℕ → List ℕ → ℕ
below f x [] = 0
below f x (y ∷ o) = pick (eqb y x) (count f o) (below f x o)

-- the column, counted from node s, at which net x moves on its way to node t: wires going up move first, topmost first, then
-- wires going down, bottommost first, in columns 1, 2, 3 and so on
unfoldable pub turn_at : Stop → Stop → ℕ → ℕ
turn_at s t x =
    pick (rises s t x) (suc (above (rises s t) x s.onward)) (suc (count (rises s t) s.onward + below (sinks s t) x s.onward))

-- the height of net x over the stretch between columns d and d + 1 after node s
unfoldable pub level_in : Stop → Stop → (d x : ℕ) → ℕ
level_in s t d x = pick (leb (turn_at s t x) d) (height_in t x) (height_in s x)

-- the height of net x over the stretch between columns c and c + 1, where it is open there; nodes are pitch columns apart
unfoldable pub level_at : ℕ → List Stop → (c x : ℕ) → Option ℕ
level_at pitch [] c x = none
level_at pitch (s ∷ []) c x = none
level_at pitch (s ∷ t ∷ ss) c x = pick (ltb c pitch) (keep (has x s.onward) (level_in s t c x)) (level_at pitch (t ∷ ss) (c - pitch) x)

-- a longest run at height h, from column l to column r, of a net with these heights
pub record Longest (level : ℕ → Option ℕ) (h l r : ℕ) : Type 0 where
  pub wide : l < r
  pub flat : (c : ℕ) → l ≤ c → c < r → level c ≡ some h
  pub begins : (c : ℕ) → suc c ≡ l → level c ≢ some h
  pub ends : level r ≢ some h

-- the heights of the nodes' own wires there; a blank has none, and what stands for it is never read
unfoldable pub own : ℕ → List Entry → List ℕ
own ku [] = []
own ku (entry f a ∷ es) = height_at (upper_at (kind_in f) ku a) (suc a) ∷ own ku es

-- the height of net x over the stretch after column c, in a film of entries
abbrev pub level : (pitch ku : ℕ) → List Entry → (x c : ℕ) → Option ℕ
level pitch ku es x c = level_at pitch (stops ku 0 [] es) c x

-- a film has a horizontal of net x at height h over the stretch between columns c and c + 1
pub record Over (film : List Rec) (x c h : ℕ) : Type 0 where
  pub left : ℕ
  pub right : ℕ
  pub among : Memᴰ (across x h left right) film
  pub begins : left ≤ c
  pub ends : c < right

-- the records that the rules ask for: the longest runs, a vertical at each change of height, and a stub at each pin that has a net
pub data Ruled (pitch ku : ℕ) (es : List Entry) : Rec → Type 0 where
  run : {x h l r : ℕ} → Longest (level pitch ku es x) h l r → Ruled pitch ku es (across x h l r)
  move : {x c a b l h : ℕ} → level pitch ku es x c ≡ some a → level pitch ku es x (suc c) ≡ some b → a ≢ b → l ≡ min a b → h ≡ max a b
      → Ruled pitch ku es (upright x l (suc c) h)
  stub : {x l c h : ℕ} (i : ℕ) → get_or (nets 0 [] es) i none ≡ some x → c ≡ pitch * i
      → l ≡ min axis (get_or (own ku es) i axis) → h ≡ max axis (get_or (own ku es) i axis) → Ruled pitch ku es (upright x l c h)

-- no record stands twice
pub data Distinct : List Rec → Type 0 where
  nothing : Distinct []
  another : {r : Rec} {film : List Rec} → (Memᴰ r film → ⊥) → Distinct film → Distinct (r ∷ film)

-- a film has the records of the rules, each once, and no other
pub record ByRule (pitch ku : ℕ) (es : List Entry) (film : List Rec) : Type 0 where
  pub exactly : (r : Rec) → Memᴰ r film ↔ Ruled pitch ku es r
  pub once : Distinct film
