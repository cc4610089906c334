-- Document 01, 'From sheet to wires', its last paragraph: the wire rules of document 000 for a film of records.
--
-- Segments have integer ends and lie along rows or columns, so two of them meet exactly if they share an integer point. "No track is
-- overfilled" is the letter's.
use Rattle.std.specs.Prelude.{◌≡◌, Bool, ◌&&◌, ◌⊎◌, ◌≢◌, ℕ, ◌+◌, ◌-◌, ◌*◌, ◌≤◌, ◌<◌, length, get_or, leb, ltb, eqb}
use mathlib.Core.List.{List, [], ◌∷◌, Memᴰ}
use Rattle.std.proofs.Math.Option.{Option, none, some}
use Rattle.rules.specs.Basic.{pick}
use Rattle.rules.specs.Film.{Rec, across, upright, axis}

unfoldable pub net_of : Rec → ℕ
net_of (across n h l r) = n
net_of (upright n l x h) = n

-- the record covers the point at column x and height y
unfoldable pub On : Rec → (x y : ℕ) → Type 0
On (across n h l r) x y = (y ≡ h) × (l ≤ x) × (x ≤ r)
On (upright n l c h) x y = (x ≡ c) × (l ≤ y) × (y ≤ h)

-- the net's records in the film join two points: both on one record, or by way of a third point
pub data Linked (net : ℕ) (film : List Rec) : (x y x' y' : ℕ) → Type 0 where
  on_one : {x y x' y' : ℕ} (r : Rec) → Memᴰ r film → net_of r ≡ net → On r x y → On r x' y' → Linked net film x y x' y'
  by_way : {x y x' y' : ℕ} (v w : ℕ) → Linked net film x y v w → Linked net film v w x' y' → Linked net film x y x' y'

-- a horizontal of the net meets the cut between columns c and c + 1
unfoldable pub over : (net c : ℕ) → Rec → Bool
over net c (across n h l r) = eqb n net && leb l c && ltb c r
over net c (upright n l x h) = Bool.false

-- how many do
unfoldable pub overs : (net c : ℕ) → List Rec → ℕ
overs net c [] = 0
overs net c (r ∷ film) = pick (over net c r) 1 0 + overs net c film

-- the film of pins with their nets, numbered as the records have them, under Ku and Kl tracks, the nodes pitch columns apart
pub record WireRules (pitch ku kl : ℕ) (pins : List (Option ℕ)) (film : List Rec) : Type 0 where
  -- no point is on two nets
  pub apart : (r r' : Rec) (x y : ℕ) → Memᴰ r film → Memᴰ r' film → On r x y → On r' x y → net_of r ≡ net_of r'
  -- a pin is touched by its own net alone, a blank by none
  pub own : (r : Rec) (i : ℕ) → Memᴰ r film → i < length pins → On r (pitch * i) axis → get_or pins i none ≡ some (net_of r)
  -- each net's records join all its nodes
  pub joins : (net i j : ℕ) → get_or pins i none ≡ some net → get_or pins j none ≡ some net
      → Linked net film (pitch * i) axis (pitch * j) axis
  -- a cut strictly between two columns meets at most one horizontal of a net
  pub cuts : (net c : ℕ) → overs net c film ≤ 1
  -- horizontals lie on tracks −Kl to Ku and never on the axis
  pub tracks : (n h l r : ℕ) → Memᴰ (across n h l r) film → (axis - kl ≤ h) × (h ≤ axis + ku) × (h ≢ axis)

-- a film that is drawn well besides: records have a length, verticals stay in the streets, and no track is overfilled, so that two
-- horizontals at one height are the same record or share no column
pub record Tidy (ku kl : ℕ) (film : List Rec) : Type 0 where
  pub wide : (n h l r : ℕ) → Memᴰ (across n h l r) film → l < r
  pub tall : (n l x h : ℕ) → Memᴰ (upright n l x h) film → (l < h) × (axis - kl ≤ l) × (h ≤ axis + ku)
  pub filled : (n h l r n' l' r' : ℕ) → Memᴰ (across n h l r) film → Memᴰ (across n' h l' r') film
      → (across n h l r ≡ across n' h l' r') ⊎ ((r < l') ⊎ (r' < l))
