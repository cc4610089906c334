-- Sets of orders of four nets in one word, bit i for the order of rank i; and the tables that tell what an ending leaves of them.
--
-- A net is named by its elders here, how many of the four are older: its age is 3 less that.
use Rattle.std.specs.Prelude.{◌≡◌, Bool, true, false, ◌&&◌, ◌||◌, List, [], ℕ, zero, suc, ◌+◌, ◌-◌, ◌*◌, ◌/◌, ◌%◌, ◌^◌, ◌≤◌, ◌<◌, length, get_or, leb, eqb}
use Rattle.std.specs.Int.Bits.{bit_and, bit_or}
use Rattle.rules.specs.Basic.{pick}
use Rattle.rules.specs.Street.{fits}
use Rattle.steps.specs.declared.plan.Stop.{Stop}
use Rattle.steps.specs.declared.end.Five.{Five}
use Rattle.steps.specs.Ranks.{fact, at_of, less_of}
use Rattle.steps.specs.Sets.{slots, word_at, bit}
use Rattle.steps.specs.Leading.{Reached, Onward}

-- in the order of rank i of four nets: how many stand above the net with e elders, and the rank of the three others
abbrev pub place_of : (e i : ℕ) → ℕ
place_of e i = at_of (3 - e) 4 i

abbrev pub left_of : (e i : ℕ) → ℕ
left_of e i = less_of (3 - e) 4 i

-- the set of f m for the m < n of the set x
unfoldable pub image : (f : ℕ → ℕ) (x n : ℕ) → ℕ
image f x zero = 0
image f x (suc n) = bit_or (image f x n) (pick (bit x n) (2 ^ f n) 0)

-- the set of the m < n that pass the test t
unfoldable pub gather : (t : ℕ → Bool) (n : ℕ) → ℕ
gather t zero = 0
gather t (suc n) = pick (t n) 1 0 * 2 ^ n + gather t n

-- y is the set of the ranks of three that are left where the net with e elders ends in the orders of x
pub record Comes (e x j : ℕ) : Type 0 where
  pub rank : ℕ
  pub below : rank < 24
  pub within : bit x rank ≡ true
  pub leaves : left_of e rank ≡ j

pub record Left (e x y : ℕ) : Type 0 where
  pub below : y < 64
  pub sound : (j : ℕ) → bit y j ≡ true → Comes e x j
  pub full : (i : ℕ) → i < 24 → bit x i ≡ true → bit y (left_of e i) ≡ true

-- z is the set of the ranks of four that f takes into y
pub record Pulls (f : ℕ → ℕ) (y z : ℕ) : Type 0 where
  pub below : z < 16777216
  pub bits : (i : ℕ) → i < 24 → bit z i ≡ bit y (f i)

-- of the ranks below n the word z, of 24 ranks, has those that pass the test t
pub record Mask (n : ℕ) (t : ℕ → Bool) (z : ℕ) : Type 0 where
  pub below : z < 16777216
  pub bits : (r : ℕ) → r < n → bit z r ≡ t r

-- what is left of the piece p of x, the orders with the youngest net at p
abbrev pub piece_left : (e p x : ℕ) → ℕ
piece_left e p x = image (λ m. left_of e (6 * p + m)) x 6

-- the entry of a table with two indices, and with three
abbrev pub entry₂ : List (List ℕ) → (i j : ℕ) → ℕ
entry₂ t i j = get_or (get_or t i []) j 0

abbrev pub entry₃ : List (List (List ℕ)) → (i j k : ℕ) → ℕ
entry₃ t i j k = get_or (get_or (get_or t i []) j []) k 0

abbrev pub pair₂ : List (List (ℕ × ℕ)) → (i j : ℕ) → ℕ × ℕ
pair₂ t i j = get_or (get_or t i []) j (0, 0)

-- the tables: what is left of a piece x where it is the one of p; what leads back; who stands where; where the net of a node may stand, of b that are
-- open there; a net's place in an order and the rank of the others
pub record TableWords (ls : List (List (List ℕ))) (bs ss : List (List ℕ)) (gs : List (List (List ℕ))) (ps : List (List (ℕ × ℕ))) : Type 0 where
  pub rest : (e p x : ℕ) → e < 4 → p < 4 → x < 64 → entry₃ ls e p x ≡ piece_left e p x
  pub back : (e y : ℕ) → e < 4 → y < 64 → entry₂ bs e y ≡ gather (λ i. bit y (left_of e i)) 24
  pub stand : (e q : ℕ) → e < 4 → q < 16 → entry₂ ss e q ≡ gather (λ i. bit q (place_of e i)) 24
  pub legal : (ku kl b : ℕ) → ku < 4 → kl < 4 → b < 8 → entry₃ gs ku kl b ≡ gather (λ p. fits ku kl (suc p) b) b
  pub spot : (e r : ℕ) → e < 4 → r < 24 → ((pair₂ ps e r).0 ≡ place_of e r) × ((pair₂ ps e r).1 ≡ left_of e r)

-- l is the set of the places where the net of a node may stand, of b that are open there
pub record Legal (ku kl b l : ℕ) : Type 0 where
  pub below : l < 2 ^ b
  pub bits : (p : ℕ) → p < b → bit l p ≡ fits ku kl (suc p) b

-- the word in slot k of the set before node g
unfoldable pub word_before : List ℕ → (g k : ℕ) → ℕ
word_before s zero zero = 1
word_before s zero (suc k) = 0
word_before s (suc g) k = word_at s g k

-- of b nets the one of age a ends, where it stands at a place of l: an order of P leaves rank x
pub record Leaves (b a l : ℕ) (P : ℕ → Bool) (x : ℕ) : Type 0 where
  pub rank : ℕ
  pub below : rank < fact b
  pub within : P rank ≡ true
  pub stands : bit l (at_of a b rank) ≡ true
  pub left : less_of a b rank ≡ x

-- n is the set of all ranks that are left
pub record Gone (b a l : ℕ) (P : ℕ → Bool) (n : ℕ) : Type 0 where
  pub below : n < 16777216
  pub sound : (x : ℕ) → bit n x ≡ true → Leaves b a l P x
  pub full : (r : ℕ) → r < fact b → P r ≡ true → bit l (at_of a b r) ≡ true → bit n (less_of a b r) ≡ true

-- the order of rank r leaves one of n
abbrev pub comes : (b a l n r : ℕ) → Bool
comes b a l n r = bit l (at_of a b r) && bit n (less_of a b r)

-- u is s with the word w j in each slot j of gap g that K has
pub record Changed (s : List ℕ) (g : ℕ) (w : ℕ → ℕ) (K : ℕ → Bool) (u : List ℕ) : Type 0 where
  pub long : length u ≡ length s
  pub others : (h j : ℕ) → j < slots → (h ≡ g → K j ≡ true → ⊥) → word_at u h j ≡ word_at s h j
  pub own : (j : ℕ) → K j ≡ true → word_at u g j ≡ w j

-- u is s with only the bits of m j left there
abbrev pub Anded : (s : List ℕ) (g : ℕ) (m : ℕ → ℕ) (K : ℕ → Bool) (u : List ℕ) → Type 0
Anded s g m K u = Changed s g (λ j. bit_and (word_at s g j) (m j)) K u

-- the word of the orders of five nets with the youngest at place k: it is at 1, 2 or 3. And the rank r of five nets in these words
unfoldable pub nth : Five → ℕ → ℕ
nth f zero = 0
nth f (suc zero) = f.second
nth f (suc (suc zero)) = f.third
nth f (suc (suc (suc zero))) = f.fourth
nth f (suc (suc (suc (suc k)))) = 0

abbrev pub within : Five → ℕ → Bool
within f r = bit (nth f (r / 24)) (r % 24)

-- of five nets one of the older ends, with e elders, and the youngest is left with d above it. With the youngest at d the net stands below it,
-- at one more than its place among the four; with the youngest at d + 1 above it, at that place. These are the orders of four where that is in l.
abbrev pub over_at : (e l d i : ℕ) → Bool
over_at e l d i = leb d (place_of e i) && bit l (suc (place_of e i))

abbrev pub under_at : (e l d i : ℕ) → Bool
under_at e l d i = leb (place_of e i) d && bit l (place_of e i)

-- z is the set of the ranks of four that pass the test t
pub record Passing (t : ℕ → Bool) (z : ℕ) : Type 0 where
  pub bits : (i : ℕ) → i < 24 → bit z i ≡ t i

-- n is left of the orders x with the youngest at d and y with the youngest at d + 1
pub record Piece (e l d x y n : ℕ) : Type 0 where
  pub all : ℕ
  pub bits : Passing (λ i. bit x i && over_at e l d i || bit y i && under_at e l d i) all
  pub left : Left e all n

-- the words of the orders of five that an ending with six open leaves
pub record SixLeft (t : Stop) (s : List ℕ) (g : ℕ) (f : Five) : Type 0 where
  pub sound : (x : ℕ) → x < 120 → within f x ≡ true → Reached t s g x
  pub full : (x : ℕ) → Reached t s g x → (x < 120) × (within f x ≡ true)

-- the words of the orders of the five older nets from which, with the youngest in the middle, such an ending leads on
pub record SixBack (t : Stop) (s : List ℕ) (g : ℕ) (f : Five) : Type 0 where
  pub sound : (q x : ℕ) → 2 ≤ q → q < 4 → 24 ≤ x → x < 96 → within f x ≡ true → Onward t s (suc g) (120 * q + x)
  pub full : (q x : ℕ) → 2 ≤ q → q < 4 → 24 ≤ x → x < 96 → Onward t s (suc g) (120 * q + x) → within f x ≡ true

-- the words have no order
abbrev pub none : Five → Bool
none f = eqb (bit_or (bit_or f.second f.third) f.fourth % 16777216) 0

-- a net of five that stands at a place of l has one, two or three above it
pub record Inside (l : ℕ) : Type 0 where
  pub top : bit l 0 ≡ false
  pub below : l < 16
