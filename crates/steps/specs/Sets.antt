-- Sets of ranks in lent bytes: 90 bytes for the gap after each node, a bit for each rank that a set can hold.
use Rattle.std.specs.Prelude.{◌≡◌, Bool, true, false, ◌&&◌, ◌||◌, List, ℕ, zero, suc, ◌+◌, ◌-◌, ◌*◌, ◌/◌, ◌%◌, ◌^◌, ◌<◌, length, get_or, eqb, ltb, leb}
use Rattle.rules.specs.Basic.{pick}

-- the ranks of six nets, and the bytes of a gap
abbrev pub ranks : ℕ
ranks = 720

abbrev pub stretch : ℕ
stretch = 90

-- a set can hold rank r: it is one of at most five nets, or the youngest of six, whose place is r / 120, has two or three above it.
-- Six nets are open only between two streets of three tracks, and the limits let the youngest in there alone.
unfoldable pub held : ℕ → Bool
held r = ltb r 120 || (leb 240 r && ltb r 480)

-- the words of a gap, 24 ranks to a word, and the one that a rank is in
abbrev pub slots : ℕ
slots = 15

unfoldable pub slot : ℕ → ℕ
slot r = pick (ltb r 120) (r / 24) (r / 24 - 5)

-- the number that four bytes from place i on tell, the lowest first
unfoldable pub four_at : List ℕ → ℕ → ℕ
four_at s i = get_or s i 0 + 256 * (get_or s (i + 1) 0 + 256 * (get_or s (i + 2) 0 + 256 * get_or s (i + 3) 0))

-- the word in slot k of gap g; gap g is the one after node g, from 0
unfoldable pub word_at : List ℕ → (g k : ℕ) → ℕ
word_at s g k = four_at s (stretch * g + 4 * k)

-- bit i of a number is 1
unfoldable pub bit : (w i : ℕ) → Bool
bit w i = eqb (w / 2 ^ i % 2) 1

-- rank r of gap g is marked
unfoldable pub marked : List ℕ → (g r : ℕ) → Bool
marked s g r = held r && bit (word_at s g (slot r)) (r % 24)

-- the ranks before node g: those of the gap before it, and before node 0 rank 0 alone
unfoldable pub source : List ℕ → (g r : ℕ) → Bool
source s zero r = eqb r 0
source s (suc g) r = marked s g r

-- t is s with the word w in slot k of gap g
pub record Written (s : List ℕ) (g k w : ℕ) (t : List ℕ) : Type 0 where
  pub long : length t ≡ length s
  pub own : word_at t g k ≡ w
  pub others : (h j : ℕ) → j < slots → (h ≡ g → j ≡ k → ⊥) → word_at t h j ≡ word_at s h j

-- t is s with exactly the ranks of P marked in gap g
pub record Exactly (s : List ℕ) (g : ℕ) (P : ℕ → Type 0) (t : List ℕ) : Type 0 where
  pub long : length t ≡ length s
  pub others : (h x : ℕ) → x < ranks → (h ≡ g → ⊥) → marked t h x ≡ marked s h x
  pub sound : (x : ℕ) → x < ranks → marked t g x ≡ true → P x
  pub full : (x : ℕ) → x < ranks → P x → marked t g x ≡ true

-- t is s with only the ranks of P left in gap g
pub record Loses (s : List ℕ) (g : ℕ) (P : ℕ → Type 0) (t : List ℕ) : Type 0 where
  pub long : length t ≡ length s
  pub others : (h x : ℕ) → x < ranks → (h ≡ g → ⊥) → marked t h x ≡ marked s h x
  pub was : (x : ℕ) → x < ranks → marked t g x ≡ true → marked s g x ≡ true
  pub sound : (x : ℕ) → x < ranks → marked t g x ≡ true → P x
  pub full : (x : ℕ) → x < ranks → marked s g x ≡ true → P x → marked t g x ≡ true

-- no rank of gap g is marked
abbrev pub Empty : List ℕ → ℕ → Type 0
Empty s g = (x : ℕ) → x < ranks → marked s g x ≡ true → ⊥

-- a rank of gap g is marked
pub record Some (s : List ℕ) (g : ℕ) : Type 0 where
  pub rank : ℕ
  pub within : rank < ranks
  pub is : marked s g rank ≡ true

-- the answer to whether gap g is empty
abbrev pub Bare : List ℕ → ℕ → Bool → Type 0
Bare s g true = Empty s g
Bare s g false = Some s g

-- all bytes are 0
abbrev pub Clear : List ℕ → Type 0
Clear s = (i : ℕ) → get_or s i 0 ≡ 0
