-- What an opening by words ensures: which ranks of the gap after it are marked, and which of the gap before it stay.
--
-- A new net at place p among b others, over an order of rank r, makes rank p · b! + r.
use Rattle.std.specs.Prelude.{◌≡◌, true, false, ◌&&◌, ◌||◌, List, ℕ, suc, ◌+◌, ◌*◌, ◌/◌, ◌%◌, ◌<◌, ◌≤◌, length}
use Rattle.rules.specs.Street.{fits}
use Rattle.steps.specs.Ranks.{fact}
use Rattle.steps.specs.Sets.{ranks, held, slot, bit, marked, source}

-- words that have no bit but those of 24 ranks are below this
abbrev pub wide : ℕ
wide = 16777216

-- the word w has the ranks before node g that slot k has bits for
pub record Before (s : List ℕ) (g k w : ℕ) : Type 0 where
  pub small : w < wide
  pub told : (r : ℕ) → held r ≡ true → slot r ≡ k → bit w (r % 24) ≡ source s g r

-- the word m has b! bits for each place of a new net among b others, 1 where the limits let it in
pub record Places (ku kl b m : ℕ) : Type 0 where
  pub small : m < wide
  pub told : (x : ℕ) → x < 24 → bit m x ≡ fits ku kl (suc (x / fact b)) (suc b)

-- of the ranks of a word only those below n are marked
abbrev pub Under : (w n : ℕ) → Type 0
Under w n = (i : ℕ) → n ≤ i → i < 24 → bit w i ≡ false

-- z has the low f bits of w four times
abbrev pub Copies : (w f z : ℕ) → Type 0
Copies w f z = (q r : ℕ) → q < 4 → r < f → bit z (q * f + r) ≡ bit w r

-- z has what the low four times f bits of w have, laid over each other
abbrev pub Joined : (w f z : ℕ) → Type 0
Joined w f z = (r : ℕ) → bit z r ≡ (bit w r || bit w (f + r)) || (bit w (2 * f + r) || bit w (3 * f + r))

-- t is s, in gap g of which nothing is marked, with the ranks that a new net among b leads to
pub record Opened (ku kl b : ℕ) (s : List ℕ) (g : ℕ) (t : List ℕ) : Type 0 where
  pub long : length t ≡ length s
  pub others : (h x : ℕ) → x < ranks → (h ≡ g → ⊥) → marked t h x ≡ marked s h x
  pub own : (x : ℕ) → held x ≡ true → marked t g x ≡ fits ku kl (suc (x / fact b)) (suc b) && source s g (x % fact b)

-- a new net among b leads from rank x to a marked rank of gap g
pub record Entered (ku kl b : ℕ) (s : List ℕ) (g x : ℕ) : Type 0 where
  pub at : ℕ
  pub fit : fits ku kl (suc at) (suc b) ≡ true
  pub kept : marked s g (at * fact b + x) ≡ true
