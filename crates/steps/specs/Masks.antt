-- Words of the ranks at which a touched net has room, and gaps that are made anew word by word.
use Rattle.std.specs.Prelude.{◌≡◌, Bool, true, false, ◌&&◌, List, ℕ, suc, ◌+◌, ◌-◌, ◌*◌, ◌%◌, ◌<◌, ◌≤◌, length, leb, ltb, eqb}
use Rattle.std.specs.Int.Bits.{bit_and}
use Rattle.rules.specs.Basic.{pick}
use Rattle.rules.specs.Street.{fits}
use Rattle.steps.specs.declared.plan.Stop.{Stop}
use Rattle.steps.specs.Plan.{turn_age}
use Rattle.steps.specs.Ranks.{RankOf, at_of}
use Rattle.steps.specs.Sets.{held, slot, word_at, bit, marked, source, Written}

-- p is at least lo and below hi
unfoldable pub between : (lo hi p : ℕ) → Bool
between lo hi p = leb lo p && ltb p hi

-- the words that ranks of b nets are in: of five nets one for each place of the fifth, of six for each place of the youngest such three
unfoldable pub slots_of : (b k : ℕ) → Bool
slots_of b k = pick (ltb b 5) (eqb k 0) (pick (eqb b 5) (between 1 4 k) (leb 5 k && between 1 4 ((k - 5) % 5)))

-- the net of age a keeps the limits where it stands in the order of rank r of b nets
unfoldable pub room_at : (ku kl a b r : ℕ) → Bool
room_at ku kl a b r = fits ku kl (suc (at_of a b r)) b

abbrev pub roomy : Stop → ℕ → Bool
roomy t r = room_at t.streets.upper t.streets.lower (turn_age t.step.turn) t.step.count r

-- the ranks before node g are of the nets that the stop finds open
abbrev pub Sources : Stop → List ℕ → ℕ → Type 0
Sources t s g = (r : ℕ) → source s g r ≡ true → RankOf t.step.count r

-- t is s but for the words of K in gap g, in which the ranks of Q are marked
pub record Redone (s : List ℕ) (g : ℕ) (K Q : ℕ → Bool) (t : List ℕ) : Type 0 where
  pub long : length t ≡ length s
  pub others : (h x : ℕ) → (h ≡ g → ⊥) → marked t h x ≡ marked s h x
  pub done : (x : ℕ) → held x ≡ true → K (slot x) ≡ true → marked t g x ≡ Q x
  pub left : (x : ℕ) → held x ≡ true → K (slot x) ≡ false → marked t g x ≡ marked s g x

-- t is s with w in slot k of gap g, which is those bits of the gap before it that m has too
pub record Sifted (s : List ℕ) (g k m w : ℕ) (t : List ℕ) : Type 0 where
  pub word : w ≡ bit_and (word_at s (g - 1) k) m
  pub put : Written s g k w t

-- for each rank of four older nets, bit r of m tells whether the net of age a of six has room between two streets of three tracks, where the
-- youngest has two or three above it, and the next e of the others
pub record InSix (a e m : ℕ) : Type 0 where
  pub below : m < 16777216
  pub bits : (d r : ℕ) → 2 ≤ d → d < 4 → r < 24 → bit m r ≡ room_at 3 3 a 6 (120 * d + (24 * e + r))
