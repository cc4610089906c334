-- Images of sets of ranks and sets of what passes a test, by their bits, and what the tables of orders of four say by bits.
use mathlib.Core.Path.{◌≡◌, refl, sym, ap, ◌∙◌}
use mathlib.Core.Bool.{Bool, true, false, ◌&&◌, ◌||◌}
use mathlib.Core.Logic.{◌⊎◌, inl, inr}
use Prim.Native.Nat.{ℕ, zero, suc, ◌+◌, ◌-◌, ◌*◌, ◌/◌, ◌%◌, ◌^◌, ◌<◌}
use native.Mathlib.Omega.{arith}
use lib.Bits.{bit_or, or_lt}
use lib.Pow.{pow_pos, pow-lt}
use lib.Dec.{eqb}
use borrow.Author.Tests.{eqb-true, eqb-false}
use Rattle.rules.specs.Basic.{pick}
use Rattle.rules.specs.Street.{fits}
use Rattle.steps.specs.Ranks.{fact}
use Rattle.steps.specs.Sets.{bit}
use Rattle.steps.specs.Four.{place_of, left_of, image, gather, piece_left, Comes, Left, Pulls, Legal}
use Rattle.steps.proofs.Bits.{not-both}
use Rattle.steps.proofs.Ranks.{at_lt, less-lt}
use Rattle.steps.proofs.Words.{bit-or, bit-zero, bit-power, bit-power-other, bit-mod, bit-shr, bit-upper, bit-lower}

-- one of two tests passes
pub either : (a b : Bool) → a || b ≡ true → (a ≡ true) ⊎ (b ≡ true)
either true b e = inl refl
either false b e = inr e

pub or-first : (a b : Bool) → a ≡ true → a || b ≡ true
or-first a b e = rw e

pub or-second : (a b : Bool) → b ≡ true → a || b ≡ true
or-second true b e = refl
or-second false b e = e

-- two tests pass
pub and_both : (a b : Bool) → a && b ≡ true → (a ≡ true) × (b ≡ true)
and_both true b e = (refl, e)
and_both false b e = absurd (not-both refl e)

pub and-true : (a b : Bool) → a ≡ true → b ≡ true → a && b ≡ true
and-true a b p q = rw (p, q)

pub and_none : (a : Bool) → a && false ≡ false
and_none true = refl
and_none false = refl

-- an element of an image has an origin
pub record Origin (f : ℕ → ℕ) (x n j : ℕ) : Type 0 where
  pub from : ℕ
  pub below : from < n
  pub within : bit x from ≡ true
  pub lands : f from ≡ j

module _ (f : ℕ → ℕ) (x : ℕ) where
  one-sound : (n j : ℕ) → bit (pick (bit x n) (2 ^ f n) 0) j ≡ true → Origin f x (suc n) j
  unfolding pick
  one-sound n j e = go (bit x n) refl e
    where
      go : (t : Bool) → bit x n ≡ t → bit (pick t (2 ^ f n) 0) j ≡ true → Origin f x (suc n) j
      go false h d = absurd (not-both (bit-zero j) d)
      go true h d = at (eqb j (f n)) refl
        where
          at : (b : Bool) → eqb j (f n) ≡ b → Origin f x (suc n) j
          at true q = record { from = n; below = omega arith; within = h; lands = sym (eqb-true j (f n) q) }
          at false q = absurd (not-both (bit-power-other (f n) j (eqb-false j (f n) q)) d)

  pub image-sound : (n j : ℕ) → bit (image f x n) j ≡ true → Origin f x n j
  unfolding image
  image-sound zero j e = absurd (not-both (bit-zero j) e)
  image-sound (suc n) j e =
      go (image-sound n j) (either (bit (image f x n) j) (bit (pick (bit x n) (2 ^ f n) 0) j)
      (sym (bit-or (image f x n) (pick (bit x n) (2 ^ f n) 0) j) ∙ e))
    where
      go : (bit (image f x n) j ≡ true → Origin f x n j) →
          (bit (image f x n) j ≡ true) ⊎ (bit (pick (bit x n) (2 ^ f n) 0) j ≡ true) → Origin f x (suc n) j
      go h (inl a) =
          let o = h a in
          record { from = o.from; below = omega arith; within = o.within; lands = o.lands }
      go h (inr b) = one-sound n j b

  pub image-full : (n m : ℕ) → m < n → bit x m ≡ true → bit (image f x n) (f m) ≡ true
  unfolding image pick
  image-full zero m h e = absurd (omega arith)
  image-full (suc n) m h e = bit-or (image f x n) (pick (bit x n) (2 ^ f n) 0) (f m) ∙ go (image-full n m) (eqb m n) refl
    where
      go : (m < n → bit x m ≡ true → bit (image f x n) (f m) ≡ true) → (b : Bool) → eqb m n ≡ b →
          bit (image f x n) (f m) || bit (pick (bit x n) (2 ^ f n) 0) (f m) ≡ true
      go k true q =
          let d : m ≡ n = eqb-true m n q in
          let v : bit x n ≡ true = rw d at e in
          or-second (bit (image f x n) (f m)) (bit (pick (bit x n) (2 ^ f n) 0) (f m)) (rw (v, d) (bit-power (f n)))
      go k false q = or-first (bit (image f x n) (f m)) (bit (pick (bit x n) (2 ^ f n) 0) (f m)) (k (omega (arith, eqb-false m n q)) e)

  pub image-below : (n k : ℕ) → ((m : ℕ) → m < n → f m < k) → image f x n < 2 ^ k
  unfolding image pick
  image-below zero k h = pow_pos k
  image-below (suc n) k h = or_lt k (image f x n) (pick (bit x n) (2 ^ f n) 0) (image-below n k (λ m l. h m (omega arith))) (go (bit x n))
    where
      go : (t : Bool) → pick t (2 ^ f n) 0 < 2 ^ k
      go true = pow-lt (h n (omega arith))
      go false = pow_pos k

module _ (t : ℕ → Bool) where
  digit-bit : (b : Bool) → bit (pick b 1 0) 0 ≡ b
  unfolding bit pick
  digit-bit true = refl
  digit-bit false = refl

  pub gather-below : (n : ℕ) → gather t n < 2 ^ n
  unfolding gather pick
  gather-below zero = omega arith
  gather-below (suc n) = go (t n) (gather-below n)
    where
      go : (b : Bool) → gather t n < 2 ^ n → pick b 1 0 * 2 ^ n + gather t n < 2 ^ suc n
      go true h = omega arith
      go false h = omega arith

  pub gather-bit : (n i : ℕ) → i < n → bit (gather t n) i ≡ t i
  unfolding gather
  gather-bit zero i h = absurd (omega arith)
  gather-bit (suc n) i h = go (gather-bit n i) (eqb i n) refl
    where
      top : bit (pick (t n) 1 0 * 2 ^ n + gather t n) n ≡ t n
      top =
          let e : n ≡ n + 0 = omega arith in
          ap (bit (pick (t n) 1 0 * 2 ^ n + gather t n)) e ∙ bit-upper (pick (t n) 1 0) n (gather t n) 0 (gather-below n) ∙
          digit-bit (t n)

      go : (i < n → bit (gather t n) i ≡ t i) → (b : Bool) → eqb i n ≡ b → bit (pick (t n) 1 0 * 2 ^ n + gather t n) i ≡ t i
      go k true q = rw (eqb-true i n q) top
      go k false q =
          let l : i < n = omega (arith, eqb-false i n q) in
          bit-lower (pick (t n) 1 0) n (gather t n) i (gather-below n) l ∙ k l

pub pulled : (f : ℕ → ℕ) (y z : ℕ) → z ≡ gather (λ i. bit y (f i)) 24 → Pulls f y z
pulled f y z e = rw e record { below = gather-below (λ i. bit y (f i)) 24; bits = λ i l. gather-bit (λ i. bit y (f i)) 24 i l }

pub legal-set : (ku kl b l : ℕ) → l ≡ gather (λ p. fits ku kl (suc p) b) b → Legal ku kl b l
legal-set ku kl b l e =
    rw e record { below = gather-below (λ p. fits ku kl (suc p) b) b; bits = λ i l. gather-bit (λ p. fits ku kl (suc p) b) b i l }

-- what is left is a rank of three
pub left_lt : (e i : ℕ) → i < 24 → left_of e i < 6
unfolding fact
left_lt e i h = less-lt (3 - e) 4 i (omega arith) h

pub place-lt : (e i : ℕ) → i < 24 → place_of e i < 4
unfolding fact
place-lt e i h = at_lt (3 - e) 4 i (omega arith) h

pub piece-below : (e p x : ℕ) → p < 4 → piece_left e p x < 64
piece-below e p x h = image-below (λ m. left_of e (6 * p + m)) x 6 6 (λ m l. left_lt e (6 * p + m) (omega arith))

-- the piece of p as a part of the whole
module _ (e x p : ℕ) (hp : p < 4) where
  abbrev part : ℕ
  part = x / 2 ^ (6 * p) % 64

  part-bit : (m : ℕ) → m < 6 → bit part m ≡ bit x (6 * p + m)
  part-bit m l = bit-mod (x / 2 ^ (6 * p)) 6 m l ∙ bit-shr x (6 * p) m

  pub piece-sound : (j : ℕ) → bit (piece_left e p part) j ≡ true → Comes e x j
  piece-sound j b =
      let o = image-sound (λ m. left_of e (6 * p + m)) part 6 j b in
      record { rank = 6 * p + o.from; below = omega arith; within = sym (part-bit o.from o.below) ∙ o.within; leaves = o.lands }

  pub piece-full : (i m : ℕ) → i ≡ 6 * p + m → m < 6 → bit x i ≡ true → bit (piece_left e p part) (left_of e i) ≡ true
  piece-full i m q l b =
      let d : bit x (6 * p + m) ≡ true = rw q at b in
      rw q (image-full (λ m. left_of e (6 * p + m)) part 6 m l (part-bit m l ∙ d))

-- the four pieces together
module _ (e x : ℕ) where
  abbrev piece : ℕ → ℕ
  piece p = piece_left e p (x / 2 ^ (6 * p) % 64)

  pub left-none : x ≡ 0 → Left e x 0
  left-none q =
      record { below = omega arith; sound = λ j b. absurd (not-both (bit-zero j) b); full = λ i h b. absurd (not-both (rw q (bit-zero i)) b) }

  pub left-all : (a b c d : ℕ) → a ≡ piece 0 → b ≡ piece 1 → c ≡ piece 2 → d ≡ piece 3 → Left e x (bit_or (bit_or a b) (bit_or c d))
  left-all a b c d ea eb ec ed = rw (ea, eb, ec, ed) record { below = below; sound = sound; full = full }
    where
      lt : (p : ℕ) → p < 4 → piece p < 2 ^ 6
      lt p h = piece-below e p (x / 2 ^ (6 * p) % 64) h

      below : bit_or (bit_or (piece 0) (piece 1)) (bit_or (piece 2) (piece 3)) < 64
      below =
          or_lt 6 (bit_or (piece 0) (piece 1)) (bit_or (piece 2) (piece 3)) (or_lt 6 (piece 0) (piece 1) (lt 0 (omega arith)) (lt 1 (omega arith)))
          (or_lt 6 (piece 2) (piece 3) (lt 2 (omega arith)) (lt 3 (omega arith)))

      bits : (j : ℕ) → bit (bit_or (bit_or (piece 0) (piece 1)) (bit_or (piece 2) (piece 3))) j ≡
          (bit (piece 0) j || bit (piece 1) j) || (bit (piece 2) j || bit (piece 3) j)
      bits j = rw (bit-or (bit_or (piece 0) (piece 1)) (bit_or (piece 2) (piece 3)) j, bit-or (piece 0) (piece 1) j, bit-or (piece 2) (piece 3) j)

      pair : (p q j : ℕ) → p < 4 → q < 4 → (bit (piece p) j ≡ true) ⊎ (bit (piece q) j ≡ true) → Comes e x j
      pair p q j hp hq (inl h) = piece-sound e x p hp j h
      pair p q j hp hq (inr h) = piece-sound e x q hq j h

      four : (j : ℕ) → (bit (piece 0) j || bit (piece 1) j ≡ true) ⊎ (bit (piece 2) j || bit (piece 3) j ≡ true) → Comes e x j
      four j (inl h) = pair 0 1 j (omega arith) (omega arith) (either (bit (piece 0) j) (bit (piece 1) j) h)
      four j (inr h) = pair 2 3 j (omega arith) (omega arith) (either (bit (piece 2) j) (bit (piece 3) j) h)

      sound : (j : ℕ) → bit (bit_or (bit_or (piece 0) (piece 1)) (bit_or (piece 2) (piece 3))) j ≡ true → Comes e x j
      sound j h = four j (either (bit (piece 0) j || bit (piece 1) j) (bit (piece 2) j || bit (piece 3) j) (sym (bits j) ∙ h))

      pieces : (i p : ℕ) → i / 6 ≡ p → p < 4 → bit x i ≡ true → bit (piece p) (left_of e i) ≡ true
      pieces i p q h b = piece-full e x p h i (i % 6) (omega arith) (omega arith) b

      by : (i p : ℕ) → i / 6 ≡ p → p < 4 → bit x i ≡ true →
          (bit (piece 0) (left_of e i) || bit (piece 1) (left_of e i)) || (bit (piece 2) (left_of e i) || bit (piece 3) (left_of e i)) ≡ true
      by i p q h b = at p h (pieces i p q h b)
        where
          t : ℕ → Bool
          t p = bit (piece p) (left_of e i)

          at : (p : ℕ) → p < 4 → t p ≡ true → (t 0 || t 1) || (t 2 || t 3) ≡ true
          at zero h b = or-first (t 0 || t 1) (t 2 || t 3) (or-first (t 0) (t 1) b)
          at (suc zero) h b = or-first (t 0 || t 1) (t 2 || t 3) (or-second (t 0) (t 1) b)
          at (suc (suc zero)) h b = or-second (t 0 || t 1) (t 2 || t 3) (or-first (t 2) (t 3) b)
          at (suc (suc (suc zero))) h b = or-second (t 0 || t 1) (t 2 || t 3) (or-second (t 2) (t 3) b)
          at (suc (suc (suc (suc p)))) h b = absurd (omega arith)

      full : (i : ℕ) → i < 24 → bit x i ≡ true →
          bit (bit_or (bit_or (piece 0) (piece 1)) (bit_or (piece 2) (piece 3))) (left_of e i) ≡ true
      full i h b = bits (left_of e i) ∙ by i (i / 6) refl (omega arith) b
