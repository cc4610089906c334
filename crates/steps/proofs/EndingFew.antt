-- With fewer than four nets open the missing ones stand on top of four: the words of four serve an ending of one to four.
use mathlib.Core.Path.{◌≡◌, sym, ap, ap₂, ◌∙◌}
use mathlib.Core.Bool.{true, ◌&&◌}
use Prim.Native.Nat.{ℕ, zero, suc, ◌+◌, ◌-◌, ◌*◌, ◌%◌, ◌^◌, ◌≤◌, ◌<◌}
use native.Mathlib.Nat.{div-eq_of_lt, mod-eq_of_lt, zero-add, suc-add}
use native.Mathlib.Omega.{arith}
use lib.Bits.{bit_and}
use lib.Pow.{shl_exact, shl_lt}
use Rattle.steps.specs.Ranks.{fact, at_of, less_of}
use Rattle.steps.specs.Sets.{bit}
use Rattle.steps.specs.Four.{place_of, left_of, Left, Pulls, Mask, Leaves, Gone, comes}
use Rattle.steps.proofs.Ranks.{fact-most, under-above, spared-above}
use Rattle.steps.proofs.Words.{bit-and, bit-shl, bit-mod}
use Rattle.steps.proofs.FourSets.{and_both, and-true, left_lt}

-- a missing net on top
module _ (a b r : ℕ) (h : r < fact b) where
  at_top : at_of (suc a) (suc b) r ≡ suc (at_of a b r)
  unfolding at_of
  at_top = rw (div-eq_of_lt h, mod-eq_of_lt h) (under-above 0 (at_of a b r) (omega arith))

  less-top : less_of (suc a) (suc b) r ≡ less_of a b r
  unfolding less_of
  less-top = rw (div-eq_of_lt h, mod-eq_of_lt h, spared-above 0 (at_of a b r) (omega arith)) (omega arith)

-- k of them
at-tops : (k a b r : ℕ) → r < fact b → at_of (k + a) (k + b) r ≡ k + at_of a b r
at-tops zero a b r h = rw (zero-add a, zero-add b) (omega arith)
at-tops (suc k) a b r h =
    rw (suc-add k a, suc-add k b, suc-add k (at_of a b r)) (at_top (k + a) (k + b) r (omega (arith, fact-most b (k + b) (omega arith))) ∙
    ap suc (at-tops k a b r h))

less-tops : (k a b r : ℕ) → r < fact b → less_of (k + a) (k + b) r ≡ less_of a b r
less-tops zero a b r h = rw (zero-add a, zero-add b)
less-tops (suc k) a b r h =
    rw (suc-add k a, suc-add k b) (less-top (k + a) (k + b) r (omega (arith, fact-most b (k + b) (omega arith))) ∙ less-tops k a b r h)

pub fact-four : (b : ℕ) → b ≤ 4 → fact b ≤ 24
unfolding fact
fact-four b h = fact-most b 4 h

-- b nets, at most four, of which the one of age a ends
module _ (b a : ℕ) (ha : a < b) (hb : b ≤ 4) where
  age-four : 3 - (b - 1 - a) ≡ 4 - b + a
  age-four = omega arith

  count-four : 4 ≡ 4 - b + b
  count-four = omega arith

  pub place-few : (r : ℕ) → r < fact b → place_of (b - 1 - a) r ≡ 4 - b + at_of a b r
  place-few r h = ap₂ (λ (c d : ℕ). at_of c d r) age-four count-four ∙ at-tops (4 - b) a b r h

  pub left-few : (r : ℕ) → r < fact b → left_of (b - 1 - a) r ≡ less_of a b r
  left-few r h = ap₂ (λ (c d : ℕ). less_of c d r) age-four count-four ∙ less-tops (4 - b) a b r h

  module _ (l : ℕ) (hl : l < 2 ^ b) where
    shifted : l * 2 ^ (4 - b) % 4294967296 ≡ l * 2 ^ (4 - b)
    shifted = shl_exact b (4 - b) 32 hl (omega arith)

    pub places-lt : l * 2 ^ (4 - b) % 4294967296 < 16
    places-lt =
        let e : b + (4 - b) ≡ 4 = omega arith in
        let h : l * 2 ^ (4 - b) < 2 ^ 4 = rw e at (shl_lt b (4 - b) hl) in
        rw shifted h

    pub few-stands : (z : ℕ) → Pulls (place_of (b - 1 - a)) (l * 2 ^ (4 - b) % 4294967296) z → Mask (fact b) (λ r. bit l (at_of a b r)) z
    few-stands z p =
        record {
          below = p.below;
          bits = λ r h. p.bits r (omega (arith, fact-four b hb)) ∙
              ap₂ (λ (v i : ℕ). bit v i) shifted (place-few r h) ∙ bit-shl l (4 - b) (at_of a b r);
        }

    module _ (z : ℕ) (stands : (r : ℕ) → r < fact b → bit z r ≡ bit l (at_of a b r)) where
      pub few-gone : (w n : ℕ) → ((r : ℕ) → r < 24 → bit w r ≡ true → r < fact b) → Left (b - 1 - a) (bit_and w z) n →
          Gone b a l (bit w) n
      few-gone w n f t = record { below = omega (arith, t.below); sound = sound; full = full }
        where
          sound : (x : ℕ) → bit n x ≡ true → Leaves b a l (bit w) x
          sound x e =
              let c = t.sound x e in
              let (i, o) = and_both (bit w c.rank) (bit z c.rank) (sym (bit-and w z c.rank) ∙ c.within) in
              let h : c.rank < fact b = f c.rank c.below i in
              record {
                rank = c.rank;
                below = h;
                within = i;
                stands = sym (stands c.rank h) ∙ o;
                left = sym (left-few c.rank h) ∙ c.leaves;
              }

          full : (r : ℕ) → r < fact b → bit w r ≡ true → bit l (at_of a b r) ≡ true → bit n (less_of a b r) ≡ true
          full r h i o =
              ap (bit n) (sym (left-few r h)) ∙
              t.full r (omega (arith, fact-four b hb)) (bit-and w z r ∙ and-true (bit w r) (bit z r) i (stands r h ∙ o))

      pub few-comes : (n y : ℕ) → Pulls (left_of (b - 1 - a)) (n % 64) y → (r : ℕ) → r < fact b → bit (bit_and z y) r ≡ comes b a l n r
      few-comes n y p r h =
          let m : r < 24 = omega (arith, fact-four b hb) in
          let e : bit y r ≡ bit n (less_of a b r) =
          p.bits r m ∙ bit-mod n 6 (left_of (b - 1 - a) r) (left_lt (b - 1 - a) r m) ∙ ap (bit n) (left-few r h) in
          bit-and z y r ∙ ap₂ ◌&&◌ (stands r h) e
