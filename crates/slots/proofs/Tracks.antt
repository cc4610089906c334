-- Signed levels from −3 to 3 against heights: each law is worked out over this small range.
use mathlib.Core.Path.{◌≡◌, refl, sym, ap, ◌∙◌}
use mathlib.Core.Bool.{Bool, true, false, not}
use Prim.Native.Nat.{ℕ, min, zero, suc, ◌+◌, ◌-◌, ◌^◌, ◌≤◌, ◌<◌}
use native.Mathlib.Numerals.{add-one}
use native.Mathlib.Omega.{arith}
use lib.IntN.{ℤ, pos, negsuc, nat_abs, ◌+ℤ◌, ◌-ℤ◌}
use lib.Signed.{lt_z, non_neg}
use lib.Dec.{T, ltb}
use borrow.Author.Tests.{ltb-true, ltb-false, lt-ltb, le-ltb, le-leb, lt-leb}
use mir.Syntax.{w8, w16}
use mir.Val.{Fits, SFits, of_z, to_z}
use mir.ValLaws.{to_z-of_z, to_z_pos}
use Rattle.rules.specs.Basic.{pick}
use Rattle.rules.specs.declared.Kind.{Kind}
use Rattle.rules.specs.declared.Kind.TheVariants.{B, M, E, N}
use Rattle.rules.specs.Film.{axis, upper, upper_at, height_at}
use Rattle.std.proofs.Common.{int_cmp, int_eq, is_lt, is_eq, cond}
use Rattle.std.specs.declared.cmp.Ordering.TheVariants.{Less, Equal, Greater}
use Rattle.slots.specs.Heights.{high, Level, level}

level-fits : (z : ℤ) → Level z → SFits w8 z
unfolding high
level-fits (pos n) h = record { sfits = omega arith }
level-fits (negsuc n) h = record { sfits = omega arith }

-- the bits of a level, as the code passes it on, are the level's
pub kept : (z : ℤ) → Level z → to_z w8 (of_z w8 z) ≡ z
kept z h = to_z-of_z w8 z (level-fits z h)

pub kept_high : (z : ℤ) → Level z → high (to_z w8 (of_z w8 z)) ≡ high z
kept_high z h = ap high (kept z h)

same_test : (a b c d : ℕ) → (a < b → c < d) → (b ≤ a → d ≤ c) → ltb a b ≡ ltb c d
same_test a b c d f g = go (ltb a b) refl
  where
    go : (t : Bool) → ltb a b ≡ t → t ≡ ltb c d
    go true e = sym (lt-ltb c d (f (ltb-true a b e)))
    go false e = sym (le-ltb c d (g (ltb-false a b e)))

-- the levels of heights compare as the heights do
level-lt : (a b : ℕ) → lt_z (level a) (level b) ≡ ltb a b
unfolding level pick
level-lt a b = go (ltb a axis) refl (ltb b axis) refl
  where
    go : (s : Bool) → ltb a axis ≡ s → (t : Bool) → ltb b axis ≡ t → lt_z (pick s (negsuc (3 - a)) (pos (a - axis))) (pick t (negsuc (3 - b)) (pos (b - axis))) ≡ ltb a b
    go true e true f =
        let h : a < axis = ltb-true a axis e in
        let k : b < axis = ltb-true b axis f in
        same_test (3 - b) (3 - a) a b (λ l. omega arith) (λ l. omega arith)
    go true e false f =
        let h : a < axis = ltb-true a axis e in
        let k : axis ≤ b = ltb-false b axis f in
        sym (lt-ltb a b (omega arith))
    go false e true f =
        let h : axis ≤ a = ltb-false a axis e in
        let k : b < axis = ltb-true b axis f in
        sym (le-ltb a b (omega arith))
    go false e false f =
        let h : axis ≤ a = ltb-false a axis e in
        let k : axis ≤ b = ltb-false b axis f in
        same_test (a - axis) (b - axis) a b (λ l. omega arith) (λ l. omega arith)

lt-ranked : (b b' : Bool) → is_lt (cond b Less (cond b' Greater Equal)) ≡ b
lt-ranked true b' = refl
lt-ranked false true = refl
lt-ranked false false = refl

pub level-ranked : (a b : ℕ) → is_lt (int_cmp (level a) (level b)) ≡ ltb a b
level-ranked a b = lt-ranked (lt_z (level a) (level b)) (lt_z (level b) (level a)) ∙ level-lt a b

-- ---- the field of a level

record Field (z : ℤ) : Type 0 where
  sums : SFits w8 (z +ℤ pos 4)
  small : T (non_neg (to_z w8 (of_z w8 (z +ℤ pos 4)))) × Fits w16 (nat_abs (to_z w8 (of_z w8 (z +ℤ pos 4))))
  is : nat_abs (to_z w8 (of_z w8 (z +ℤ pos 4))) ≡ high z

field : (z : ℤ) → Level z → Field z
unfolding high
field (pos zero) h = record { sums = omega arith; small = (tt, omega arith); is = refl }
field (pos (suc zero)) h = record { sums = omega arith; small = (tt, omega arith); is = refl }
field (pos (suc (suc zero))) h = record { sums = omega arith; small = (tt, omega arith); is = refl }
field (pos (suc (suc (suc zero)))) h = record { sums = omega arith; small = (tt, omega arith); is = refl }
field (pos (suc (suc (suc (suc n))))) h = absurd (omega (arith, h.top))
field (negsuc zero) h = record { sums = omega arith; small = (tt, omega arith); is = refl }
field (negsuc (suc zero)) h = record { sums = omega arith; small = (tt, omega arith); is = refl }
field (negsuc (suc (suc zero))) h = record { sums = omega arith; small = (tt, omega arith); is = refl }
field (negsuc (suc (suc (suc n)))) h = absurd (omega (arith, h.low))

module _ (z : ℤ) (h : Level z) where
  pub field-sums : SFits w8 (to_z w8 (of_z w8 z) +ℤ pos 4)
  field-sums = rw (kept z h) (field z h).sums

  pub field-small : T (non_neg (to_z w8 (of_z w8 (to_z w8 (of_z w8 z) +ℤ pos 4)))) × Fits w16 (nat_abs (to_z w8 (of_z w8 (to_z w8 (of_z w8 z) +ℤ pos 4))))
  field-small = rw (kept z h) (field z h).small

  pub field_is : nat_abs (to_z w8 (of_z w8 (to_z w8 (of_z w8 z) +ℤ pos 4))) ≡ high z
  field_is = rw (kept z h) (field z h).is

  pub field-low : nat_abs (to_z w8 (of_z w8 (to_z w8 (of_z w8 z) +ℤ pos 4))) ≤ 7
  field-low = rw field_is h.top

-- ---- the level of a position

pub level-above : (u q : ℕ) → u ≤ 3 → 1 ≤ q → q ≤ u → Level (to_z w8 (u - q + 1)) × (high (to_z w8 (u - q + 1)) ≡ height_at u q)
unfolding high height_at pick
level-above u q h l k =
    let n : u - q + 1 < 2 ^ 7 = omega arith in
    rw (to_z_pos w8 (u - q + 1) n, le-leb q u k) (record { low = omega arith; top = omega arith }, refl)

below : (n : ℕ) → 1 ≤ n → n ≤ 3
    → Level (to_z w8 (of_z w8 (pos 0 -ℤ to_z w8 n))) × (high (to_z w8 (of_z w8 (pos 0 -ℤ to_z w8 n))) ≡ axis - n)
unfolding high
below zero h k = absurd (omega arith)
below (suc zero) h k = (record { low = omega arith; top = omega arith }, refl)
below (suc (suc zero)) h k = (record { low = omega arith; top = omega arith }, refl)
below (suc (suc (suc zero))) h k = (record { low = omega arith; top = omega arith }, refl)
below (suc (suc (suc (suc n)))) h k = absurd (omega arith)

pub level-below : (u q : ℕ) → u < q → q ≤ u + 3
    → Level (to_z w8 (of_z w8 (pos 0 -ℤ to_z w8 (q - u)))) × (high (to_z w8 (of_z w8 (pos 0 -ℤ to_z w8 (q - u)))) ≡ height_at u q)
unfolding height_at pick
level-below u q l k = rw (lt-leb q u l) (below (q - u) (omega arith) (omega arith))

-- ---- u by the kind

pub upper-own : (k : Kind) (ku a : ℕ) → (k ≡ N → ⊥) → min (a + 1) ku ≡ upper_at k ku a
unfolding upper upper_at
upper-own B ku a h = rw (add-one a) refl
upper-own M ku a h = rw (add-one a) refl
upper-own E ku a h = rw (add-one a) refl
upper-own N ku a h = absurd (h refl)

-- ---- levels that are not apart

level-ties : (b b' : Bool) → not (is_eq (cond b Less (cond b' Greater Equal))) ≡ false → (b ≡ false) × (b' ≡ false)
level-ties true b' e = let z : ◌≡◌ {A = ℕ} 0 1 = cc in absurd (omega arith)
level-ties false true e = let z : ◌≡◌ {A = ℕ} 0 1 = cc in absurd (omega arith)
level-ties false false e = (refl, refl)

pub level-same : (a b : ℕ) → not (int_eq (level a) (level b)) ≡ false → a ≡ b
level-same a b e =
    let t = level-ties (lt_z (level a) (level b)) (lt_z (level b) (level a)) e in
    omega (arith, ltb-false a b (sym (level-lt a b) ∙ t.0), ltb-false b a (sym (level-lt b a) ∙ t.1))
