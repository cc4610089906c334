-- The test of two rows passes exactly where they join the same pins and have the same blanks.
use mathlib.Core.Path.{◌≡◌, refl, sym}
use mathlib.Core.Bool.{Bool, true, false, ◌&&◌}
use mathlib.Core.List.{List}
use mathlib.Core.Logic.{◌↔◌}
use Prim.Native.Nat.{ℕ, zero, suc, ◌<◌}
use native.Mathlib.Nat.{le_of_suc-le-suc, not-suc-le-zero}
use native.Mathlib.Omega.{arith}
use lib.ListN.{length}
use lib.Dec.{eqb}
use borrow.Author.Tests.{eqb-true, eq-eqb}
use Rattle.rules.specs.Basic.{every}
use Rattle.rules.specs.Row.{blank, joined, SamePins}
use Rattle.rules.specs.Answers.{alike, same_pins}

by-test : {A : Type 0} (b : Bool) → (b ≡ true → A) → (b ≡ false → A) → A
by-test true t f = t refl
by-test false t f = f refl

never : false ≡ true → {A : Type 0} → A
never e = let z : ◌≡◌ {A = ℕ} 0 1 = cc in absurd (omega arith)

pub every_true : (f : ℕ → Bool) (n : ℕ) → ((i : ℕ) → i < n → f i ≡ true) → every f n ≡ true
unfolding every
every_true f zero h = refl
every_true f (suc n) h = rw (h 0 (omega arith)) (every_true (λ i. f (suc i)) n (λ i l. h (suc i) (omega arith)))

pub every-at : (f : ℕ → Bool) (n : ℕ) → every f n ≡ true → (i : ℕ) → i < n → f i ≡ true
unfolding every
every-at f zero e i l = absurd (not-suc-le-zero l)
every-at f (suc n) e i l = by-test (f 0) (λ t. go i l t (rw t at e) (every-at (λ j. f (suc j)) n)) (λ t. never (rw t at e))
  where
    go : (i : ℕ) → i < suc n → f 0 ≡ true → every (λ j. f (suc j)) n ≡ true
        → (every (λ j. f (suc j)) n ≡ true → (j : ℕ) → j < n → f (suc j) ≡ true) → f i ≡ true
    go zero l t r ih = t
    go (suc i) l t r ih = ih r i (le_of_suc-le-suc l)

alike_same : (a b : Bool) → alike a b ≡ true → a ≡ b
unfolding alike
alike_same true b e = sym e
alike_same false true e = never e
alike_same false false e = refl

same_alike : (a b : Bool) → a ≡ b → alike a b ≡ true
unfolding alike
same_alike true b e = sym e
same_alike false b e = rw (← e)

true-and : (a b : Bool) → a && b ≡ true → (a ≡ true) × (b ≡ true)
true-and true b e = (refl, e)
true-and false b e = never e

module _ (row row' : List ℕ) where
  blanks-alike : ℕ → Bool
  blanks-alike i = alike (blank row i) (blank row' i)

  joins-alike : ℕ → ℕ → Bool
  joins-alike i j = alike (joined row i j) (joined row' i j)

  pub same_test : SamePins row row' → same_pins row row' ≡ true
  unfolding same_pins blanks-alike joins-alike
  same_test s =
      let n : ℕ = length row in
      rw (
        eq-eqb n (length row') s.count,
        every_true blanks-alike n (λ i h. same_alike (blank row i) (blank row' i) (s.blanks i h)),
        every_true (λ i. every (joins-alike i) n) n
            (λ i h. every_true (joins-alike i) n (λ j l. same_alike (joined row i j) (joined row' i j) (s.joins i j h l))),
      )

  pub test-same : same_pins row row' ≡ true → SamePins row row'
  unfolding same_pins blanks-alike joins-alike
  test-same t =
      let n : ℕ = length row in
      let a = true-and (eqb n (length row') && every blanks-alike n) (every (λ i. every (joins-alike i) n) n) t in
      let b = true-and (eqb n (length row')) (every blanks-alike n) a.0 in
      record {
        count = eqb-true n (length row') b.0;
        joins = λ i j h l. alike_same (joined row i j) (joined row' i j) (every-at (joins-alike i) n (every-at (λ i. every (joins-alike i) n) n a.1 i h) j l);
        blanks = λ i h. alike_same (blank row i) (blank row' i) (every-at blanks-alike n b.1 i h);
      }

  pub pins-test : same_pins row row' ≡ true ↔ SamePins row row'
  pins-test = (test-same, same_test)

  pub other_test : (SamePins row row' → ⊥) → same_pins row row' ≡ false
  other_test n = by-test (same_pins row row') (λ t. absurd (n (test-same t))) (λ f. f)
