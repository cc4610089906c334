-- A rank's mark is a bit of a word of its gap, where a set can hold the rank; and gaps of which only some marks are left.
use mathlib.Core.Path.{◌≡◌, refl, sym, ◌∙◌}
use mathlib.Core.Bool.{Bool, true, false}
use mathlib.Core.List.{List}
use Prim.Native.Nat.{ℕ, zero, suc, ◌+◌, ◌%◌, ◌<◌}
use native.Mathlib.Omega.{arith}
use lib.Dec.{eqb}
use borrow.Author.Tests.{eqb-true, eqb-false}
use Rattle.steps.specs.Sets.{ranks, held, slot, word_at, bit, marked, source, Loses}
use Rattle.steps.proofs.Slots.{held-few}

pub not-both : {t : Bool} → t ≡ false → t ≡ true → ⊥
not-both f e = let z : ◌≡◌ {A = ℕ} 0 1 = cc in omega arith

-- a number below k + 1 is k or below it
pub last_or : (P : Type 0) (q k : ℕ) → q < k + 1 → (q ≡ k → P) → (q < k → P) → P
last_or P q k h f g = go (eqb q k) refl
  where
    go : (b : Bool) → eqb q k ≡ b → P
    go true e = f (eqb-true q k e)
    go false e = g (omega (arith, eqb-false q k e))

-- a rank's mark is its bit, where a set can hold it, and none where not
module _ (s : List ℕ) (g r : ℕ) where
  pub marked-bit : held r ≡ true → marked s g r ≡ bit (word_at s g (slot r)) (r % 24)
  unfolding marked
  marked-bit h = rw h

  pub marked-none : held r ≡ false → marked s g r ≡ false
  unfolding marked
  marked-none h = rw h

  pub marked-held : marked s g r ≡ true → held r ≡ true
  marked-held e = go (held r) refl
    where
      go : (t : Bool) → held r ≡ t → t ≡ true
      go true h = refl
      go false h = absurd (not-both (marked-none h) e)

-- marks are the same where the bits of words are
pub marked-same : (s t : List ℕ) (g r : ℕ) →
    (held r ≡ true → bit (word_at t g (slot r)) (r % 24) ≡ bit (word_at s g (slot r)) (r % 24)) → marked t g r ≡ marked s g r
marked-same s t g r f = go (held r) refl
  where
    go : (b : Bool) → held r ≡ b → marked t g r ≡ marked s g r
    go true h = marked-bit t g r h ∙ f h ∙ sym (marked-bit s g r h)
    go false h = marked-none t g r h ∙ sym (marked-none s g r h)

-- the ranks before a node
pub source-none : (s : List ℕ) (g r : ℕ) → g ≡ 0 → source s g r ≡ eqb r 0
unfolding source
source-none s g r e = rw e

pub source-gap : (s : List ℕ) (g h r : ℕ) → g ≡ suc h → source s g r ≡ marked s h r
unfolding source
source-gap s g h r e = rw e

pub source-held : (s : List ℕ) (g r : ℕ) → source s g r ≡ true → held r ≡ true
unfolding source
source-held s zero r e = held-few r (omega (arith, eqb-true r 0 e))
source-held s (suc g) r e = marked-held s g r e

-- only some marks of a gap are left, told otherwise
pub loses-map : (s : List ℕ) (g : ℕ) (P Q : ℕ → Type 0) (t : List ℕ) → ((x : ℕ) → x < ranks → marked s g x ≡ true → P x → Q x) →
    ((x : ℕ) → x < ranks → marked s g x ≡ true → Q x → P x) → Loses s g P t → Loses s g Q t
loses-map s g P Q t to from h =
    record {
      long = h.long;
      others = h.others;
      was = h.was;
      sound = λ x l e. to x l (h.was x l e) (h.sound x l e);
      full = λ x l e q. h.full x l e (from x l e q);
    }
