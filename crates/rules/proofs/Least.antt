-- least is at most its bound; the test holds there, if it is below the bound, and fails before.
use mathlib.Core.Path.{◌≡◌, refl}
use mathlib.Core.Bool.{Bool, true, false}
use Prim.Native.Nat.{ℕ, zero, suc, ◌≤◌, ◌<◌}
use native.Mathlib.Omega.{arith}
use Rattle.rules.specs.Basic.{pick, least}

pub least-le : (f : ℕ → Bool) (n : ℕ) → least f n ≤ n
unfolding least pick
least-le f zero = omega arith
least-le f (suc n) = go (f 0) (least-le (λ i. f (suc i)) n)
  where
    go : (b : Bool) → least (λ i. f (suc i)) n ≤ n → pick b 0 (suc (least (λ i. f (suc i)) n)) ≤ suc n
    go true h = omega arith
    go false h = omega arith

pub least-holds : (f : ℕ → Bool) (n : ℕ) → least f n < n → f (least f n) ≡ true
unfolding least pick
least-holds f zero h = absurd (omega arith)
least-holds f (suc n) h = go (f 0) refl h (λ r. least-holds (λ i. f (suc i)) n r)
  where
    m : ℕ
    m = least (λ i. f (suc i)) n

    go : (b : Bool) → f 0 ≡ b → pick b 0 (suc m) < suc n → (m < n → f (suc m) ≡ true) → f (pick b 0 (suc m)) ≡ true
    go true e r ih = e
    go false e r ih = ih (omega arith)

pub least-before : (f : ℕ → Bool) (n i : ℕ) → i < least f n → f i ≡ false
unfolding least pick
least-before f zero i h = absurd (omega arith)
least-before f (suc n) i h = go (f 0) refl i h (λ j r. least-before (λ i. f (suc i)) n j r)
  where
    m : ℕ
    m = least (λ i. f (suc i)) n

    go : (b : Bool) → f 0 ≡ b → (i : ℕ) → i < pick b 0 (suc m) → ((j : ℕ) → j < m → f (suc j) ≡ false) → f i ≡ false
    go true e i r ih = absurd (omega arith)
    go false e zero r ih = e
    go false e (suc i) r ih = ih i (omega arith)
