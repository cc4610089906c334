-- A number in decimal: the fewest last digits that it takes, no more of them than the exponent of a power of ten above it, and what std prints of it.
use mathlib.Core.Path.{◌≡◌, refl, sym, ap}
use mathlib.Core.Bool.{Bool, true, false}
use mathlib.Core.List.{List, [], ◌∷◌, ◌++◌}
use Prim.Native.Nat.{ℕ, zero, suc, ◌+◌, ◌-◌, ◌/◌, ◌%◌, ◌^◌, ◌≤◌, ◌<◌}
use native.Mathlib.Nat.{pow-suc, one-le-pow}
use native.Mathlib.Omega.{arith}
use lib.ListN.{length, length-append}
use lib.Dec.{eqb}
use borrow.Author.Tests.{eq-eqb, ne_eqb, eqb-false}
use Rattle.std.specs.Fmt.{decimal as printed}
use Rattle.std.proofs.lemmas.Fmt.{AppendsLastDigit, decimal_from_appends, length-decimal-le_succ}
use Rattle.rules.specs.Basic.{pick}
use Rattle.listing.specs.Digits.{last_digits, IsDigitCount}
use Rattle.listing.specs.Text.{leading, decimal}

-- no leading zeros: none at all, or a number that needs them all
data Least : (k n : ℕ) → Type 0 where
  none : {n : ℕ} → n ≡ 0 → Least zero n
  some : {k n : ℕ} → 10 ^ k ≤ n → n < 10 ^ suc k → Least (suc k) n

least-rest : (k n : ℕ) → Least (suc k) n → Least k (n / 10)
least-rest zero n (some l h) = none {n = n / 10} (omega (arith, pow-suc 10 0))
least-rest (suc k) n (some l h) = some {k = k} {n = n / 10} (omega (arith, pow-suc 10 k)) (omega (arith, pow-suc 10 (suc k)))

leading-digits : (f k n : ℕ) → n ≤ f → Least k n → leading f n ≡ last_digits k n
unfolding leading pick
leading-digits zero zero n h l = refl
leading-digits zero (suc k) n h (some l g) = absurd (omega (arith, one-le-pow k 10 (omega arith)))
leading-digits (suc f) zero n h (none e) = rw (eq-eqb n 0 e)
leading-digits (suc f) (suc k) n h (some l g) =
    let z : n ≡ 0 → ⊥ = λ e. omega (arith, one-le-pow k 10 (omega arith)) in
    rw (ne_eqb n 0 z) (ap (λ (a : List ℕ). a ++ ((48 + n % 10) ∷ [])) (leading-digits f k (n / 10) (omega arith) (least-rest k n (some l g))))

fewest-least : (n k : ℕ) → IsDigitCount n (suc k) → Least k (n / 10)
fewest-least n zero p = none {n = n / 10} (omega (arith, p.1, pow-suc 10 0))
fewest-least n (suc k) p =
    let d : suc (suc k) - 1 ≡ suc k = omega arith in
    let l : 10 ^ suc k ≤ n = rw d at (p.2 (omega arith)) in
    some {k = k} {n = n / 10} (omega (arith, pow-suc 10 k)) (omega (arith, p.1, pow-suc 10 (suc k)))

pub fewest-decimal : (n k : ℕ) → IsDigitCount n k → last_digits k n ≡ decimal n
unfolding decimal
fewest-decimal n zero p = absurd (omega (arith, p.0))
fewest-decimal n (suc k) p = ap (λ (a : List ℕ). a ++ ((48 + n % 10) ∷ [])) (sym (leading-digits n k (n / 10) (omega arith) (fewest-least n k p)))

leading-short : (f k n : ℕ) → n < 10 ^ k → length (leading f n) ≤ k
unfolding leading pick
leading-short zero k n h = omega arith
leading-short (suc f) k n h = go (eqb n 0) refl k h (λ j g. leading-short f j (n / 10) g)
  where
    rest : List ℕ
    rest = leading f (n / 10)

    go : (t : Bool) → eqb n 0 ≡ t → (k : ℕ) → n < 10 ^ k → ((j : ℕ) → n / 10 < 10 ^ j → length rest ≤ j)
        → length (pick t [] (rest ++ ((48 + n % 10) ∷ []))) ≤ k
    go true e k h r = omega arith
    go false e zero h r = absurd (eqb-false n 0 e (omega arith))
    go false e (suc k) h r =
        omega (arith, r k (omega (arith, pow-suc 10 k)), length-append rest ((48 + n % 10) ∷ []))

pub decimal-short : (k n : ℕ) → n < 10 ^ suc k → length (decimal n) ≤ suc k
unfolding decimal
decimal-short k n h =
    omega (arith, leading-short n k (n / 10) (omega (arith, pow-suc 10 k)), length-append (leading n (n / 10)) ((48 + n % 10) ∷ []))

-- as many digits of n as fit, its last one always
spelled : (most n : ℕ) → List ℕ
spelled zero n = []
spelled (suc k) n = leading k (n / 10) ++ ((48 + n % 10) ∷ [])

leading-none : (k : ℕ) → leading k 0 ≡ []
unfolding leading pick
leading-none zero = refl
leading-none (suc k) = refl

leading-some : (k n : ℕ) → 0 < n → leading k n ≡ spelled k n
unfolding leading pick spelled
leading-some zero n h = refl
leading-some (suc k) n h = let z : n ≡ 0 → ⊥ = λ e. omega arith in rw (ne_eqb n 0 z)

spelled-appends : AppendsLastDigit spelled
unfolding spelled
spelled-appends = record {
  one = λ k n h.
      let z : n / 10 ≡ 0 = omega arith in
      let d : n % 10 ≡ n = omega arith in
      rw (z, d, leading-none k);
  more = λ k n h. ap (λ (a : List ℕ). a ++ ((48 + n % 10) ∷ [])) (leading-some k (n / 10) (omega arith));
}

-- what std prints of a number of 64 bits is the number in decimal
pub printed-decimal : (n : ℕ) → n < 2 ^ 64 → printed n ≡ decimal n
unfolding decimal spelled
printed-decimal n h = sym (decimal_from_appends spelled spelled-appends (suc n) n h (omega (arith, length-decimal-le_succ n h)))
