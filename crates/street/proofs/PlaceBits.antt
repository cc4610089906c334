-- The bits of the places among b wires are the places that the limits allow a blank there, and a wire among b + 1.
use mathlib.Core.Path.{◌≡◌, refl, sym, ap, ap₂, ◌∙◌}
use mathlib.Core.Bool.{Bool, true, false, ◌&&◌, and-false}
use Prim.Native.Nat.{ℕ, zero, suc, ◌+◌, ◌-◌, ◌/◌, ◌%◌, ◌^◌, ◌≤◌, ◌<◌, min}
use native.Mathlib.Nat.{pow-suc, zero-div, div-one, div-div-eq-div-mul, mul_comm}
use native.Mathlib.Omega.{arith}
use lib.Dec.{T, leb, ltb, eqb, leb-zero, leb-suc-zero, leb-suc-suc}
use lib.Pow.{pow_pos}
use borrow.Author.Tests.{eq-eqb, le-ltb, lt-ltb, le-leb, leb-true, ltb-true}
use Rattle.rules.specs.declared.Kind.{Kind}
use Rattle.rules.specs.declared.Kind.TheVariants.{N}
use Rattle.rules.specs.Street.{fits_at, last}
use Rattle.rules.proofs.Fits.{FitsAt, fits_at→, →fits_at, Wired, wired-fits, fits-wired}
use Rattle.street.specs.Places.{marked, among}

-- ---- bits

-- bit a + 1 of a number is bit a of its half
marked-suc : (x a : ℕ) → marked x (suc a) ≡ marked (x / 2) a
unfolding marked
marked-suc x a =
    ap (λ (n : ℕ). eqb (n % 2) 1)
    (ap (λ (n : ℕ). x / n) (pow-suc 2 a ∙ mul_comm (2 ^ a) 2) ∙ sym (div-div-eq-div-mul x 2 (2 ^ a)))

marked-zero : (x : ℕ) → marked x 0 ≡ eqb (x % 2) 1
unfolding marked
marked-zero x = ap (λ (n : ℕ). eqb (n % 2) 1) (div-one x)

-- 0 has no bit set
pub no-bit : (a : ℕ) → marked 0 a ≡ false
unfolding marked
no-bit a = ap (λ (n : ℕ). eqb (n % 2) 1) (zero-div (2 ^ a))

-- the bits from f on and below t are set in 2 ^ t − 2 ^ f, and no others
pub marked-between : (f t a : ℕ) → marked (2 ^ t - 2 ^ f) a ≡ leb f a && ltb a t
marked-between f zero a =
    let none : 2 ^ 0 - 2 ^ f ≡ 0 = omega (arith, pow_pos f) in
    ap (λ (n : ℕ). marked n a) none ∙ no-bit a ∙ sym (ap (λ (s : Bool). leb f a && s) (le-ltb a 0 (omega arith)) ∙ and-false (leb f a))
marked-between zero (suc t) zero =
    let odd : (2 ^ suc t - 2 ^ 0) % 2 ≡ 1 = omega (arith, pow-suc 2 t, pow_pos t) in
    marked-zero (2 ^ suc t - 2 ^ 0) ∙ eq-eqb ((2 ^ suc t - 2 ^ 0) % 2) 1 odd ∙ sym (lt-ltb 0 (suc t) (omega arith))
marked-between (suc f) (suc t) zero =
    let even : (2 ^ suc t - 2 ^ suc f) % 2 ≡ 0 = omega (arith, pow-suc 2 t, pow-suc 2 f) in
    marked-zero (2 ^ suc t - 2 ^ suc f) ∙ ap (λ (n : ℕ). eqb n 1) even ∙ sym (ap (λ (s : Bool). s && ltb 0 (suc t)) (leb-suc-zero f))
marked-between zero (suc t) (suc a) =
    let half : (2 ^ suc t - 2 ^ 0) / 2 ≡ 2 ^ t - 2 ^ 0 = omega (arith, pow-suc 2 t, pow_pos t) in
    marked-suc (2 ^ suc t - 2 ^ 0) a ∙ ap (λ (n : ℕ). marked n a) half ∙ marked-between zero t a
    ∙ rw (leb-zero a, leb-zero (suc a)) (sym (leb-suc-suc (suc a) t))
marked-between (suc f) (suc t) (suc a) =
    let half : (2 ^ suc t - 2 ^ suc f) / 2 ≡ 2 ^ t - 2 ^ f = omega (arith, pow-suc 2 t, pow-suc 2 f) in
    marked-suc (2 ^ suc t - 2 ^ suc f) a ∙ ap (λ (n : ℕ). marked n a) half ∙ marked-between f t a
    ∙ sym (ap₂ (λ (r s : Bool). r && s) (leb-suc-suc f a) (leb-suc-suc (suc a) t))

-- ---- places

-- two tests that pass together are the same
same_test : (s t : Bool) → (T s → T t) → (T t → T s) → s ≡ t
same_test true true f g = refl
same_test true false f g = absurd (f tt)
same_test false true f g = absurd (g tt)
same_test false false f g = refl

tests-between : (f t a : ℕ) → T (leb f a && ltb a t) → (f ≤ a) × (a < t)
tests-between f t a h = go (leb f a) (ltb a t) refl refl h
  where
    go : (r s : Bool) → leb f a ≡ r → ltb a t ≡ s → T (r && s) → (f ≤ a) × (a < t)
    go true true e g h = (leb-true f a e, ltb-true a t g)
    go true false e g h = absurd h
    go false s e g h = absurd h

between-tests : (f t a : ℕ) → f ≤ a → a < t → T (leb f a && ltb a t)
between-tests f t a h g = rw (le-leb f a h, lt-ltb a t g) tt

module _ (ku kl a b : ℕ) where
  -- where the limits of a kind among n wires come to these bounds, its places are those among b wires
  among-fits : (k : Kind) (n : ℕ) → (b - kl ≤ a → a < suc (min b ku) → FitsAt k ku kl (suc a) n)
      → (FitsAt k ku kl (suc a) n → (b - kl ≤ a) × (a < suc (min b ku))) → marked (among ku kl b) a ≡ fits_at k ku kl (suc a) n
  unfolding among
  among-fits k n f g =
      marked-between (b - kl) (suc (min b ku)) a
      ∙ same_test (leb (b - kl) a && ltb a (suc (min b ku))) (fits_at k ku kl (suc a) n)
      (λ t. let h = tests-between (b - kl) (suc (min b ku)) a t in →fits_at ku kl (suc a) n k (f h.0 h.1))
      (λ t. let h = g (fits_at→ ku kl (suc a) n k t) in between-tests (b - kl) (suc (min b ku)) a h.0 h.1)

  -- they are the places of a blank among b wires
  pub among-blank : marked (among ku kl b) a ≡ fits_at N ku kl (suc a) b
  unfolding last
  among-blank = among-fits N b (λ h g. omega arith) (λ f. omega arith)

  -- and those of a wire among b + 1, where both streets together have a track for each
  pub among-wire : (k : Kind) → Wired k → b < ku + kl → marked (among ku kl b) a ≡ fits_at k ku kl (suc a) (suc b)
  among-wire k w room = among-fits k (suc b) (λ h g. fits-wired k w (omega arith)) (λ f. omega (arith, wired-fits k w f))

module _ (ku kl p b : ℕ) (k : Kind) where
  not-fits : (FitsAt k ku kl p b → ⊥) → fits_at k ku kl p b ≡ false
  not-fits h = same_test (fits_at k ku kl p b) false (λ t. h (fits_at→ ku kl p b k t)) (λ t. absurd t)

  -- nothing stands among more wires than both streets have tracks
  pub too_many : ku + kl < b → fits_at k ku kl p b ≡ false
  too_many h = not-fits (λ f. omega arith)

  -- no wire stands among none
  pub too_few : Wired k → b ≡ 0 → fits_at k ku kl p b ≡ false
  too_few w e = not-fits (λ f. omega (arith, wired-fits k w f))
