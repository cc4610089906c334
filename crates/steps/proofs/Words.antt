-- Bits of numbers under the operations on words, and words that are put into the lent bytes.
use mathlib.Core.Path.{◌≡◌, refl, sym, ap, ◌∙◌}
use mathlib.Core.Bool.{Bool, true, false, ◌&&◌, ◌||◌}
use mathlib.Core.List.{List}
use Prim.Native.Nat.{ℕ, zero, suc, ◌+◌, ◌-◌, ◌*◌, ◌/◌, ◌%◌, ◌^◌, ◌≤◌, ◌<◌, min, max}
use native.Mathlib.Nat.{div_self, div-eq_of_lt, zero-div, mod-lt, mul_assoc}
use native.Mathlib.Omega.{arith}
use Rattle.std.specs.Int.{w32, to_le_bytes}
use lib.ListN.{length, get_or, set, length-set}
use lib.Seq.{get_or-set_same, get_or-set_other}
use lib.Bits.{bit_and, bit_or, and_shr, or_shr, and_step, or_step, shifted_even, or_shifted}
use lib.Pow.{pow_pos, pow-lt, pow_mono, pow-add, shl-shr, shr-shr, split, high}
use lib.Dec.{eqb, ltb}
use borrow.Author.Tests.{ltb-true, ltb-false, eqb-false, eq-eqb, ne_eqb}
use Rattle.steps.specs.Sets.{stretch, slots, four_at, word_at, bit, Written}

-- two digits are one of four pairs
digits : (P : ℕ → ℕ → Type 0) → P 0 0 → P 0 1 → P 1 0 → P 1 1 → (x y : ℕ) → x < 2 → y < 2 → P x y
digits P a b c d zero zero h l = a
digits P a b c d zero (suc zero) h l = b
digits P a b c d zero (suc (suc y)) h l = absurd (omega arith)
digits P a b c d (suc zero) zero h l = c
digits P a b c d (suc zero) (suc zero) h l = d
digits P a b c d (suc zero) (suc (suc y)) h l = absurd (omega arith)
digits P a b c d (suc (suc x)) y h l = absurd (omega arith)

-- a digit of two is told by tests of the two
abbrev Tells : (ℕ → ℕ → ℕ) → (Bool → Bool → Bool) → (x y : ℕ) → Type 0
Tells f h x y = (f x y < 2) × (eqb (f x y) 1 ≡ h (eqb x 1) (eqb y 1))

-- the low bit of a number made digit by digit
combined : (f : ℕ → ℕ → ℕ) (h : Bool → Bool → Bool) → Tells f h 0 0 → Tells f h 0 1 → Tells f h 1 0 → Tells f h 1 1 →
    (v q a b : ℕ) → v ≡ q * 2 + f (a % 2) (b % 2) → eqb (v % 2) 1 ≡ h (eqb (a % 2) 1) (eqb (b % 2) 1)
combined f h t₀ t₁ t₂ t₃ v q a b e =
    let (l, m) = digits (Tells f h) t₀ t₁ t₂ t₃ (a % 2) (b % 2) (omega arith) (omega arith) in
    let d : v % 2 ≡ f (a % 2) (b % 2) = omega arith in
    ap (λ (x : ℕ). eqb x 1) d ∙ m

module _ (a b i : ℕ) where
  pub bit-and : bit (bit_and a b) i ≡ bit a i && bit b i
  unfolding bit
  bit-and =
      let x : ℕ = a / 2 ^ i in
      let y : ℕ = b / 2 ^ i in
      ap (λ (d : ℕ). eqb (d % 2) 1) (and_shr a b i) ∙
      combined min ◌&&◌ (omega arith, refl) (omega arith, refl) (omega arith, refl) (omega arith, refl) (bit_and x y) (bit_and (x / 2) (y / 2)) x y (and_step x y)

  pub bit-or : bit (bit_or a b) i ≡ bit a i || bit b i
  unfolding bit
  bit-or =
      let x : ℕ = a / 2 ^ i in
      let y : ℕ = b / 2 ^ i in
      ap (λ (d : ℕ). eqb (d % 2) 1) (or_shr a b i) ∙
      combined max ◌||◌ (omega arith, refl) (omega arith, refl) (omega arith, refl) (omega arith, refl) (bit_or x y) (bit_or (x / 2) (y / 2)) x y (or_step x y)

-- a bit as it is tested
module _ (w i : ℕ) where
  pub bit-set : w / 2 ^ i % 2 ≡ 1 → bit w i ≡ true
  unfolding bit
  bit-set h = eq-eqb (w / 2 ^ i % 2) 1 h

  pub bit-unset : (w / 2 ^ i % 2 ≡ 1 → ⊥) → bit w i ≡ false
  unfolding bit
  bit-unset h = ne_eqb (w / 2 ^ i % 2) 1 h

-- shifts
pub bit-shr : (w k i : ℕ) → bit (w / 2 ^ k) i ≡ bit w (k + i)
unfolding bit
bit-shr w k i = ap (λ (d : ℕ). eqb (d % 2) 1) (shr-shr w k i)

pub bit-shl : (w k i : ℕ) → bit (w * 2 ^ k) (k + i) ≡ bit w i
bit-shl w k i = sym (bit-shr (w * 2 ^ k) k i) ∙ ap (λ (d : ℕ). bit d i) (shl-shr w k)

pub bit-shl-low : (w k i : ℕ) → i < k → bit (w * 2 ^ k) i ≡ false
unfolding bit
bit-shl-low w k i h =
    let m : ℕ = k - i - 1 in
    let e : k ≡ suc m + i = omega arith in
    let d : w * 2 ^ k ≡ w * 2 ^ suc m * 2 ^ i =
    ap (λ (n : ℕ). w * 2 ^ n) e ∙ ap (λ (n : ℕ). w * n) (pow-add 2 (suc m) i) ∙ sym (mul_assoc w (2 ^ suc m) (2 ^ i)) in
    ap (λ (n : ℕ). eqb (n / 2 ^ i % 2) 1) d ∙ ap (λ (n : ℕ). eqb (n % 2) 1) (shl-shr (w * 2 ^ suc m) i) ∙
    ap (λ (n : ℕ). eqb n 1) (shifted_even w m)

pub bit_high : (w n i : ℕ) → w < 2 ^ n → n ≤ i → bit w i ≡ false
unfolding bit
bit_high w n i h l =
    let m : w < 2 ^ i = omega (arith, pow_mono l) in
    ap (λ (d : ℕ). eqb (d % 2) 1) (div-eq_of_lt m)

pub bit-zero : (i : ℕ) → bit 0 i ≡ false
unfolding bit
bit-zero i = ap (λ (d : ℕ). eqb (d % 2) 1) (zero-div (2 ^ i))

-- the bits of a power of two
pub bit-power : (n : ℕ) → bit (2 ^ n) n ≡ true
unfolding bit
bit-power n = ap (λ (d : ℕ). eqb (d % 2) 1) (div_self (pow_pos n))

pub bit-power-other : (m n : ℕ) → (n ≡ m → ⊥) → bit (2 ^ m) n ≡ false
bit-power-other m n f = go (ltb n m) refl
  where
    go : (t : Bool) → ltb n m ≡ t → bit (2 ^ m) n ≡ false
    go true e = ap (λ (d : ℕ). bit d n) (omega arith) ∙ bit-shl-low 1 m n (ltb-true n m e)
    go false e = bit_high (2 ^ m) (suc m) n (pow-lt (omega arith)) (omega (arith, ltb-false n m e, f))

-- two parts of a number
pub bit-upper : (a k r i : ℕ) → r < 2 ^ k → bit (a * 2 ^ k + r) (k + i) ≡ bit a i
bit-upper a k r i h = sym (bit-shr (a * 2 ^ k + r) k i) ∙ ap (λ (d : ℕ). bit d i) (high a k h)

pub bit-lower : (a k r i : ℕ) → r < 2 ^ k → i < k → bit (a * 2 ^ k + r) i ≡ bit r i
bit-lower a k r i h l =
    ap (λ (d : ℕ). bit d i) (sym (or_shifted a k r h)) ∙ bit-or (a * 2 ^ k) r i ∙
    ap (λ (t : Bool). t || bit r i) (bit-shl-low a k i l)

pub bit-mod : (w n i : ℕ) → i < n → bit (w % 2 ^ n) i ≡ bit w i
bit-mod w n i l = sym (bit-lower (w / 2 ^ n) n (w % 2 ^ n) i (mod-lt w (pow_pos n)) l) ∙ ap (λ (d : ℕ). bit d i) (split w n)

bit-first : (w : ℕ) → bit w 0 ≡ eqb (w % 2) 1
unfolding bit
bit-first w =
    let e : w / 2 ^ 0 ≡ w = omega arith in
    ap (λ (d : ℕ). eqb (d % 2) 1) e

-- a number that is not 0 has a bit
pub bit-some : (n w : ℕ) → w < 2 ^ n → 0 < w → (i : ℕ) × (i < n) × (bit w i ≡ true)
bit-some zero w h l = absurd (omega arith)
bit-some (suc n) w h l = go (bit-some n (w / 2 ^ 1)) (eqb (w % 2) 1) refl
  where
    go : (w / 2 ^ 1 < 2 ^ n → 0 < w / 2 ^ 1 → (i : ℕ) × (i < n) × (bit (w / 2 ^ 1) i ≡ true)) → (t : Bool) → eqb (w % 2) 1 ≡ t →
        (i : ℕ) × (i < suc n) × (bit w i ≡ true)
    go f true e = (0, omega arith, bit-first w ∙ e)
    go f false e =
        let k : 1 < w = omega (arith, eqb-false (w % 2) 1 e) in
        let (i, m, d) = f (omega arith) (omega arith) in
        (suc i, omega arith, ap (bit w) (omega arith) ∙ sym (bit-shr w 1 i) ∙ d)

-- four bytes from place i on, put into a list
abbrev pub four_put : List ℕ → (i a b c d : ℕ) → List ℕ
four_put s i a b c d = set (set (set (set s i a) (i + 1) b) (i + 2) c) (i + 3) d

module _ (s : List ℕ) (i a b c d : ℕ) where
  abbrev s₁ : List ℕ
  s₁ = set s i a

  abbrev s₂ : List ℕ
  s₂ = set s₁ (i + 1) b

  abbrev s₃ : List ℕ
  s₃ = set s₂ (i + 2) c

  pub four-length : length (four_put s i a b c d) ≡ length s
  four-length = length-set s₃ (i + 3) d ∙ length-set s₂ (i + 2) c ∙ length-set s₁ (i + 1) b ∙ length-set s i a

  four-other : (j : ℕ) → ((n : ℕ) → n < 4 → j ≡ i + n → ⊥) → get_or (four_put s i a b c d) j 0 ≡ get_or s j 0
  four-other j f =
      get_or-set_other s₃ (i + 3) j d 0 (f 3 (omega arith)) ∙ get_or-set_other s₂ (i + 2) j c 0 (f 2 (omega arith)) ∙
      get_or-set_other s₁ (i + 1) j b 0 (f 1 (omega arith)) ∙
      get_or-set_other s i j a 0 (λ e. f 0 (omega arith) (omega arith))

  -- four bytes that do not overlap them
  pub four-apart : (j : ℕ) → ((m n : ℕ) → m < 4 → n < 4 → j + m ≡ i + n → ⊥) → four_at (four_put s i a b c d) j ≡ four_at s j
  unfolding four_at
  four-apart j f =
      rw (
        four-other j (λ n h e. f 0 n (omega arith) h (omega arith)),
        four-other (j + 1) (λ n h e. f 1 n (omega arith) h e),
        four-other (j + 2) (λ n h e. f 2 n (omega arith) h e),
        four-other (j + 3) (λ n h e. f 3 n (omega arith) h e),
      )

  pub four-own : i + 3 < length s → four_at (four_put s i a b c d) i ≡ a + 256 * (b + 256 * (c + 256 * d))
  unfolding four_at
  four-own h =
      let l₁ = length-set s i a in
      let l₂ = length-set s₁ (i + 1) b in
      let l₃ = length-set s₂ (i + 2) c in
      let e₃ : get_or (four_put s i a b c d) (i + 3) 0 ≡ d = get_or-set_same s₃ (i + 3) d 0 (omega arith) in
      let e₂ : get_or (four_put s i a b c d) (i + 2) 0 ≡ c =
      get_or-set_other s₃ (i + 3) (i + 2) d 0 (λ e. omega arith) ∙ get_or-set_same s₂ (i + 2) c 0 (omega arith) in
      let e₁ : get_or (four_put s i a b c d) (i + 1) 0 ≡ b =
      get_or-set_other s₃ (i + 3) (i + 1) d 0 (λ e. omega arith) ∙ get_or-set_other s₂ (i + 2) (i + 1) c 0 (λ e. omega arith) ∙
      get_or-set_same s₁ (i + 1) b 0 (omega arith) in
      let e₀ : get_or (four_put s i a b c d) i 0 ≡ a =
      get_or-set_other s₃ (i + 3) i d 0 (λ e. omega arith) ∙ get_or-set_other s₂ (i + 2) i c 0 (λ e. omega arith) ∙
      get_or-set_other s₁ (i + 1) i b 0 (λ e. omega arith) ∙ get_or-set_same s i a 0 (omega arith) in
      rw (e₀, e₁, e₂, e₃)

-- a word put into its slot, by its bytes
pub word-written : (s : List ℕ) (g k w : ℕ) (b : List ℕ) → stretch * suc g ≤ length s → k < slots → w < 2 ^ 32 → b ≡ to_le_bytes w32 w →
    Written s g k w (four_put s (stretch * g + 4 * k) (get_or b 0 0) (get_or b 1 0) (get_or b 2 0) (get_or b 3 0))
unfolding word_at
word-written s g k w b hg hk hw e =
    let i : ℕ = stretch * g + 4 * k in
    record {
      long = four-length s i (get_or b 0 0) (get_or b 1 0) (get_or b 2 0) (get_or b 3 0);
      own = four-own s i (get_or b 0 0) (get_or b 1 0) (get_or b 2 0) (get_or b 3 0) (omega arith) ∙ rw e (omega arith);
      others = λ h j l f. four-apart s i (get_or b 0 0) (get_or b 1 0) (get_or b 2 0) (get_or b 3 0) (stretch * h + 4 * j)
          (λ m n hm hn e. let q : h ≡ g = omega arith in f q (omega arith));
    }

pub word_read : (s : List ℕ) (g k : ℕ) →
    get_or s (stretch * g + 4 * k) 0 + 256 * get_or s (stretch * g + 4 * k + 1) 0 + 65536 * get_or s (stretch * g + 4 * k + 2) 0 +
    16777216 * get_or s (stretch * g + 4 * k + 3) 0 ≡ word_at s g k
unfolding word_at four_at
word_read s g k = omega arith
