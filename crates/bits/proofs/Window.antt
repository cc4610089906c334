-- A field of up to 16 bits is cut out of, or patched into, the 24 bits from the byte that holds its first bit.
use mathlib.Core.Path.{◌≡◌, refl, sym, ap, ap₂, ◌∙◌}
use Prim.Native.Nat.{ℕ, zero, suc, ◌+◌, ◌-◌, ◌*◌, ◌/◌, ◌%◌, ◌^◌, ◌≤◌, ◌<◌}
use native.Mathlib.Nat.{mod-lt, mod-eq_of_lt, add_assoc, add-zero}
use native.Mathlib.Numerals.{add-one}
use native.Mathlib.Omega.{arith}
use mathlib.Core.List.{List, [], ◌∷◌, ◌++◌, append_assoc, append-nil}
use lib.ListN.{length, get_or, take, drop, set, length-append, length-drop, take-append-drop}
use lib.Seq.{take_at, take-append-le, drop-append-le, take-append-add, drop-append-add, length-take-le, take-append_seam, get_or-drop, drop-drop, take_all, sets, sets-eq, length-sets, paste, length-paste}
use lib.Arith.{digits_lt}
use lib.Bits.{bit_and, and_mask}
use lib.Pow.{pow_pos, pow-add, pow-lt, shr_lt}
use Rattle.rules.specs.Bits.{bits, digits, val, pack, field}
use Rattle.rules.proofs.Fields.{length_digits, length-pack, val-digits-mod, digits-rest, digits-join, digits-split, take-digits, drop-digits, pack-append, take-pack, drop-pack}
use Rattle.bits.specs.Access.{Inside, Put}
use Rattle.bits.specs.Window.{Window, patched, bytes_of}

-- ---- parts and pastes of an append

-- a part that lies in the first list
part_left : (X Y : List ℕ) (i n : ℕ) → i + n ≤ length X → take n (drop i (X ++ Y)) ≡ take n (drop i X)
part_left X Y i n h =
    ap (take n) (drop-append-le i X Y (omega arith)) ∙ take-append-le n (drop i X) Y (omega (arith, length-drop i X))

paste-left : (X Y : List ℕ) (i : ℕ) (d : List ℕ) (n : ℕ) → i + n ≤ length X → paste (X ++ Y) i d n ≡ paste X i d n ++ Y
paste-left X Y i d n h =
    ap₂ (λ (a b : List ℕ). a ++ take n d ++ b) (take-append-le i X Y (omega arith)) (drop-append-le (i + n) X Y h)
    ∙ sym (append_assoc (take i X ++ take n d) (drop (i + n) X) Y)

paste-right : (X Y : List ℕ) (i : ℕ) (d : List ℕ) (n : ℕ) → paste (X ++ Y) (length X + i) d n ≡ X ++ paste Y i d n
paste-right X Y i d n =
    ap₂ (λ (a b : List ℕ). a ++ take n d ++ b) (take-append-add X Y i)
    (ap (λ (k : ℕ). drop k (X ++ Y)) (add_assoc (length X) i n) ∙ drop-append-add X Y (i + n))
    ∙ simp append_assoc

-- a store, seen from the first n
take-set : (n : ℕ) (l : List ℕ) (i a : ℕ) → take n (set l i a) ≡ set (take n l) i a
take-set zero l i a = refl
take-set (suc n) [] i a = refl
take-set (suc n) (x ∷ l) zero a = refl
take-set (suc n) (x ∷ l) (suc i) a = ap (λ (r : List ℕ). x ∷ r) (take-set n l i a)

take-sets : (n : ℕ) (l : List ℕ) (i : ℕ) (vs : List ℕ) → take n (sets l i vs) ≡ sets (take n l) i vs
take-sets n l i [] = refl
take-sets n l i (a ∷ vs) = take-sets n (set l i a) (suc i) vs ∙ ap (λ (r : List ℕ). sets r (suc i) vs) (take-set n l i a)

-- three stores, one after the other
pub sets-three : (l : List ℕ) {l₁ l₂ l₃ : List ℕ} (i a b c : ℕ) → l₁ ≡ set l i a → l₂ ≡ set l₁ (i + 1) b → l₃ ≡ set l₂ (i + 2) c → l₃ ≡ sets l i (a ∷ b ∷ c ∷ [])
sets-three l i a b c e₁ e₂ e₃ =
    let two : i + 2 ≡ suc (suc i) = omega arith in
    e₃ ∙ ap₂ (λ (r : List ℕ) (k : ℕ). set r k c) (e₂ ∙ ap₂ (λ (r : List ℕ) (k : ℕ). set r k b) e₁ (add-one i)) two

-- ---- a mask of n ones keeps the low n bits

-- a power of two as a shift in 32 bits gives it
pub shifted : (n : ℕ) → n ≤ 24 → 1 * 2 ^ n % 4294967296 ≡ 2 ^ n
shifted n h =
    let below : 2 ^ n < 2 ^ 32 = pow-lt {i = n} {j = 32} (omega arith) in
    let fits : 1 * 2 ^ n < 4294967296 = omega arith in
    omega (arith, mod-eq_of_lt fits)

pub masked : (x n : ℕ) {p : ℕ} → p ≡ 2 ^ n → bit_and x (p - 1) ≡ x % 2 ^ n
masked x n e = ap (λ (m : ℕ). bit_and x (m - 1)) e ∙ and_mask x n

pub masked-lt : (x n : ℕ) {p : ℕ} → p ≡ 2 ^ n → bit_and x (p - 1) < 2 ^ n
masked-lt x n e = rw (masked x n e) (mod-lt x (pow_pos n))

-- ---- three bytes are 24 bits

bits-bytes_of : (x : ℕ) → bits (bytes_of x) ≡ digits 24 x
unfolding pack
bits-bytes_of x =
    rw (digits-rest 8 (x / 256), digits-rest 8 x, append-nil (digits 8 x))
    (sym (digits-split 8 16 x ∙ ap (λ (l : List ℕ). digits 8 (x / 65536) ++ l) (digits-split 8 8 x)))

bits-three : (a b c : ℕ) → b < 256 → c < 256 → bits (a ∷ b ∷ c ∷ []) ≡ digits 24 (a * 65536 + (b * 256 + c))
unfolding pack
bits-three a b c hb hc =
    rw (append-nil (digits 8 c))
    (sym (digits-join 8 16 a (omega arith) ∙ ap (λ (l : List ℕ). digits 8 a ++ l) (digits-join 8 8 b hc)))

-- ---- a number of 24 bits with the width bits above its low ones replaced

module _ (x after width value : ℕ) (fits : value < 2 ^ width) where
  pub patch-low : value * 2 ^ after + x % 2 ^ after < 2 ^ (width + after)
  patch-low = rw (pow-add 2 width after) (digits_lt fits (mod-lt x (pow_pos after)))

  pub patch-lt : (o : ℕ) → o + (width + after) ≡ 24 → x < 2 ^ 24 → patched x after width value < 2 ^ 24
  patch-lt o e h =
      let total : 2 ^ o * 2 ^ (width + after) ≡ 2 ^ 24 = sym (pow-add 2 o (width + after)) ∙ ap (λ (n : ℕ). 2 ^ n) e in
      rw total at (digits_lt (shr_lt {n = x} o (width + after) (rw (pow-add 2 o (width + after), total) h)) patch-low)

  -- as it is computed, from the powers of two
  pub patch-is : (unit full : ℕ) → unit ≡ 2 ^ after → full ≡ 2 ^ (width + after)
      → x / 2 ^ (width + after) * full + (value * unit + bit_and x (unit - 1)) ≡ patched x after width value
  patch-is unit full e f = rw (masked x after e, e, f)

  pub patch-fits : (unit full : ℕ) → unit ≡ 2 ^ after → full ≡ 2 ^ (width + after) → x < 2 ^ 24 → after + width ≤ 24
      → x / 2 ^ (width + after) * full + (value * unit + bit_and x (unit - 1)) < 2 ^ 24
  patch-fits unit full e f h n = rw (patch-is unit full e f) (patch-lt (24 - (width + after)) (omega arith) h)

  module _ (o : ℕ) (fill : o + (width + after) ≡ 24) where
    above : take o (digits 24 x) ≡ digits o (x / 2 ^ (width + after))
    above = ap (λ (n : ℕ). take o (digits n x)) (sym fill) ∙ take-digits o (width + after) x

    under : drop (o + width) (digits 24 x) ≡ digits after (x % 2 ^ after)
    under =
        ap (λ (n : ℕ). drop (o + width) (digits n x)) (sym fill ∙ sym (add_assoc o width after))
        ∙ drop-digits (o + width) after x
        ∙ sym (digits-rest after x)

    whole : take width (digits width value) ≡ digits width value
    whole = take_all width (digits width value) (omega (arith, length_digits width value))

    digits-patched : digits 24 (patched x after width value) ≡ paste (digits 24 x) o (digits width value) width
    digits-patched =
        rw (above, under, whole)
        (ap (λ (n : ℕ). digits n (patched x after width value)) (sym fill)
        ∙ digits-join o (width + after) (x / 2 ^ (width + after)) patch-low
        ∙ ap (λ (l : List ℕ). digits o (x / 2 ^ (width + after)) ++ l) (digits-join width after value (mod-lt x (pow_pos after)))
        ∙ sym (append_assoc (digits o (x / 2 ^ (width + after))) (digits width value) (digits after (x % 2 ^ after))))

-- ---- bytes with three zeros after them: the window lies in them

abbrev zeros : List ℕ
zeros = 0 ∷ 0 ∷ 0 ∷ []

abbrev padded : List ℕ → List ℕ
padded s = s ++ zeros

first_three : (t : List ℕ) → take 3 (padded t) ≡ get_or t 0 0 ∷ get_or t 1 0 ∷ get_or t 2 0 ∷ []
first_three [] = refl
first_three (x ∷ []) = refl
first_three (x ∷ y ∷ []) = refl
first_three (x ∷ y ∷ z ∷ t) = refl

three-at : (s : List ℕ) (q : ℕ) → q ≤ length s → take 3 (drop q (padded s)) ≡ get_or s q 0 ∷ get_or s (q + 1) 0 ∷ get_or s (q + 2) 0 ∷ []
three-at s q h =
    ap (take 3) (drop-append-le q s zeros h)
    ∙ first_three (drop q s)
    ∙ rw (get_or-drop q s 0 0, get_or-drop q s 1 0, get_or-drop q s 2 0, add-zero q)

around : (l : List ℕ) (q : ℕ) → l ≡ take q l ++ take 3 (drop q l) ++ drop (q + 3) l
around l q =
    sym
    (append_assoc (take q l) (take 3 (drop q l)) (drop (q + 3) l)
    ∙ ap (λ (r : List ℕ). take q l ++ (take 3 (drop q l) ++ r)) (sym (drop-drop 3 q l))
    ∙ ap (λ (r : List ℕ). take q l ++ r) (take-append-drop 3 (drop q l))
    ∙ take-append-drop q l)

abbrev before : List ℕ → ℕ → List ℕ
before s q = bits (take q (padded s))

abbrev behind : List ℕ → ℕ → List ℕ
behind s q = bits (drop (q + 3) (padded s))

bits-around : (s : List ℕ) (q : ℕ) (m : List ℕ) → bits (take q (padded s) ++ m ++ drop (q + 3) (padded s)) ≡ before s q ++ (bits m ++ behind s q)
bits-around s q m =
    rw (pack-append 8 (take q (padded s) ++ m) (drop (q + 3) (padded s)), pack-append 8 (take q (padded s)) m)
    (append_assoc (before s q) (bits m) (behind s q))

length_before : (s : List ℕ) (q : ℕ) → q ≤ length s → length (before s q) ≡ 8 * q
length_before s q h =
    length-pack 8 (take q (padded s)) ∙ ap (λ (n : ℕ). 8 * n) (length-take-le q (padded s) (simp length-append (omega arith)))

bits-padded : (s : List ℕ) (q x : ℕ) → Window s q x → q ≤ length s → bits s ++ bits zeros ≡ before s q ++ (digits 24 x ++ behind s q)
bits-padded s q x v h =
    sym (pack-append 8 s zeros)
    ∙ ap bits (around (padded s) q)
    ∙ bits-around s q (take 3 (drop q (padded s)))
    ∙ ap (λ (l : List ℕ). before s q ++ (bits l ++ behind s q)) (three-at s q h)
    ∙ ap (λ (l : List ℕ). before s q ++ (l ++ behind s q))
    (bits-three (get_or s q 0) (get_or s (q + 1) 0) (get_or s (q + 2) 0) v.second v.third ∙ ap (digits 24) (sym v.is))

-- ---- a field of the bytes, and the window that it lies in

module _ (s : List ℕ) (at width after x : ℕ) (inside : Inside s at width) (seen : Window s (at / 8) x) (fill : at % 8 + (width + after) ≡ 24) where
  here : length (before s (at / 8)) + at % 8 ≡ at
  here = omega (arith, length_before s (at / 8) (omega arith))

  window-bits : bits s ++ bits zeros ≡ before s (at / 8) ++ (digits 24 x ++ behind s (at / 8))
  window-bits = bits-padded s (at / 8) x seen (omega arith)

  bits_fit : at + width ≤ length (bits s)
  bits_fit = omega (arith, length-pack 8 s)

  window-fit : at % 8 + width ≤ length (digits 24 x)
  window-fit = omega (arith, length_digits 24 x)

  field-bits : take width (drop at (bits s)) ≡ digits width (x / 2 ^ after)
  field-bits =
      let p = before s (at / 8) in
      let r = digits 24 x ++ behind s (at / 8) in
      sym (part_left (bits s) (bits zeros) at width bits_fit)
      ∙ ap (λ (l : List ℕ). take width (drop at l)) window-bits
      ∙ ap (λ (n : ℕ). take width (drop n (p ++ r))) (sym here)
      ∙ ap (take width) (drop-append-add p r (at % 8))
      ∙ part_left (digits 24 x) (behind s (at / 8)) (at % 8) width window-fit
      ∙ ap (λ (n : ℕ). take width (drop (at % 8) (digits n x))) (sym fill)
      ∙ ap (take width) (drop-digits (at % 8) (width + after) x)
      ∙ take-digits width after x

  -- the field, read from the window
  pub cut_out : field s at width ≡ x / 2 ^ after % 2 ^ width
  cut_out = ap val field-bits ∙ val-digits-mod width (x / 2 ^ after)

  module _ (value : ℕ) (h : value < 2 ^ width) where
    stored-bits : bits (sets (padded s) (at / 8) (bytes_of (patched x after width value))) ≡ paste (bits s) at (digits width value) width ++ bits zeros
    stored-bits =
        let y = patched x after width value in
        let d = digits width value in
        let p = before s (at / 8) in
        let r = behind s (at / 8) in
        ap bits (sets-eq (bytes_of y) (padded s) (at / 8) (simp length-append (omega arith)))
        ∙ bits-around s (at / 8) (bytes_of y)
        ∙ ap (λ (l : List ℕ). p ++ (l ++ r)) (bits-bytes_of y ∙ digits-patched x after width value h (at % 8) fill)
        ∙ ap (λ (l : List ℕ). p ++ l) (sym (paste-left (digits 24 x) r (at % 8) d width window-fit))
        ∙ sym (paste-right p (digits 24 x ++ r) (at % 8) d width)
        ∙ ap (λ (n : ℕ). paste (p ++ (digits 24 x ++ r)) n d width) here
        ∙ ap (λ (l : List ℕ). paste l at d width) (sym window-bits)
        ∙ paste-left (bits s) (bits zeros) at d width bits_fit

    -- the field, written by storing the window's bytes with its number patched in
    pub patched_in : bits (sets s (at / 8) (bytes_of (patched x after width value))) ≡ paste (bits s) at (digits width value) width
    patched_in =
        let y = patched x after width value in
        let d = digits width value in
        ap (λ (l : List ℕ). bits (sets l (at / 8) (bytes_of y))) (sym (take-append_seam s zeros))
        ∙ ap bits (sym (take-sets (length s) (padded s) (at / 8) (bytes_of y)))
        ∙ sym (take-pack 8 (length s) (sets (padded s) (at / 8) (bytes_of y)))
        ∙ ap (take (8 * length s)) stored-bits
        ∙ take_at (paste (bits s) at d width) (bits zeros) (8 * length s)
        (length-paste (bits s) at d width bits_fit (omega (arith, length_digits width value)) ∙ length-pack 8 s)

-- three bytes stored over three others
pub three-laid : (s : List ℕ) (i x : ℕ) → i + 3 ≤ length s → bits (sets s i (bytes_of x)) ≡ paste (bits s) (8 * i) (digits 24 x) 24
three-laid s i x h =
    let end : 8 * (i + 3) ≡ 8 * i + 24 = omega arith in
    ap bits (sets-eq (bytes_of x) s i h)
    ∙ pack-append 8 (take i s ++ bytes_of x) (drop (i + 3) s)
    ∙ rw (pack-append 8 (take i s) (bytes_of x), take_all 24 (digits 24 x) (omega (arith, length_digits 24 x)))
    (ap₂ (λ (a b : List ℕ). a ++ b) (ap₂ (λ (a b : List ℕ). a ++ b) (sym (take-pack 8 i s)) (bits-bytes_of x))
    (sym (drop-pack 8 (i + 3) s) ∙ ap (λ (k : ℕ). drop k (bits s)) end))

pub three-put : (s : List ℕ) (i x : ℕ) → i + 3 ≤ length s → x < 2 ^ 24 → Put s (8 * i) 24 x (set (set (set s i (x / 65536 % 256)) (i + 1) (x / 256 % 256)) (i + 2) (x % 256))
three-put s i x h low =
    let few : x / 65536 < 256 = omega arith in
    let stored = sets-three s i (x / 65536) (x / 256 % 256) (x % 256) (ap (set s i) (mod-eq_of_lt few)) refl refl in
    record { laid = ap bits stored ∙ three-laid s i x h; kept = ap length stored ∙ length-sets s i (bytes_of x) }
