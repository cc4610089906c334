-- Numbers laid out as fields of bits are read back as they were, and bits cut into numbers give the same bits again.
use mathlib.Core.Path.{◌≡◌, refl, sym, ap, ap₂, ◌∙◌}
use Prim.Native.Nat.{ℕ, zero, suc, ◌+◌, ◌*◌, ◌/◌, ◌%◌, ◌^◌, ◌≤◌, ◌<◌, suc-le-suc}
use native.Mathlib.Nat.{mul-zero, mul-suc, mul_assoc, add-mul, add_comm, pow-succ', mod-lt, mod-eq_of_lt, zero-mod, zero-div, add-mul-div_right, add-mul-mod_self_right, not-suc-le-zero, le_of_suc-le-suc, zero-lt-suc, zero-add, suc-add, lt_of_lt_of_le, div-add-mod'}
use native.Mathlib.Omega.{arith}
use mathlib.Core.List.{List, [], ◌∷◌, ◌++◌, append_assoc}
use lib.ListN.{length, get_or, take, drop, replicate, length-append, length-take, length-drop, take-append-drop}
use lib.Seq.{take_at, drop_at, take-nil, drop-nil, take-append-add, drop-append-add, length-take-le, take_all, drop-drop}
use lib.Arith.{digits_lt, digits_div, mod-mul}
use lib.Pow.{pow_pos, pow_mono, pow-add, shr-shr}
use Rattle.rules.specs.Bits.{digits, val, pack, unpack, bits, bytes, field, Below, nil, cons}

-- ---- lengths

pub length_digits : (w v : ℕ) → length (digits w v) ≡ w
unfolding digits
length_digits zero v = refl
length_digits (suc w) v = ap suc (length_digits w v)

pub length-pack : (w : ℕ) (vs : List ℕ) → length (pack w vs) ≡ w * length vs
unfolding pack
length-pack w [] = sym (mul-zero w)
length-pack w (v ∷ vs) =
    omega (arith, length-append (digits w v) (pack w vs), length_digits w v, length-pack w vs, mul-suc w (length vs))

pub length-unpack : (w n : ℕ) (l : List ℕ) → length (unpack w n l) ≡ n
unfolding unpack
length-unpack w zero l = refl
length-unpack w (suc n) l = ap suc (length-unpack w n (drop w l))

-- ---- every number below m

pub below-append : {m : ℕ} {a b : List ℕ} → Below m a → Below m b → Below m (a ++ b)
below-append nil q = q
below-append (cons h p) q = cons h (below-append p q)

pub below_left : {m : ℕ} (a b : List ℕ) → Below m (a ++ b) → Below m a
below_left [] b p = nil
below_left (x ∷ a) b (cons h p) = cons h (below_left a b p)

pub below_right : {m : ℕ} (a b : List ℕ) → Below m (a ++ b) → Below m b
below_right [] b p = p
below_right (x ∷ a) b (cons h p) = below_right a b p

pub below-take : {m : ℕ} {l : List ℕ} (k : ℕ) → Below m l → Below m (take k l)
below-take zero p = nil
below-take (suc k) nil = nil
below-take (suc k) (cons h p) = cons h (below-take k p)

pub below-drop : {m : ℕ} {l : List ℕ} (k : ℕ) → Below m l → Below m (drop k l)
below-drop zero p = p
below-drop (suc k) nil = nil
below-drop (suc k) (cons h p) = below-drop k p

pub below_at : {m : ℕ} {l : List ℕ} → Below m l → (i d : ℕ) → i < length l → get_or l i d < m
below_at nil i d h = absurd (not-suc-le-zero h)
below_at (cons x p) zero d h = x
below_at (cons x p) (suc i) d h = below_at p i d (le_of_suc-le-suc h)

pub below-from : (m : ℕ) (l : List ℕ) → ((i : ℕ) → i < length l → get_or l i 0 < m) → Below m l
below-from m [] h = nil
below-from m (x ∷ l) h = cons (h zero (zero-lt-suc (length l))) (below-from m l (λ i b. h (suc i) (suc-le-suc b)))

pub below-replicate : {m x : ℕ} (n : ℕ) → x < m → Below m (replicate n x)
below-replicate zero h = nil
below-replicate (suc n) h = cons h (below-replicate n h)

pub below-mono : {m m' : ℕ} {l : List ℕ} → m ≤ m' → Below m l → Below m' l
below-mono h nil = nil
below-mono h (cons x p) = cons (lt_of_lt_of_le x h) (below-mono h p)

pub below-digits : (w v : ℕ) → Below 2 (digits w v)
unfolding digits
below-digits zero v = nil
below-digits (suc w) v = cons (mod-lt (v / 2 ^ w) (zero-lt-suc 1)) (below-digits w v)

pub below-pack : (w : ℕ) (vs : List ℕ) → Below 2 (pack w vs)
unfolding pack
below-pack w [] = nil
below-pack w (v ∷ vs) = below-append (below-digits w v) (below-pack w vs)

-- ---- the digits of a number, and the number that digits spell

pub val-lt : {l : List ℕ} → Below 2 l → val l < 2 ^ length l
unfolding val
val-lt nil = zero-lt-suc 0
val-lt (cons {xs = xs} h p) = rw (pow-succ' 2 (length xs)) (digits_lt h (val-lt p))

pub val-take-lt : (w : ℕ) {l : List ℕ} → Below 2 l → val (take w l) < 2 ^ w
val-take-lt w {l} p = lt_of_lt_of_le (val-lt (below-take w p)) (pow_mono (omega (arith, length-take w l)))

-- w digits say a number up to multiples of 2 ^ w
pub val-digits-mod : (w v : ℕ) → val (digits w v) ≡ v % 2 ^ w
unfolding digits val
val-digits-mod zero v = omega arith
val-digits-mod (suc w) v =
    rw (length_digits w v, val-digits-mod w v, pow-succ' 2 w) (sym (mod-mul v (zero-lt-suc 1) (pow_pos w)))

pub val-digits : (w : ℕ) {v : ℕ} → v < 2 ^ w → val (digits w v) ≡ v
val-digits w {v} h = val-digits-mod w v ∙ mod-eq_of_lt h

shift_one : (a k r : ℕ) → a * 2 ^ suc k + r ≡ a * 2 * 2 ^ k + r
shift_one a k r = ap (λ (x : ℕ). x + r) (ap (λ (x : ℕ). a * x) (pow-succ' 2 k) ∙ sym (mul_assoc a 2 (2 ^ k)))

-- bit k does not change with what stands above it
bit-low : (k a r : ℕ) → (a * 2 ^ suc k + r) / 2 ^ k % 2 ≡ r / 2 ^ k % 2
bit-low k a r =
    ap (λ (x : ℕ). x / 2 ^ k % 2) (shift_one a k r ∙ add_comm (a * 2 * 2 ^ k) r)
    ∙ ap (λ (x : ℕ). x % 2) (add-mul-div_right r (a * 2) (pow_pos k))
    ∙ add-mul-mod_self_right (r / 2 ^ k) a 2

-- what stands above the low k bits does not show in them
pub digits_low : (k a r : ℕ) → digits k (a * 2 ^ k + r) ≡ digits k r
unfolding digits
digits_low zero a r = refl
digits_low (suc k) a r = λ i. bit-low k a r i ∷ (ap (digits k) (shift_one a k r) ∙ digits_low k (a * 2) r) i

pub digits-rest : (k v : ℕ) → digits k (v % 2 ^ k) ≡ digits k v
digits-rest k v = sym (digits_low k (v / 2 ^ k) (v % 2 ^ k)) ∙ ap (digits k) (div-add-mod' v (2 ^ k))

pub digits-val : {l : List ℕ} → Below 2 l → digits (length l) (val l) ≡ l
unfolding digits val
digits-val nil = refl
digits-val (cons {x} {xs} h p) =
    λ i. (ap (λ (y : ℕ). y % 2) (digits_div x (val-lt p)) ∙ mod-eq_of_lt h) i ∷ (digits_low (length xs) x (val xs) ∙ digits-val p) i

-- the first w bits, read as a number and written again
pub digits-first : (w : ℕ) {l : List ℕ} → Below 2 l → w ≤ length l → digits w (val (take w l)) ++ drop w l ≡ l
digits-first w {l} p h =
    ap (λ (k : ℕ). digits k (val (take w l)) ++ drop w l) (sym (length-take-le w l h))
    ∙ ap (λ (t : List ℕ). t ++ drop w l) (digits-val (below-take w p))
    ∙ take-append-drop w l

-- bits that spell 0 are all 0
pub zero_bits : (w : ℕ) {l : List ℕ} → Below 2 l → length l ≡ w → val l ≡ 0 → l ≡ digits w 0
zero_bits w p e z = sym (digits-val p) ∙ ap₂ digits e z

-- the bits above the low k are those of the number above
high_bit : (j k a : ℕ) {r : ℕ} → r < 2 ^ k → (a * 2 ^ k + r) / 2 ^ (j + k) ≡ a / 2 ^ j
high_bit j k a {r} h =
    ap (λ (n : ℕ). (a * 2 ^ k + r) / 2 ^ n) (add_comm j k)
    ∙ sym (shr-shr (a * 2 ^ k + r) k j)
    ∙ ap (λ (x : ℕ). x / 2 ^ j) (digits_div a h)

-- a number over one of k bits: its digits, then theirs
pub digits-join : (j k a : ℕ) {r : ℕ} → r < 2 ^ k → digits (j + k) (a * 2 ^ k + r) ≡ digits j a ++ digits k r
unfolding digits
digits-join zero k a {r} h = ap (λ (n : ℕ). digits n (a * 2 ^ k + r)) (zero-add k) ∙ digits_low k a r
digits-join (suc j) k a {r} h =
    ap (λ (n : ℕ). digits n (a * 2 ^ k + r)) (suc-add j k)
    ∙ (λ i. high_bit j k a h i % 2 ∷ digits-join j k a h i)

-- the first j of j + k digits are those of the number without its low k bits
pub digits-split : (j k v : ℕ) → digits (j + k) v ≡ digits j (v / 2 ^ k) ++ digits k v
digits-split j k v =
    ap (digits (j + k)) (sym (div-add-mod' v (2 ^ k)))
    ∙ digits-join j k (v / 2 ^ k) (mod-lt v (pow_pos k))
    ∙ ap (λ (l : List ℕ). digits j (v / 2 ^ k) ++ l) (digits-rest k v)

pub take-digits : (j k v : ℕ) → take j (digits (j + k) v) ≡ digits j (v / 2 ^ k)
take-digits j k v =
    ap (take j) (digits-split j k v) ∙ take_at (digits j (v / 2 ^ k)) (digits k v) j (length_digits j (v / 2 ^ k))

pub drop-digits : (j k v : ℕ) → drop j (digits (j + k) v) ≡ digits k v
drop-digits j k v =
    ap (drop j) (digits-split j k v) ∙ drop_at (digits j (v / 2 ^ k)) (digits k v) j (length_digits j (v / 2 ^ k))

pub digits-zero : (w : ℕ) → digits w 0 ≡ replicate w 0
unfolding digits
digits-zero zero = refl
digits-zero (suc w) = λ i. (ap (λ (x : ℕ). x % 2) (zero-div (2 ^ w)) ∙ zero-mod 2) i ∷ digits-zero w i

pub digits-inj : (w : ℕ) {v v' : ℕ} → v < 2 ^ w → v' < 2 ^ w → digits w v ≡ digits w v' → v ≡ v'
digits-inj w h h' e = sym (val-digits w h) ∙ ap val e ∙ val-digits w h'

high-place : (x : ℕ) (a b : List ℕ) → x * 2 ^ length (a ++ b) ≡ x * 2 ^ length a * 2 ^ length b
high-place x a b =
    ap (λ (n : ℕ). x * n) (ap (λ (n : ℕ). 2 ^ n) (length-append a b) ∙ pow-add 2 (length a) (length b))
    ∙ sym (mul_assoc x (2 ^ length a) (2 ^ length b))

pub val-append : (a b : List ℕ) → val (a ++ b) ≡ val a * 2 ^ length b + val b
unfolding val
val-append [] b = omega arith
val-append (x ∷ a) b =
    omega (arith, high-place x a b, val-append a b, add-mul (x * 2 ^ length a) (val a) (2 ^ length b))

-- ---- numbers of w bits each

pub pack-append : (w : ℕ) (a b : List ℕ) → pack w (a ++ b) ≡ pack w a ++ pack w b
unfolding pack
pack-append w [] b = refl
pack-append w (v ∷ a) b =
    ap (λ (l : List ℕ). digits w v ++ l) (pack-append w a b) ∙ sym (append_assoc (digits w v) (pack w a) (pack w b))

-- suc k numbers are the bits of the first, and those of k
first_of : (w k v : ℕ) → w * suc k ≡ length (digits w v) + w * k
first_of w k v = omega (arith, mul-suc w k, length_digits w v)

pub take-pack : (w k : ℕ) (vs : List ℕ) → take (w * k) (pack w vs) ≡ pack w (take k vs)
unfolding pack
take-pack w zero vs = ap (λ (n : ℕ). take n (pack w vs)) (mul-zero w)
take-pack w (suc k) [] = take-nil (w * suc k)
take-pack w (suc k) (v ∷ vs) =
    ap (λ (n : ℕ). take n (digits w v ++ pack w vs)) (first_of w k v)
    ∙ take-append-add (digits w v) (pack w vs) (w * k)
    ∙ ap (λ (l : List ℕ). digits w v ++ l) (take-pack w k vs)

pub drop-pack : (w k : ℕ) (vs : List ℕ) → drop (w * k) (pack w vs) ≡ pack w (drop k vs)
unfolding pack
drop-pack w zero vs = ap (λ (n : ℕ). drop n (pack w vs)) (mul-zero w)
drop-pack w (suc k) [] = drop-nil (w * suc k)
drop-pack w (suc k) (v ∷ vs) =
    ap (λ (n : ℕ). drop n (digits w v ++ pack w vs)) (first_of w k v)
    ∙ drop-append-add (digits w v) (pack w vs) (w * k)
    ∙ drop-pack w k vs

pub unpack-pack : (w : ℕ) {vs : List ℕ} → Below (2 ^ w) vs → unpack w (length vs) (pack w vs) ≡ vs
unfolding pack unpack
unpack-pack w nil = refl
unpack-pack w (cons {x} {xs} h p) =
    rw
    (take_at (digits w x) (pack w xs) w (length_digits w x), drop_at (digits w x) (pack w xs) w (length_digits w x), val-digits w h, unpack-pack w p)

pub unpack-packed : (w n : ℕ) {vs : List ℕ} → Below (2 ^ w) vs → n ≡ length vs → unpack w n (pack w vs) ≡ vs
unpack-packed w n {vs} p e = ap (λ (k : ℕ). unpack w k (pack w vs)) e ∙ unpack-pack w p

pub pack-unpack : (w n : ℕ) {l : List ℕ} → Below 2 l → length l ≡ w * n → pack w (unpack w n l) ≡ l
unfolding pack unpack
pack-unpack w zero {l} p e = take_all 0 l (omega (arith, mul-zero w))
pack-unpack w (suc n) {l} p e =
    ap (λ (r : List ℕ). digits w (val (take w l)) ++ r) (pack-unpack w n (below-drop w p) (omega (arith, length-drop w l, mul-suc w n)))
    ∙ digits-first w p (omega (arith, mul-suc w n))

pub below-unpack : (w n : ℕ) {l : List ℕ} → Below 2 l → Below (2 ^ w) (unpack w n l)
unfolding unpack
below-unpack w zero p = nil
below-unpack w (suc n) p = cons (val-take-lt w p) (below-unpack w n (below-drop w p))

-- ---- bytes

pub bytes_bits : {s : List ℕ} → Below 256 s → bytes (bits s) ≡ s
bytes_bits {s} p = unpack-packed 8 (length (bits s) / 8) p (omega (arith, length-pack 8 s))

pub bits-bytes : (k : ℕ) {l : List ℕ} → Below 2 l → length l ≡ 8 * k → bits (bytes l) ≡ l
bits-bytes k {l} p e = pack-unpack 8 (length l / 8) p (omega arith)

pub length-bytes : (k : ℕ) (l : List ℕ) → length l ≡ 8 * k → length (bytes l) ≡ k
length-bytes k l e = length-unpack 8 (length l / 8) l ∙ omega arith

pub below-bytes : {l : List ℕ} → Below 2 l → Below 256 (bytes l)
below-bytes {l} p = below-unpack 8 (length l / 8) p

-- ---- a field of bytes

pub field_lt : (s : List ℕ) (i w : ℕ) → field s i w < 2 ^ w
field_lt s i w = val-take-lt w (below-drop i (below-pack 8 s))

-- a field, written again before the bits behind it
pub digits-field : (s : List ℕ) (i w : ℕ) → i + w ≤ 8 * length s → digits w (field s i w) ++ drop (i + w) (bits s) ≡ drop i (bits s)
digits-field s i w h =
    ap (λ (r : List ℕ). digits w (field s i w) ++ r) (sym (drop-drop w i (bits s)))
    ∙ digits-first w (below-drop i (below-pack 8 s)) (omega (arith, length-drop i (bits s), length-pack 8 s))

-- a field that was laid out after i bits
pub field-here : (s pre post : List ℕ) (i w : ℕ) {v : ℕ} → bits s ≡ pre ++ digits w v ++ post → length pre ≡ i → v < 2 ^ w → field s i w ≡ v
field-here s pre post i w {v} e n h =
    ap (λ (l : List ℕ). val (take w (drop i l))) (e ∙ append_assoc pre (digits w v) post)
    ∙ ap (λ (l : List ℕ). val (take w l)) (drop_at pre (digits w v ++ post) i n)
    ∙ ap val (take_at (digits w v) post w (length_digits w v))
    ∙ val-digits w h
