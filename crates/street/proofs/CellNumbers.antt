-- The number of labels that are bytes: its bytes are the cells of an order of them, and a label is read, put in or cut out by dividing and multiplying
-- by the unit of its place.
use mathlib.Core.Path.{◌≡◌, refl, sym, ap, ap₂, ◌∙◌}
use mathlib.Core.List.{List, [], ◌∷◌, ◌++◌}
use Prim.Native.Nat.{ℕ, zero, suc, ◌+◌, ◌-◌, ◌*◌, ◌/◌, ◌%◌, ◌^◌, ◌≤◌, ◌<◌}
use native.Mathlib.Nat.{mul_left_comm, add_comm, mul-suc, le-mul_of_pos_right, div-div-eq-div-mul, not-suc-le-zero, le_of_suc-le-suc}
use native.Mathlib.Omega.{arith}
use lib.Arith.{digits_div, digits_mod}
use lib.ListN.{length, get_or, take, drop, replicate, take-append-drop}
use lib.Pow.{pow-add, pow_mono}
use lib.Seq.{length-take-le, drop-cons}
use Rattle.std.specs.Int.{w64, to_le_bytes, from_le_bytes}
use Rattle.rules.specs.Basic.{tabulate, put, cut}
use Rattle.rules.specs.Bits.{Below, nil, cons}
use Rattle.rules.proofs.Fields.{below-append, below_at, below-drop, below-from, below-take}
use Rattle.rules.proofs.Lists.{length-put, length_cut}
use Rattle.street.proofs.Cells.{Cells, eight-cells, spare}
use Rattle.street.specs.Order.{capacity, cells_with}
use Rattle.street.specs.Number.{number, Numbered}

-- ---- the unit of a place

-- what the number has for a one in the cell behind k others
abbrev pub unit : ℕ → ℕ
unit k = 2 ^ (8 * k)

unit-suc : (k : ℕ) → unit (suc k) ≡ 256 * unit k
unit-suc k = ap (λ (n : ℕ). 2 ^ n) (mul-suc 8 k ∙ add_comm (8 * k) 8) ∙ pow-add 2 8 (8 * k)

above : (o k : ℕ) → o / 256 / unit k ≡ o / unit (suc k)
above o k = div-div-eq-div-mul o 256 (unit k) ∙ ap (λ (u : ℕ). o / u) (sym (unit-suc k))

-- ---- the number of labels

number_append : (a b : List ℕ) → number (a ++ b) ≡ number a + number b * unit (length a)
unfolding number
number_append [] b = omega arith
number_append (x ∷ a) b =
    let up = ap (λ (n : ℕ). number b * n) (unit-suc (length a)) ∙ mul_left_comm (number b) 256 (unit (length a)) in
    omega (arith, number_append a b)

-- free cells behind them
number-zeros : (n : ℕ) → number (replicate n 0) ≡ 0
unfolding number
number-zeros zero = refl
number-zeros (suc n) = omega (arith, number-zeros n)

number-free : (l : List ℕ) (n : ℕ) → number (l ++ replicate n 0) ≡ number l
unfolding number
number-free [] n = number-zeros n
number-free (x ∷ l) n = ap (λ (m : ℕ). x + 256 * m) (number-free l n)

number_lt : {l : List ℕ} → Below 256 l → number l < unit (length l)
unfolding number
number_lt nil = omega arith
number_lt (cons {xs = l} h p) = omega (arith, number_lt p, unit-suc (length l))

-- ---- the bytes of a number

-- the first n bytes
unfoldable bytes : ℕ → ℕ → List ℕ
bytes zero o = []
bytes (suc n) o = o % 256 ∷ bytes n (o / 256)

bytes-zero : (n : ℕ) → bytes n 0 ≡ replicate n 0
unfolding bytes
bytes-zero zero = refl
bytes-zero (suc n) = ap (λ (r : List ℕ). 0 ∷ r) (bytes-zero n)

bytes-number : (n : ℕ) {l : List ℕ} → Below 256 l → length l ≤ n → bytes n (number l) ≡ l ++ replicate (n - length l) 0
unfolding bytes number
bytes-number n nil h = let all : n ≡ n - 0 = omega arith in bytes-zero n ∙ ap (λ (m : ℕ). replicate m 0) all
bytes-number zero (cons b p) h = absurd (not-suc-le-zero h)
bytes-number (suc n) (cons {x} {xs = l} b p) h =
    let first : (x + 256 * number l) % 256 ≡ x = omega arith in
    let rest : (x + 256 * number l) / 256 ≡ number l = omega arith in
    let fewer : n - length l ≡ suc n - suc (length l) = omega arith in
    (λ i. first i ∷ (ap (bytes n) rest ∙ bytes-number n p (le_of_suc-le-suc h)) i) ∙ ap (λ (m : ℕ). x ∷ (l ++ replicate m 0)) fewer

-- each byte by itself
bytes-spelt : (n o : ℕ) → bytes (suc n) o ≡ o % 256 ∷ tabulate (λ i. o / unit (suc i) % 256) n
unfolding bytes tabulate
bytes-spelt zero o = refl
bytes-spelt (suc n) o =
    ap (λ (r : List ℕ). o % 256 ∷ r) (bytes-spelt n (o / 256) ∙ (λ j. o / 256 % 256 ∷ tabulate (λ i. above o (suc i) j % 256) n))

-- the eight bytes of the number of labels are the cells of an order of them
bytes_with : {l : List ℕ} → Below 256 l → length l ≤ capacity → {o : ℕ} → o ≡ number l → to_le_bytes w64 o ≡ cells_with l
unfolding tabulate
bytes_with {l} p h {o} e = sym (bytes-spelt 7 o) ∙ ap (bytes 8) e ∙ bytes-number 8 p (omega arith)

-- and their number is that of the cells
pub numbered : {l nets : List ℕ} {count : ℕ} → Cells l nets count → ((i : ℕ) → get_or nets i 0 < 256) → {r : ℕ} → r ≡ from_le_bytes w64 nets → Numbered l r
unfolding number tabulate
numbered {l} {nets} {count} c byte {r} e =
    let whole : r ≡ number nets = omega (arith, ap number (eight-cells nets c.sound.long)) in
    record {
      is = whole ∙ ap number (spare c) ∙ number-free l (8 - length l);
      bytes = rw c.list at (below-take count (below-from 256 nets (λ i h. byte i)));
    }

-- ---- a list about a place

put-split : (k x : ℕ) (l : List ℕ) → k ≤ length l → take k l ++ (x ∷ drop k l) ≡ put k x l
unfolding put
put-split zero x l h = refl
put-split (suc k) x [] h = absurd (not-suc-le-zero h)
put-split (suc k) x (y ∷ l) h = ap (λ (r : List ℕ). y ∷ r) (put-split k x l (le_of_suc-le-suc h))

cut-split : (k : ℕ) (l : List ℕ) → k < length l → take k l ++ drop (suc k) l ≡ cut k l
unfolding cut
cut-split k [] h = absurd (not-suc-le-zero h)
cut-split zero (y ∷ l) h = refl
cut-split (suc k) (y ∷ l) h = ap (λ (r : List ℕ). y ∷ r) (cut-split k l (le_of_suc-le-suc h))

-- ---- a label of a number

module _ {l : List ℕ} {o : ℕ} (n : Numbered l o) (k : ℕ) {u : ℕ} (one : u ≡ unit k) (h : k ≤ length l) where
  same : u ≡ unit (length (take k l))
  same = one ∙ ap unit (sym (length-take-le k l h))

  -- the cells before the place, and others from there on
  joined : (r : List ℕ) → number (take k l) + number r * u ≡ number (take k l ++ r)
  joined r = rw same (sym (number_append (take k l) r))

  low-lt : number (take k l) < u
  low-lt = rw same (number_lt (below-take k n.bytes))

  split : o ≡ number (drop k l) * u + number (take k l)
  split =
      n.is
      ∙ ap number (sym (take-append-drop k l))
      ∙ sym (joined (drop k l))
      ∙ add_comm (number (take k l)) (number (drop k l) * u)

  low : o % u ≡ number (take k l)
  low = ap (λ (m : ℕ). m % u) split ∙ digits_mod (number (drop k l)) low-lt

  high : o / u ≡ number (drop k l)
  high = ap (λ (m : ℕ). m / u) split ∙ digits_div (number (drop k l)) low-lt

  unit-pos : 0 < u
  unit-pos = omega (arith, low-lt)

  put-number : (x : ℕ) → o % u + (x + 256 * (o / u)) * u ≡ number (put k x l)
  unfolding number
  put-number x =
      ap₂ (λ (a b : ℕ). a + (x + 256 * b) * u) low high ∙ joined (x ∷ drop k l) ∙ ap number (put-split k x l h)

  module _ {x : ℕ} (b : x < 256) where
    put-bytes : Below 256 (put k x l)
    put-bytes = rw put-split at (below-append (below-take k n.bytes) (cons b (below-drop k n.bytes)))

    -- the sum, and what it is made of
    pub put-lt : length l < capacity → (x + 256 * (o / u) < 2 ^ 64) × (o % u + (x + 256 * (o / u)) * u < 2 ^ 64)
    put-lt room =
        let whole : o % u + (x + 256 * (o / u)) * u < unit (suc (length l)) = rw (put-number x, ← length-put k x l) (number_lt put-bytes) in
        let top : unit (suc (length l)) ≤ 2 ^ 64 = pow_mono {j = 64} (omega arith) in
        (omega (arith, le-mul_of_pos_right (x + 256 * (o / u)) unit-pos), omega arith)

    -- its bytes are the cells with x put in
    pub cells-put : length l < capacity → {bs : List ℕ} → bs ≡ to_le_bytes w64 (o % u + (x + 256 * (o / u)) * u) → bs ≡ cells_with (put k x l)
    cells-put room e = e ∙ bytes_with put-bytes (omega (arith, length-put k x l)) (put-number x)

module _ {l : List ℕ} {o : ℕ} (n : Numbered l o) (k : ℕ) {u : ℕ} (one : u ≡ unit k) (h : k < length l) where
  pub get_or-number : o / u % 256 ≡ get_or l k 0
  unfolding number
  get_or-number =
      let first : (get_or l k 0 + 256 * number (drop (suc k) l)) % 256 ≡ get_or l k 0 = omega (arith, below_at n.bytes k 0 h) in
      ap (λ (m : ℕ). m % 256) (high n k one (omega arith) ∙ ap number (drop-cons l k 0 h)) ∙ first

  cut-number : o % u + o / 256 / u * u ≡ number (cut k l)
  cut-number =
      let next : o / 256 / u ≡ number (drop (suc k) l) = ap (λ (v : ℕ). o / 256 / v) one ∙ above o k ∙ high n (suc k) refl h in
      ap₂ (λ (a b : ℕ). a + b * u) (low n k one (omega arith)) next
      ∙ joined n k one (omega arith) (drop (suc k) l)
      ∙ ap number (cut-split k l h)

  cut-bytes : Below 256 (cut k l)
  cut-bytes = rw cut-split at (below-append (below-take k n.bytes) (below-drop (suc k) n.bytes))

  pub cells_cut : length l ≤ capacity → {bs : List ℕ} → bs ≡ to_le_bytes w64 (o % u + o / 256 / u * u) → bs ≡ cells_with (cut k l)
  cells_cut few e = e ∙ bytes_with cut-bytes (omega (arith, length_cut k l h)) cut-number
