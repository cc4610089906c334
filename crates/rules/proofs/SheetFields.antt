-- What a sheet's bytes are laid out from is read back from them, and bytes of a sheet's length with zero padding are those laid out for what stands in them.
use mathlib.Core.Path.{◌≡◌, refl, sym, ap, ap₂, ◌∙◌}
use mathlib.Core.List.{List, [], ◌∷◌, ◌++◌}
use Prim.Native.Nat.{ℕ, zero, suc, ◌+◌, ◌*◌, ◌≤◌, ◌<◌}
use native.Mathlib.Omega.{arith}
use lib.ListN.{length, take, drop, length-append, length-drop}
use lib.Seq.{drop_at, drop-drop}
use lib.Pow.{pow_pos}
use Rattle.rules.specs.Basic.{tabulate}
use Rattle.rules.specs.Bits.{digits, val, bits, bytes, field, Below}
use Rattle.rules.specs.Sheet.{Entry, entry, entry_bits, size, padding, sheet_bits, upper_of, lower_of, count_of, entry_at, entries_of, padding_of}
use Rattle.rules.proofs.Fields.{length_digits, length-pack, below-append, below-drop, below-digits, below-pack, val-digits, val-take-lt, digits-first, zero_bits, bytes_bits, bits-bytes, below-bytes, field_lt, digits-field}
use Rattle.rules.proofs.Pins.{length-tabulate, tabulate-cong}

-- ---- how many bits

pub size-bits : (n : ℕ) → 16 + 6 * n + padding n ≡ 8 * size n
unfolding size padding
size-bits n = omega arith

pub padding-lt : (n : ℕ) → padding n < 8
unfolding size padding
padding-lt n = omega arith

pub length-entry_bits : (es : List Entry) → length (entry_bits es) ≡ 6 * length es
unfolding entry_bits digits
length-entry_bits [] = refl
length-entry_bits (entry f a ∷ es) = omega (arith, length-entry_bits es)

pub below-entry_bits : (es : List Entry) → Below 2 (entry_bits es)
unfolding entry_bits
below-entry_bits [] = Below.nil
below-entry_bits (entry f a ∷ es) = below-append (below-digits 2 f) (below-append (below-digits 4 a) (below-entry_bits es))

pub length-sheet_bits : (ku kl : ℕ) (es : List Entry) → length (sheet_bits ku kl es) ≡ 8 * size (length es)
unfolding sheet_bits digits
length-sheet_bits ku kl es =
    omega (arith, size-bits (length es), length-entry_bits es, length-append (entry_bits es) (digits (padding (length es)) 0), length_digits (padding (length es)) 0)

pub below-sheet_bits : (ku kl : ℕ) (es : List Entry) → Below 2 (sheet_bits ku kl es)
unfolding sheet_bits
below-sheet_bits ku kl es =
    below-append (below-digits 4 ku)
    (below-append (below-digits 2 kl)
    (below-append (below-digits 10 (length es)) (below-append (below-entry_bits es) (below-digits (padding (length es)) 0))))

-- ---- entries and their bits

-- every entry fits its six bits
pub data Narrow : List Entry → Type 0 where
  nil : Narrow []
  cons : {f a : ℕ} {es : List Entry} → f < 4 → a < 16 → Narrow es → Narrow (entry f a ∷ es)

-- the entry in the first six bits
entry_in : List ℕ → Entry
entry_in l = entry (val (take 2 l)) (val (take 4 (drop 2 l)))

-- n entries from the start of the bits
reads : ℕ → List ℕ → List Entry
reads zero l = []
reads (suc n) l = entry_in l ∷ reads n (drop 6 l)

reads-from : (l : List ℕ) (n k : ℕ) → tabulate (λ i. entry_in (drop (k + 6 * i) l)) n ≡ reads n (drop k l)
unfolding tabulate reads
reads-from l zero k = refl
reads-from l (suc n) k =
    ap₂ {C = List Entry} (λ e es. e ∷ es)
    (from (k + 6 * 0) k (omega arith))
    (tabulate-cong (λ i. entry_in (drop (k + 6 * suc i) l)) (λ i. entry_in (drop (k + 6 + 6 * i) l)) n
    (λ i h. from (k + 6 * suc i) (k + 6 + 6 * i) (omega arith))
    ∙ reads-from l n (k + 6)
    ∙ ap (reads n) (sym (drop-drop 6 k l)))
  where
    from : (i j : ℕ) → i ≡ j → entry_in (drop i l) ≡ entry_in (drop j l)
    from i j = ap (λ (x : ℕ). entry_in (drop x l))

entry_at-entry_in : (s : List ℕ) (i : ℕ) → entry_at s i ≡ entry_in (drop (16 + 6 * i) (bits s))
unfolding entry_at entry_in
entry_at-entry_in s i =
    let e : 18 + 6 * i ≡ 16 + 6 * i + 2 = omega arith in
    ap (λ (l : List ℕ). entry (field s (16 + 6 * i) 2) (val (take 4 l)))
    (ap (λ (j : ℕ). drop j (bits s)) e ∙ sym (drop-drop 2 (16 + 6 * i) (bits s)))

-- a sheet's entries start at bit 16
entries_of-reads : (s : List ℕ) → entries_of s ≡ reads (count_of s) (drop 16 (bits s))
unfolding entries_of
entries_of-reads s =
    tabulate-cong (entry_at s) (λ i. entry_in (drop (16 + 6 * i) (bits s))) (count_of s) (λ i h. entry_at-entry_in s i)
    ∙ reads-from (bits s) (count_of s) 16

-- entries are read back from their bits
reads-entry_bits : {es : List Entry} (post : List ℕ) → Narrow es → reads (length es) (entry_bits es ++ post) ≡ es
unfolding entry_bits digits reads entry_in
reads-entry_bits post nil = refl
reads-entry_bits post (cons {f} {a} {es} hf ha p) =
    ap₂ {C = List Entry} (λ e es. e ∷ es) (ap₂ entry (val-digits 2 hf) (val-digits 4 ha)) (reads-entry_bits post p)

-- the bits that entries are read from are theirs
entry_bits-reads : (n : ℕ) {l : List ℕ} → Below 2 l → 6 * n ≤ length l → entry_bits (reads n l) ++ drop (6 * n) l ≡ l
unfolding entry_bits digits reads entry_in
entry_bits-reads zero p h = refl
entry_bits-reads (suc n) {l} p h =
    let f : ℕ = val (take 2 l) in
    let a : ℕ = val (take 4 (drop 2 l)) in
    let next : 6 * suc n ≡ 6 + 6 * n = omega arith in
    ap (λ (j : ℕ). digits 2 f ++ (digits 4 a ++ (entry_bits (reads n (drop 6 l)) ++ drop j l))) next
    ∙ ap (λ (r : List ℕ). digits 2 f ++ (digits 4 a ++ (entry_bits (reads n (drop 6 l)) ++ r))) (sym (drop-drop (6 * n) 6 l))
    ∙ ap (λ (r : List ℕ). digits 2 f ++ (digits 4 a ++ r)) (entry_bits-reads n (below-drop 6 p) (omega (arith, length-drop 6 l)) ∙ sym (drop-drop 4 2 l))
    ∙ ap (λ (r : List ℕ). digits 2 f ++ r) (digits-first 4 (below-drop 2 p) (omega (arith, length-drop 2 l)))
    ∙ digits-first 2 p (omega arith)

narrow-reads : (n : ℕ) {l : List ℕ} → Below 2 l → Narrow (reads n l)
unfolding reads entry_in
narrow-reads zero p = nil
narrow-reads (suc n) p = cons (val-take-lt 2 p) (val-take-lt 4 (below-drop 2 p)) (narrow-reads n (below-drop 6 p))

-- ---- what is laid out is read back

-- s holds these track counts and entries, and nothing else
pub record LaidOut (ku kl : ℕ) (es : List Entry) (s : List ℕ) : Type 0 where
  pub are-bytes : Below 256 s
  pub sized : length s ≡ size (length es)
  pub upper : upper_of s ≡ ku
  pub lower : lower_of s ≡ kl
  pub count : count_of s ≡ length es
  pub nodes : entries_of s ≡ es
  pub clear : padding_of s ≡ 0

module _ (ku kl : ℕ) {es : List Entry} (s : List ℕ) (e : bits s ≡ sheet_bits ku kl es)
    (hu : ku < 16) (hl : kl < 4) (hn : length es < 1024) (p : Narrow es) where
  upper_in : upper_of s ≡ ku
  unfolding upper_of sheet_bits digits
  upper_in = ap (λ (l : List ℕ). val (take 4 l)) e ∙ val-digits 4 hu

  lower_in : lower_of s ≡ kl
  unfolding lower_of sheet_bits digits
  lower_in = ap (λ (l : List ℕ). val (take 2 (drop 4 l))) e ∙ val-digits 2 hl

  count-in : count_of s ≡ length es
  unfolding count_of sheet_bits digits
  count-in = ap (λ (l : List ℕ). val (take 10 (drop 6 l))) e ∙ val-digits 10 hn

  behind-count : drop 16 (bits s) ≡ entry_bits es ++ digits (padding (length es)) 0
  unfolding sheet_bits digits
  behind-count = ap (drop 16) e

  nodes-in : entries_of s ≡ es
  nodes-in = entries_of-reads s ∙ ap₂ reads count-in behind-count ∙ reads-entry_bits (digits (padding (length es)) 0) p

  clear_in : padding_of s ≡ 0
  unfolding padding_of
  clear_in =
      ap (λ (n : ℕ). val (drop (16 + 6 * n) (bits s))) count-in
      ∙ ap val (sym (drop-drop (6 * length es) 16 (bits s)))
      ∙ ap (λ (l : List ℕ). val (drop (6 * length es) l)) behind-count
      ∙ ap val (drop_at (entry_bits es) (digits (padding (length es)) 0) (6 * length es) (length-entry_bits es))
      ∙ val-digits (padding (length es)) (pow_pos (padding (length es)))

  -- bytes with the bits of a sheet
  pub bits-laid-out : Below 256 s → LaidOut ku kl es s
  bits-laid-out b =
      record {
        are-bytes = b;
        sized = omega (arith, ap length e, length-pack 8 s, length-sheet_bits ku kl es);
        upper = upper_in;
        lower = lower_in;
        count = count-in;
        nodes = nodes-in;
        clear = clear_in;
      }

pub laid_out : (ku kl : ℕ) {es : List Entry} → ku < 16 → kl < 4 → length es < 1024 → Narrow es → LaidOut ku kl es (bytes (sheet_bits ku kl es))
laid_out ku kl {es} hu hl hn p =
    bits-laid-out ku kl (bytes (sheet_bits ku kl es))
    (bits-bytes (size (length es)) (below-sheet_bits ku kl es) (length-sheet_bits ku kl es)) hu hl hn p (below-bytes (below-sheet_bits ku kl es))

-- ---- what is read, laid out again

pub upper_of-lt : (s : List ℕ) → upper_of s < 16
unfolding upper_of
upper_of-lt s = field_lt s 0 4

pub lower_of-lt : (s : List ℕ) → lower_of s < 4
unfolding lower_of
lower_of-lt s = field_lt s 4 2

pub count_of-lt : (s : List ℕ) → count_of s < 1024
unfolding count_of
count_of-lt s = field_lt s 6 10

pub narrow-entries_of : (s : List ℕ) → Narrow (entries_of s)
narrow-entries_of s = rw (entries_of-reads s) (narrow-reads (count_of s) (below-drop 16 (below-pack 8 s)))

pub length-entries_of : (s : List ℕ) → length (entries_of s) ≡ count_of s
unfolding entries_of
length-entries_of s = length-tabulate (entry_at s) (count_of s)

module _ {s : List ℕ} (b : Below 256 s) (n : length s ≡ size (count_of s)) (z : padding_of s ≡ 0) where
  behind-fields : entry_bits (entries_of s) ++ digits (padding (length (entries_of s))) 0 ≡ drop 16 (bits s)
  unfolding padding_of
  behind-fields =
      let c : ℕ = count_of s in
      let l : List ℕ = drop 16 (bits s) in
      let p : Below 2 l = below-drop 16 (below-pack 8 s) in
      let t : length l ≡ 6 * c + padding c = omega (arith, length-drop 16 (bits s), length-pack 8 s, size-bits c) in
      ap₂ (λ (es : List Entry) (k : ℕ). entry_bits es ++ digits (padding k) 0) (entries_of-reads s) (length-entries_of s)
      ∙ ap (λ (r : List ℕ). entry_bits (reads c l) ++ r)
      (sym (zero_bits (padding c) (below-drop (6 * c) p) (omega (arith, length-drop (6 * c) l)) (ap val (drop-drop (6 * c) 16 (bits s)) ∙ z)))
      ∙ entry_bits-reads c p (omega arith)

  sheet_bits-fields : sheet_bits (upper_of s) (lower_of s) (entries_of s) ≡ bits s
  unfolding sheet_bits upper_of lower_of count_of size
  sheet_bits-fields =
      ap₂ (λ (k : ℕ) (r : List ℕ). digits 4 (upper_of s) ++ (digits 2 (lower_of s) ++ (digits 10 k ++ r))) (length-entries_of s) behind-fields
      ∙ ap (λ (r : List ℕ). digits 4 (upper_of s) ++ (digits 2 (lower_of s) ++ r)) (digits-field s 6 10 (omega arith))
      ∙ ap (λ (r : List ℕ). digits 4 (upper_of s) ++ r) (digits-field s 4 2 (omega arith))
      ∙ digits-field s 0 4 (omega arith)

  -- the bytes are those laid out for what stands in them
  pub laid-out-again : s ≡ bytes (sheet_bits (upper_of s) (lower_of s) (entries_of s))
  laid-out-again = sym (bytes_bits b) ∙ ap bytes (sym sheet_bits-fields)

-- different track counts or entries have different bytes
pub same_bytes : {ku kl ku' kl' : ℕ} {es es' : List Entry} → ku < 16 → kl < 4 → length es < 1024 → Narrow es → ku' < 16 → kl' < 4 → length es' < 1024
    → Narrow es' → bytes (sheet_bits ku kl es) ≡ bytes (sheet_bits ku' kl' es') → (ku ≡ ku') × (kl ≡ kl') × (es ≡ es')
same_bytes {ku} {kl} {ku'} {kl'} hu hl hn p hu' hl' hn' p' e =
    let a = laid_out ku kl hu hl hn p in
    let b = laid_out ku' kl' hu' hl' hn' p' in
    (sym a.upper ∙ ap upper_of e ∙ b.upper, sym a.lower ∙ ap lower_of e ∙ b.lower, sym a.nodes ∙ ap entries_of e ∙ b.nodes)
