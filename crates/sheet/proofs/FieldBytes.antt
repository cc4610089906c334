-- The fields of a sheet's nodes in bytes: four come from three bytes, and unpacked bytes have the sheet's entries.
use mathlib.Core.Path.{◌≡◌, refl, sym, ap, ap₂, ◌∙◌}
use mathlib.Core.List.{List, ◌++◌}
use Prim.Native.Nat.{ℕ, suc, ◌+◌, ◌*◌, ◌/◌, ◌%◌, ◌^◌, ◌≤◌, ◌<◌}
use native.Mathlib.Omega.{arith}
use lib.ListN.{length, get_or, take, drop, set, length-append, length-drop, length-set}
use lib.Seq.{take-add, take_all, take_at, drop-drop, length-take-le}
use Rattle.rules.specs.Basic.{tabulate}
use Rattle.rules.specs.Bits.{Below, bits, val, field}
use Rattle.rules.specs.Sheet.{entry, count_of, entry_at, entries_of}
use Rattle.rules.proofs.Fields.{below-from, val-append, field_lt, length-pack}
use Rattle.rules.proofs.Pins.{length-tabulate, get_d_tabulate, tabulate-cong, map-tabulate}
use Rattle.rules.proofs.SheetFields.{count_of-lt}
use Rattle.bits.specs.Access.{Got}
use Rattle.bits.specs.Window.{Window}
use Rattle.bits.proofs.Window.{cut_out}
use Rattle.sheet.specs.Fields.{entry_in, entries_in, fields_of, filled, Packed, Unpacked}
use Rattle.sheet.proofs.Fills.{fill-length, fill_step}

-- ---- a node's six bits

-- six bits are two and then four
six-bits : (s : List ℕ) (at : ℕ) → at + 6 ≤ 8 * length s → field s at 6 ≡ field s at 2 * 16 + field s (at + 2) 4
six-bits s at h =
    let l : List ℕ = drop at (bits s) in
    let n : length (take 4 (drop 2 l)) ≡ 4 = length-take-le 4 (drop 2 l) (omega (arith, length-drop 2 l, length-drop at (bits s), length-pack 8 s)) in
    ap val (take-add 2 4 l) ∙ val-append (take 2 l) (take 4 (drop 2 l))
    ∙ ap (λ (k : ℕ). val (take 2 l) * 2 ^ k + val (take 4 (drop 2 l))) n
    ∙ ap (λ (r : List ℕ). val (take 2 l) * 16 + val (take 4 r)) (drop-drop 2 at (bits s))

entry-six : (s : List ℕ) (i : ℕ) → 16 + 6 * i + 6 ≤ 8 * length s → entry_in (field s (16 + 6 * i) 6) ≡ entry_at s i
unfolding entry_in entry_at
entry-six s i h =
    let at : ℕ = 16 + 6 * i in
    let next : 18 + 6 * i ≡ at + 2 = omega arith in
    let e : field s (18 + 6 * i) 4 ≡ field s (at + 2) 4 = ap (λ (k : ℕ). field s k 4) next in
    let six : field s at 6 ≡ field s at 2 * 16 + field s (at + 2) 4 = six-bits s at h in
    let low : field s (at + 2) 4 < 16 = field_lt s (at + 2) 4 in
    ap₂ entry (omega arith) (omega arith ∙ sym e)

-- ---- bytes that are filled with the fields

length_fields : (s : List ℕ) (n : ℕ) → length (fields_of s n) ≡ n
unfolding fields_of
length_fields s n = length-tabulate (λ i. field s (16 + 6 * i) 6) n

fields_at : (s : List ℕ) (n i : ℕ) → i < n → get_or (fields_of s n) i 0 ≡ field s (16 + 6 * i) 6
unfolding fields_of
fields_at s n i h = get_d_tabulate (λ j. field s (16 + 6 * j) 6) n i 0 h

fields-low : (s : List ℕ) (n : ℕ) → Below 64 (fields_of s n)
fields-low s n =
    below-from 64 (fields_of s n) (λ i h. let l : i < n = omega (arith, length_fields s n) in omega (arith, fields_at s n i l, field_lt s (16 + 6 * i) 6))

fields-entries : (s : List ℕ) (n : ℕ) → 16 + 6 * n ≤ 8 * length s → entries_in (fields_of s n) ≡ tabulate (entry_at s) n
unfolding fields_of
fields-entries s n h =
    map-tabulate entry_in (λ i. field s (16 + 6 * i) 6) n
    ∙ tabulate-cong (λ i. entry_in (field s (16 + 6 * i) 6)) (entry_at s) n (λ i l. entry-six s i (omega arith))

unpacked : (s : List ℕ) (n : ℕ) {d fields : List ℕ} → Packed s n d → fields ≡ filled (fields_of s n) d n → Unpacked s fields
unfolding entries_of
unpacked s n {d} {fields} p e =
    let all : fields ≡ fields_of s n ++ drop n d = e ∙ ap (λ (l : List ℕ). l ++ drop n d) (take_all n (fields_of s n) (omega (arith, length_fields s n))) in
    let first : take (count_of s) fields ≡ fields_of s n = ap₂ take (sym p.count) all ∙ take_at (fields_of s n) (drop n d) n (length_fields s n) in
    record {
      within = omega (arith, p.count, ap length all, length-append (fields_of s n) (drop n d), length_fields s n);
      low = rw first (fields-low s n);
      entries = rw first (fields-entries s n p.within ∙ ap (tabulate (entry_at s)) p.count);
    }

-- ---- four nodes from three bytes

module _ (s : List ℕ) (byte : (i : ℕ) → get_or s i 0 < 256) where
  -- the bytes from index i on as one number
  abbrev three : ℕ → ℕ
  three i = get_or s i 0 * 65536 + (get_or s (i + 1) 0 * 256 + get_or s (i + 2) 0)

  seen : (i : ℕ) → Window s i (three i)
  seen i = record { is = refl; second = byte (i + 1); third = byte (i + 2); low = omega (arith, byte i, byte (i + 1), byte (i + 2)) }

  -- the six bits from bit at on, of which the first is in byte i
  six-at : (at i after : ℕ) → at / 8 ≡ i → at % 8 + (6 + after) ≡ 24 → at + 6 ≤ 8 * length s → field s at 6 ≡ three i / 2 ^ after % 64
  six-at at i after e f h =
      cut_out s at 6 after (three i) (record { small = omega arith; within = h }) (rw e (seen i)) f

  module _ (k : ℕ) (h : 16 + 6 * (4 * k + 4) ≤ 8 * length s) where
    abbrev a : ℕ
    a = get_or s (3 * k + 2) 0

    abbrev b : ℕ
    b = get_or s (3 * k + 3) 0

    abbrev c : ℕ
    c = get_or s (3 * k + 4) 0

    next : (j : ℕ) → 3 * k + j + 1 ≡ 3 * k + suc j
    next j = omega arith

    first-six : field s (16 + 6 * (4 * k)) 6 ≡ a / 4
    first-six =
        six-at (16 + 6 * (4 * k)) (3 * k + 2) 18 (omega arith) (omega arith) (omega arith)
        ∙ omega (arith, byte (3 * k + 2), byte (3 * k + 2 + 1), byte (3 * k + 2 + 2))

    second-six : field s (16 + 6 * (4 * k + 1)) 6 ≡ a % 4 * 16 + b / 16
    second-six =
        six-at (16 + 6 * (4 * k + 1)) (3 * k + 2) 12 (omega arith) (omega arith) (omega arith)
        ∙ ap (λ (j : ℕ). (a * 65536 + (get_or s j 0 * 256 + get_or s (3 * k + 2 + 2) 0)) / 2 ^ 12 % 64) (next 2)
        ∙ omega (arith, byte (3 * k + 2), byte (3 * k + 3), byte (3 * k + 2 + 2))

    third-six : field s (16 + 6 * (4 * k + 2)) 6 ≡ b % 16 * 4 + c / 64
    third-six =
        six-at (16 + 6 * (4 * k + 2)) (3 * k + 3) 14 (omega arith) (omega arith) (omega arith)
        ∙ ap (λ (j : ℕ). (b * 65536 + (get_or s j 0 * 256 + get_or s (3 * k + 3 + 2) 0)) / 2 ^ 14 % 64) (next 3)
        ∙ omega (arith, byte (3 * k + 3), byte (3 * k + 4), byte (3 * k + 3 + 2))

    fourth-six : field s (16 + 6 * (4 * k + 3)) 6 ≡ c % 64
    fourth-six =
        six-at (16 + 6 * (4 * k + 3)) (3 * k + 4) 16 (omega arith) (omega arith) (omega arith)
        ∙ omega (arith, byte (3 * k + 4), byte (3 * k + 4 + 1), byte (3 * k + 4 + 2))

    -- the four bytes of these nodes are put behind those before them
    four-more : {n : ℕ} {d fields : List ℕ} → Packed s n d → 4 * k + 4 ≤ n → fields ≡ filled (fields_of s n) d (4 * k)
        → set (set (set (set fields (4 * k) (a / 4)) (4 * k + 1) (a % 4 * 16 + b / 16)) (4 * k + 2) (b % 16 * 4 + c / 64)) (4 * k + 3) (c % 64) ≡ filled (fields_of s n) d (4 * (k + 1))
    four-more {n} {d} {fields} p l e =
        ap (λ (r : List ℕ). set (set (set (set r (4 * k) (a / 4)) (4 * k + 1) (a % 4 * 16 + b / 16)) (4 * k + 2) (b % 16 * 4 + c / 64)) (4 * k + 3) (c % 64)) e
        ∙ ap (λ (r : List ℕ). set (set (set r (4 * k + 1) (a % 4 * 16 + b / 16)) (4 * k + 2) (b % 16 * 4 + c / 64)) (4 * k + 3) (c % 64))
        (more (4 * k) (4 * k + 1) (a / 4) (omega arith) (omega arith) first-six)
        ∙ ap (λ (r : List ℕ). set (set r (4 * k + 2) (b % 16 * 4 + c / 64)) (4 * k + 3) (c % 64))
        (more (4 * k + 1) (4 * k + 2) (a % 4 * 16 + b / 16) (omega arith) (omega arith) second-six)
        ∙ ap (λ (r : List ℕ). set r (4 * k + 3) (c % 64)) (more (4 * k + 2) (4 * k + 3) (b % 16 * 4 + c / 64) (omega arith) (omega arith) third-six)
        ∙ more (4 * k + 3) (4 * (k + 1)) (c % 64) (omega arith) (omega arith) fourth-six
      where
        more : (i j v : ℕ) → j ≡ i + 1 → i < n → field s (16 + 6 * i) 6 ≡ v → set (filled (fields_of s n) d i) i v ≡ filled (fields_of s n) d j
        more i j v q h r =
            fill_step (fields_of s n) d i v (omega (arith, length_fields s n)) (omega (arith, p.room)) (sym (fields_at s n i h ∙ r))
            ∙ ap (filled (fields_of s n) d) (sym q)

fields-few : {s d : List ℕ} {n : ℕ} → Packed s n d → n < 1024
fields-few {s} p = omega (arith, p.count, count_of-lt s)

-- the first k fours are unpacked
pub record Fours (s d : List ℕ) (n : ℕ) (fields : List ℕ) (k : ℕ) : Type 0 where
  pub packed : Packed s n d
  pub few : n < 1024
  pub within : 4 * k ≤ n
  pub kept : length fields ≡ length d
  pub bytes : fields ≡ filled (fields_of s n) d (4 * k)

pub fours-start : {s d : List ℕ} {n : ℕ} → Packed s n d → Fours s d n d 0
fours-start p = record { packed = p; few = fields-few p; within = omega arith; kept = refl; bytes = refl }

pub fours-step : {s d fields : List ℕ} {n k : ℕ} → ((i : ℕ) → get_or s i 0 < 256) → 4 * k + 4 ≤ n → Fours s d n fields k
    → Fours s d n (set (set (set (set fields (4 * k) (get_or s (3 * k + 2) 0 / 4)) (4 * k + 1) (get_or s (3 * k + 2) 0 % 4 * 16 + get_or s (3 * k + 3) 0 / 16)) (4 * k + 2) (get_or s (3 * k + 3) 0 % 16 * 4 + get_or s (3 * k + 4) 0 / 64)) (4 * k + 3) (get_or s (3 * k + 4) 0 % 64)) (k + 1)
fours-step {s} {k = k} byte h m =
    record {
      packed = m.packed;
      few = m.few;
      within = omega arith;
      kept = simp length-set m.kept;
      bytes = four-more s byte k (omega (arith, m.packed.within)) m.packed h m.bytes;
    }

-- ---- and the nodes behind them one by one

-- bytes that are filled so far are as many as they were
pub filled-kept : {s d fields : List ℕ} {n i : ℕ} → Packed s n d → (i ≤ n) × (fields ≡ filled (fields_of s n) d i) → length fields ≡ length d
filled-kept {s} {d} {n = n} {i = i} p f =
    ap length f.1 ∙ fill-length (fields_of s n) d i (omega (arith, length_fields s n)) (omega (arith, p.room))

-- the nodes before i are unpacked, over some bytes, as many as d has
pub record Filling (s d : List ℕ) (n : ℕ) (fields : List ℕ) (i : ℕ) : Type 0 where
  pub under : List ℕ
  pub packed : Packed s n under
  pub few : n < 1024
  pub within : i ≤ n
  pub kept : length fields ≡ length d
  pub same : length fields ≡ length under
  pub bytes : fields ≡ filled (fields_of s n) under i

pub filling-start : {s d fields : List ℕ} {n i : ℕ} → Packed s n d → (i ≤ n) × (fields ≡ filled (fields_of s n) d i) → Filling s fields n fields i
filling-start {d = d} p f = record { under = d; packed = p; few = fields-few p; within = f.0; kept = refl; same = filled-kept p f; bytes = f.1 }

pub filling_step : {s d fields : List ℕ} {n i : ℕ} → i < n → Filling s d n fields i → {r : ℕ} → Got s (16 + 6 * i) 6 r → Filling s d n (set fields i r) (i + 1)
filling_step {s} {fields = fields} {n} {i} h m {r} g =
    record {
      under = m.under;
      packed = m.packed;
      few = m.few;
      within = omega arith;
      kept = length-set fields i r ∙ m.kept;
      same = length-set fields i r ∙ m.same;
      bytes =
          ap (λ (l : List ℕ). set l i r) m.bytes
          ∙ fill_step (fields_of s n) m.under i r (omega (arith, length_fields s n)) (omega (arith, m.packed.room)) (g.is ∙ sym (fields_at s n i h));
    }

pub filling-end : {s d fields : List ℕ} {n i : ℕ} → n ≤ i → Filling s d n fields i → Unpacked s fields
filling-end {s} {n = n} {i = i} h m =
    let e : i ≡ n = omega (arith, m.within) in
    unpacked s n m.packed (m.bytes ∙ ap (filled (fields_of s n) m.under) e)
