-- Three fields that are put one after the other are five bytes of a record, and a record's bits are such fields.
use mathlib.Core.Path.{◌≡◌, sym, ap, ap₂, ◌∙◌}
use mathlib.Core.List.{List, [], ◌++◌, append_assoc, append-nil}
use Prim.Native.Nat.{ℕ, ◌+◌, ◌*◌, ◌^◌, ◌≤◌, ◌<◌}
use native.Mathlib.Nat.{add_assoc}
use native.Mathlib.Omega.{arith}
use lib.ListN.{length, get_or, take, drop, length-append}
use lib.Seq.{take_all, drop-length, drop-drop, paste, take-paste, drop-paste}
use borrow.Rule.Slice.PartMut.{put_mid}
use borrow.Author.Tests.{le-leb, lt-leb}
use Rattle.rules.specs.Basic.{pick}
use Rattle.rules.specs.Bits.{digits, bits, bytes, Below}
use Rattle.rules.specs.Film.{across, upright, rec_bits}
use Rattle.rules.proofs.Fields.{length_digits, length-pack, length-bytes, below-append, below-take, below-drop, below-digits, below-bytes, below-from, digits-join, pack-append, take-pack, drop-pack, bytes_bits, bits-bytes}
use Rattle.bits.specs.Access.{Put}
use Rattle.slots.specs.Stamps.{stamp}

-- ---- two pastes side by side are one

paste-both : (l d e : List ℕ) (i n m : ℕ) → length d ≡ n → length e ≡ m → i + n + m ≤ length l
    → paste (paste l i d n) (i + n) e m ≡ paste l i (d ++ e) (n + m)
paste-both l d e i n m p q h =
    let whole : take n d ≡ d = take_all n d (omega arith) in
    let all : take (n + m) (d ++ e) ≡ d ++ e = take_all (n + m) (d ++ e) (omega (arith, length-append d e)) in
    let rest : drop (i + n + m) (paste l i d n) ≡ drop (i + (n + m)) l =
    sym (drop-drop m (i + n) (paste l i d n)) ∙ ap (drop m) (drop-paste l i d n (omega arith) (omega arith))
    ∙ drop-drop m (i + n) l ∙ ap (λ (k : ℕ). drop k l) (add_assoc i n m) in
    ap₂ (λ (a b : List ℕ). a ++ take m e ++ b) (take-paste l i d n (omega arith) (omega arith) ∙ ap (λ (r : List ℕ). take i l ++ r) whole) rest
    ∙ ap (λ (r : List ℕ). take i l ++ d ++ r ++ drop (i + (n + m)) l) (take_all m e (omega arith))
    ∙ ap (λ (r : List ℕ). r ++ drop (i + (n + m)) l) (append_assoc (take i l) d e)
    ∙ ap (λ (r : List ℕ). take i l ++ r ++ drop (i + (n + m)) l) (sym all)

-- ---- five bytes pasted are their 40 bits pasted

module _ (film l : List ℕ) (i : ℕ) (b : Below 256 film) (f : Below 2 l) (n : length l ≡ 40) (h : 5 * i + 5 ≤ length film) where
  five : length (bytes l) ≡ 5
  five = length-bytes 5 l n

  after-bits : bits (paste film (5 * i) (bytes l) 5) ≡ paste (bits film) (8 * (5 * i)) l 40
  after-bits =
      let far : 8 * (5 * i) + 40 ≡ 8 * (5 * i + 5) = omega arith in
      pack-append 8 (take (5 * i) film ++ take 5 (bytes l)) (drop (5 * i + 5) film)
      ∙ ap₂ (λ (x y : List ℕ). x ++ y) (pack-append 8 (take (5 * i) film) (take 5 (bytes l))) (sym (drop-pack 8 (5 * i + 5) film))
      ∙ ap₂ (λ (x y : List ℕ). x ++ y ++ drop (8 * (5 * i + 5)) (bits film)) (sym (take-pack 8 (5 * i) film))
      (ap (λ (r : List ℕ). bits r) (take_all 5 (bytes l) (omega (arith, five))) ∙ bits-bytes 5 f n ∙ sym (take_all 40 l (omega arith)))
      ∙ ap (λ (k : ℕ). take (8 * (5 * i)) (bits film) ++ take 40 l ++ drop k (bits film)) (sym far)

  after-below : Below 256 (paste film (5 * i) (bytes l) 5)
  after-below = below-append (below-append (below-take (5 * i) b) (below-take 5 (below-bytes f))) (below-drop (5 * i + 5) b)

  -- bytes with these bits are the film with the record
  stamped : (s : List ℕ) → Below 256 s → bits s ≡ paste (bits film) (8 * (5 * i)) l 40 → s ≡ stamp film i l
  unfolding stamp pick
  stamped s p e =
      rw (le-leb (5 * i + 5) (length film) h)
      (sym (bytes_bits p) ∙ ap (λ (r : List ℕ). bytes r) (e ∙ sym after-bits) ∙ bytes_bits after-below)

pub stamp-short : (film l : List ℕ) (i : ℕ) → length film < 5 * i + 5 → film ≡ stamp film i l
unfolding stamp pick
stamp-short film l i h = rw (lt-leb (5 * i + 5) (length film) h)

-- a slice's bytes are below 256
pub bytes_below : (l : List ℕ) → ((i : ℕ) → get_or l i 0 < 256) → Below 256 l
bytes_below l h = below-from 256 l (λ i _. h i)

module _ (film s₁ s₂ s₃ : List ℕ) (i a b c : ℕ) (p : Below 256 film) (q : Below 256 s₃) (h : 5 * i + 5 ≤ length film) where
  pub stamp-three : Put film (8 * (5 * i)) 13 a s₁ → Put s₁ (8 * (5 * i) + 13) 13 b s₂ → Put s₂ (8 * (5 * i) + 26) 14 c s₃
      → s₃ ≡ stamp film i (digits 13 a ++ (digits 13 b ++ digits 14 c))
  stamp-three e f g =
      let x : List ℕ = digits 13 a in
      let y : List ℕ = digits 13 b in
      let z : List ℕ = digits 14 c in
      let k : ℕ = 8 * (5 * i) in
      let n : length (x ++ y ++ z) ≡ 40 = omega (arith, length-append (x ++ y) z, length-append x y, length_digits 13 a, length_digits 13 b, length_digits 14 c) in
      let w : 8 * (5 * i) + 40 ≤ length (bits film) = omega (arith, length-pack 8 film) in
      let far : k + 26 ≡ k + (13 + 13) = omega arith in
      let two : bits s₂ ≡ paste (bits film) k (x ++ y) 26 =
      f.laid ∙ ap (λ (r : List ℕ). paste r (k + 13) y 13) e.laid
      ∙ paste-both (bits film) x y k 13 13 (length_digits 13 a) (length_digits 13 b) (omega arith) in
      let three : bits s₃ ≡ paste (bits film) k (x ++ y ++ z) 40 =
      g.laid ∙ ap (λ (r : List ℕ). paste r (k + 26) z 14) two
      ∙ paste-both (bits film) (x ++ y) z k 26 14 (omega (arith, length-append x y, length_digits 13 a, length_digits 13 b)) (length_digits 14 c) (omega arith) in
      stamped film (x ++ y ++ z) i p (below-append (below-append (below-digits 13 a) (below-digits 13 b)) (below-digits 14 c)) n h s₃ q three
      ∙ ap (stamp film i) (append_assoc x y z)

pub three-bytes : (a b c : ℕ) → length (bytes (digits 13 a ++ (digits 13 b ++ digits 14 c))) ≡ 5
three-bytes a b c =
    length-bytes 5 (digits 13 a ++ (digits 13 b ++ digits 14 c))
    (omega (arith, length-append (digits 13 a) (digits 13 b ++ digits 14 c), length-append (digits 13 b) (digits 14 c), length_digits 13 a, length_digits 13 b, length_digits 14 c))

-- five bytes with these fields, and a film with them in the place of record i
pub cell-three : (cell s₁ s₂ s₃ : List ℕ) (a b c : ℕ) → Below 256 cell → Below 256 s₃ → length cell ≡ 5
    → Put cell 0 13 a s₁ → Put s₁ 13 13 b s₂ → Put s₂ 26 14 c s₃ → s₃ ≡ bytes (digits 13 a ++ (digits 13 b ++ digits 14 c))
unfolding stamp pick
cell-three cell s₁ s₂ s₃ a b c p q n e f g =
    let l : List ℕ = digits 13 a ++ (digits 13 b ++ digits 14 c) in
    let five : length (bytes l) ≡ 5 = three-bytes a b c in
    let h : 5 ≤ length cell = omega arith in
    let none : drop 5 cell ≡ [] = ap (λ (j : ℕ). drop j cell) (sym n) ∙ drop-length cell in
    let z : s₃ ≡ stamp cell 0 l = stamp-three cell s₁ s₂ s₃ 0 a b c p q (omega arith) e f g in
    rw (le-leb 5 (length cell) h) at z ∙ rw none (append-nil (take 5 (bytes l)) ∙ take_all 5 (bytes l) (omega arith))

pub cell-stamped : (film cell l : List ℕ) (i m : ℕ) → 5 * i + 5 ≤ length film → m ≡ 5 → length (bytes l) ≡ 5 → cell ≡ bytes l
    → put_mid (5 * i) m film cell ≡ stamp film i l
unfolding stamp pick
cell-stamped film cell l i m h e n q =
    let all : cell ≡ take 5 (bytes l) = q ∙ sym (take_all 5 (bytes l) (omega arith)) in
    rw (le-leb (5 * i + 5) (length film) h)
    (ap₂ (λ (r t : List ℕ). take (5 * i) film ++ (r ++ t)) all (ap (λ (k : ℕ). drop k (drop (5 * i) film)) e ∙ drop-drop 5 (5 * i) film)
    ∙ sym (append_assoc (take (5 * i) film) (take 5 (bytes l)) (drop (5 * i + 5) film)))

-- ---- a record's bits as fields of 13, 13 and 14

front : (f n h : ℕ) {v : ℕ} → n < 256 → h < 16 → v ≡ (f * 256 + n) * 16 + h → digits 13 v ≡ digits 1 f ++ (digits 8 n ++ digits 4 h)
front f n h p q e =
    ap (digits 13) e ∙ digits-join 9 4 (f * 256 + n) q ∙ ap (λ (r : List ℕ). r ++ digits 4 h) (digits-join 1 8 f p)
    ∙ append_assoc (digits 1 f) (digits 8 n) (digits 4 h)

back : (j k v : ℕ) {w : ℕ} → w ≡ v * 2 ^ k + 0 → 0 < 2 ^ k → digits (j + k) w ≡ digits j v ++ digits k 0
back j k v e h = ap (digits (j + k)) e ∙ digits-join j k v h

-- what was put is the record, with r the height that was read off its level
module _ (film after : List ℕ) (i n h x y r : ℕ) (p : n < 256) (q : r ≤ 7) (e : r ≡ h) where
  pub across-put : after ≡ stamp film i (digits 13 (n * 16 + r) ++ (digits 13 x ++ digits 14 (y * 2)))
      → after ≡ stamp film i (rec_bits (across n h x y))
  unfolding rec_bits
  across-put f =
      let v : n * 16 + r ≡ (0 * 256 + n) * 16 + h = omega arith in
      let w : y * 2 ≡ y * 2 ^ 1 + 0 = omega arith in
      f ∙ ap (stamp film i) (rw (front 0 n h p (omega arith) v, back 13 1 y w (omega arith)) (simp append_assoc))

  pub upright-put : (t : ℕ) → t ≡ y → after ≡ stamp film i (digits 13 (4096 + n * 16 + r) ++ (digits 13 x ++ digits 14 (t * 1024)))
      → after ≡ stamp film i (rec_bits (upright n h x y))
  unfolding rec_bits
  upright-put t z f =
      let v : 4096 + n * 16 + r ≡ (1 * 256 + n) * 16 + h = omega arith in
      let w : t * 1024 ≡ y * 2 ^ 10 + 0 = omega arith in
      f ∙ ap (stamp film i) (rw (front 1 n h p (omega arith) v, back 4 10 y w (omega arith)) (simp append_assoc))
