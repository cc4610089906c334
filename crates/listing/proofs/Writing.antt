-- Bytes that are put one after the other are put as one list, and bytes that are put at the start are written there.
use mathlib.Core.Path.{◌≡◌, refl, sym, ap, ap₂, ◌∙◌}
use mathlib.Core.List.{List, [], ◌∷◌, ◌++◌}
use Prim.Native.Nat.{ℕ, suc, ◌+◌, ◌-◌, ◌≤◌}
use native.Mathlib.Nat.{add-zero, zero-add}
use native.Mathlib.Omega.{arith}
use lib.ListN.{length, set, take, drop, length-append}
use lib.Seq.{sets, length-sets, sets-eq, drop-drop, length-take-le}
use Rattle.std.proofs.lemmas.List.{append_assoc}
use borrow.Rule.Slice.PartMut.{put_mid}
use Rattle.rules.specs.Answers.{written}
use Rattle.listing.specs.Text.{closed}
use Rattle.listing.specs.declared.put.Text.{Text}
use Rattle.listing.specs.Wrote.{Listing, IsPrefixLen}
use Rattle.listing.specs.Puts.{Room, Puts}

sets-append : (a b text : List ℕ) (at : ℕ) → sets text at (a ++ b) ≡ sets (sets text at a) (at + length a) b
sets-append [] b text at = ap (λ (k : ℕ). sets text k b) (sym (add-zero at))
sets-append (x ∷ a) b text at =
    let e : suc at + length a ≡ at + length (x ∷ a) = omega arith in
    sets-append a b (set text at x) (suc at) ∙ ap (λ (k : ℕ). sets (sets (set text at x) (suc at) a) k b) e

module _ {new : List ℕ} {t t' : Text} (p : Puts new t t') where
  pub puts-kept : length t'.bytes.now ≡ length t.bytes.now
  puts-kept = ap length p.is ∙ length-sets t.bytes.now t.len new

pub puts-none : (t : Text) → Puts [] t t
puts-none t = record { same = refl; is = refl; len = sym (add-zero t.len) }

pub puts-more : {t t' t'' : Text} {a b : List ℕ} → Puts a t t' → Puts b t' t'' → Puts (a ++ b) t t''
puts-more {t} {t'} {t''} {a} {b} p q =
    record {
      same = q.same ∙ p.same;
      is =
          q.is
          ∙ ap₂ (λ (l : List ℕ) (k : ℕ). sets l k b) p.is p.len
          ∙ sym (sets-append a b t.bytes.now t.len);
      len = omega (arith, p.len, q.len, length-append a b);
    }

-- where two texts have room one behind the other, the first has, and behind it the second
pub room-first : (a b : List ℕ) (t : Text) → Room (a ++ b) t → Room a t
room-first a b t h = record { within = omega (arith, h.within, length-append a b) }

pub room-second : (a b : List ℕ) (t : Text) {t' : Text} → Room (a ++ b) t → Puts a t t' → Room b t'
room-second a b t h p = record { within = omega (arith, h.within, length-append a b, p.len, puts-kept p) }

pub length-closed : (field : List ℕ) (end : ℕ) → length (closed field end) ≡ length field + 1
unfolding closed
length-closed field end = omega (arith, length-append field (end ∷ []))

-- a word is put over as many bytes, and then the byte that ends it
pub word-closed : (text : List ℕ) (at : ℕ) (word : List ℕ) (end : ℕ) → at + length (closed word end) ≤ length text
    → set (put_mid at (at + length word - at) text word) (at + length word) end ≡ sets text at (closed word end)
unfolding closed
word-closed text at word end h =
    let k : at + length word - at ≡ length word = omega arith in
    let over : put_mid at (at + length word - at) text word ≡ sets text at word =
    ap (λ (l : List ℕ). take at text ++ (word ++ l)) (ap (λ (j : ℕ). drop j (drop at text)) k ∙ drop-drop (length word) at text)
    ∙ sym (append_assoc (take at text) word (drop (at + length word) text))
    ∙ sym (sets-eq word text at (omega (arith, length-append word (end ∷ [])))) in
    ap (λ (t : List ℕ). set t (at + length word) end) over ∙ sym (sets-append word (end ∷ []) text at)

-- at the start of a buffer there is room for what is no longer than it
pub room-start : {new : List ℕ} {t : Text} {k : ℕ} → t.len ≡ 0 → k ≤ length t.bytes.now → length new ≤ k → Room new t
room-start z h g = record { within = omega arith }

-- what is put at the start of a buffer is written there
pub puts-listing : {new : List ℕ} {t t' : Text} → t.len ≡ 0 → Room new t → Puts new t t' → Listing new t.bytes.now t'.bytes.now t'.len
unfolding written
puts-listing {new} {t} {t'} z h p =
    record {
      is =
          p.is
          ∙ ap (λ (k : ℕ). sets t.bytes.now k new) z
          ∙ sets-eq new t.bytes.now 0 (omega (arith, h.within))
          ∙ ap (λ (k : ℕ). new ++ drop k t.bytes.now) (zero-add (length new));
      ends = omega (arith, p.len);
      within = omega (arith, h.within, p.len, puts-kept p);
    }

-- a bound on a count is what `&xs[..n]` asks
pub prefix_len_of_le : (n : ℕ) (xs : List ℕ) → n ≤ length xs → IsPrefixLen n xs
prefix_len_of_le n xs h = (h, sym (length-take-le n xs h))
