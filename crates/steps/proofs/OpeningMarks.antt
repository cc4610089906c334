-- The words that an opening writes mark exactly the ranks that the new net leads to.
use mathlib.Core.Path.{◌≡◌, refl, sym, ap, ◌∙◌}
use mathlib.Core.Bool.{Bool, true, false, ◌&&◌}
use mathlib.Core.List.{List}
use mathlib.Core.Logic.{◌⊎◌, inl, inr, ⊎_elim}
use Prim.Native.Nat.{ℕ, zero, suc, ◌+◌, ◌-◌, ◌*◌, ◌/◌, ◌%◌, ◌≤◌, ◌<◌}
use native.Mathlib.Nat.{mod-lt, div-add-mod'}
use native.Mathlib.Omega.{arith}
use lib.Bits.{bit_and, and_le_r}
use lib.Dec.{eqb, ltb}
use borrow.Author.Tests.{ltb-true, ltb-false, eqb-true, eqb-false, ne_eqb}
use Rattle.rules.specs.Street.{fits}
use Rattle.rules.proofs.Fits.{Fits}
use Rattle.steps.specs.Ranks.{fact}
use Rattle.steps.specs.Sets.{ranks, slots, held, slot, word_at, bit, marked, source, Written, Empty, Some, Bare}
use Rattle.steps.specs.Four.{word_before}
use Rattle.steps.specs.Opening.{wide, Before, Places, Under, Copies, Opened}
use Rattle.steps.proofs.Ranks.{fact-pos}
use Rattle.steps.proofs.Slots.{held-few, held-middle, held_below, slot-few, slot-middle, slot_cases, slot-below}
use Rattle.steps.proofs.Bits.{not-both, marked-bit, marked-held, marked-same, source-none, source-gap}
use Rattle.steps.proofs.Hops.{fits-fits, unfit}
use Rattle.steps.proofs.Words.{bit-and, bit-mod, bit-zero, bit-power, bit-power-other, bit-some}

-- a word of the gap before
module _ (s : List ℕ) (g k : ℕ) where
  before-word : (h w : ℕ) → g ≡ suc h → w ≡ word_at s h k → Before s g k (w % wide)
  before-word h w e d =
      record {
        small = omega arith;
        told = λ r m l. bit-mod w 24 (r % 24) (omega arith) ∙ ap (λ (v : ℕ). bit v (r % 24)) (d ∙ ap (word_at s h) (sym l)) ∙
            sym (marked-bit s h r m) ∙ sym (source-gap s g h r e);
      }

  -- before node 0 rank 0 alone
  before-first : g ≡ 0 → k ≡ 0 → Before s g k 1
  before-first e d =
      record { small = omega arith; told = λ r m l. go r (slot_cases r m) l (eqb r 0) refl ∙ sym (source-none s g r e) }
    where
      go : (r : ℕ) → ((r < 120) × (slot r ≡ r / 24)) ⊎ ((240 ≤ r) × (r < 480) × (slot r ≡ r / 24 - 5)) → slot r ≡ k → (t : Bool) →
          eqb r 0 ≡ t → bit 1 (r % 24) ≡ eqb r 0
      go r (inr c) l t f = absurd (omega arith)
      go r (inl c) l true f =
          let z : r % 24 ≡ 0 = omega (arith, eqb-true r 0 f) in
          ap (bit 1) z ∙ bit-power 0 ∙ sym f
      go r (inl c) l false f = bit-power-other 0 (r % 24) (λ z. eqb-false r 0 f (omega arith)) ∙ sym f

  before-none : g ≡ 0 → (k ≡ 0 → ⊥) → Before s g k 0
  before-none e n =
      record {
        small = omega arith;
        told = λ r m l. bit-zero (r % 24) ∙ sym (ne_eqb r 0 (λ z. n (sym l ∙ ap slot z ∙ slot-few 0 (omega arith)))) ∙ sym (source-none s g r e);
      }

-- the low 24 bits of the word before a node are the ranks before it that the slot has bits for
pub before-ranks : (s : List ℕ) (g k w : ℕ) → w ≡ word_before s g k → Before s g k (w % wide)
unfolding word_before
before-ranks s zero zero w e = rw e (before-first s 0 0 refl refl)
before-ranks s zero (suc k) w e = rw e (before-none s 0 (suc k) refl (λ d. omega arith))
before-ranks s (suc h) k w e = before-word s (suc h) k h w refl e

and-false : (t : Bool) → t && false ≡ false
and-false true = refl
and-false false = refl

and_comm : (s t : Bool) → s && t ≡ t && s
and_comm true true = refl
and_comm true false = refl
and_comm false true = refl
and_comm false false = refl

-- marks that are as they were
pub same-marks : (s t : List ℕ) (h x : ℕ) → ((j : ℕ) → j < slots → word_at t h j ≡ word_at s h j) → marked t h x ≡ marked s h x
same-marks s t h x f = marked-same s t h x (λ m. ap (λ (v : ℕ). bit v (x % 24)) (f (slot x) (slot-below x m)))

-- the rank that has bit i of slot k
pub record Seat (k i : ℕ) : Type 0 where
  pub rank : ℕ
  pub can : held rank ≡ true
  pub where-in : slot rank ≡ k
  pub which : rank % 24 ≡ i

pub seat : (k i : ℕ) → k < slots → i < 24 → Seat k i
seat k i hk hi = go (ltb k 5) refl
  where
    go : (t : Bool) → ltb k 5 ≡ t → Seat k i
    go true e =
        let l = ltb-true k 5 e in
        let r : ℕ = 24 * k + i in
        record { rank = r; can = held-few r (omega arith); where-in = slot-few r (omega arith) ∙ omega arith; which = omega arith }
    go false e =
        let l = ltb-false k 5 e in
        let r : ℕ = 24 * (k + 5) + i in
        record {
          rank = r;
          can = held-middle r (omega arith) (omega arith);
          where-in = slot-middle r (omega arith) ∙ omega arith;
          which = omega arith;
        }

module _ (s : List ℕ) (g : ℕ) (z : Empty s g) (t : List ℕ) where
  -- a word that is not written has no mark
  pub unwritten : (x : ℕ) → held x ≡ true → word_at t g (slot x) ≡ word_at s g (slot x) → marked t g x ≡ false
  unwritten x m e = go (marked t g x) refl
    where
      go : (v : Bool) → marked t g x ≡ v → v ≡ false
      go false d = refl
      go true d =
          absurd (z x (omega (arith, held_below x m))
          (marked-bit s g x m ∙ ap (λ (v : ℕ). bit v (x % 24)) (sym e) ∙ sym (marked-bit t g x m) ∙ d))

  -- nothing is marked where each word is 0 or not written
  pub bare-none : ((k : ℕ) → k < slots → (word_at t g k ≡ word_at s g k) ⊎ (word_at t g k ≡ 0)) → Empty t g
  bare-none f x l e =
      let m = marked-held t g x e in
      not-both (⊎_elim (λ d. unwritten x m d) (λ d. marked-bit t g x m ∙ ap (λ (v : ℕ). bit v (x % 24)) d ∙ bit-zero (x % 24))
      (f (slot x) (slot-below x m))) e

-- a bit of a word is a mark
pub bare-some : (t : List ℕ) (g k i : ℕ) → k < slots → i < 24 → bit (word_at t g k) i ≡ true → Some t g
bare-some t g k i hk hi e =
    let c = seat k i hk hi in
    let d : bit (word_at t g (slot c.rank)) (c.rank % 24) ≡ true = rw (c.where-in, c.which) e in
    record { rank = c.rank; within = omega (arith, held_below c.rank c.can); is = marked-bit t g c.rank c.can ∙ d }

-- the words of a gap that a test finds all 0, or not
pub bare-test : (t : List ℕ) (g any : ℕ) → (any ≡ 0 → Empty t g) →
    ((i : ℕ) → i < 24 → bit any i ≡ true → Some t g) → any < wide → Bare t g (eqb any 0)
bare-test t g any f h l = go (eqb any 0) refl
  where
    go : (b : Bool) → eqb any 0 ≡ b → Bare t g b
    go true e = f (eqb-true any 0 e)
    go false e =
        let n : 0 < any = omega (arith, eqb-false any 0 e) in
        let (i, m, d) = bit-some 24 any l n in
        h i m d

-- a rank of four nets at most is in slot 0
module _ (s : List ℕ) (g w : ℕ) (before : Before s g 0 w) where
  pub first-told : (r : ℕ) → r < 24 → bit w r ≡ source s g r
  first-told r l =
      let e : r % 24 ≡ r = omega arith in
      ap (bit w) (sym e) ∙ before.told r (held-few r (omega arith)) (slot-few r (omega arith) ∙ omega arith)

  -- where only ranks below n are before the node
  pub first_under : (n : ℕ) → ((x : ℕ) → x < ranks → source s g x ≡ true → x < n) → Under w n
  first_under n f i h l = go (source s g i) refl
    where
      go : (v : Bool) → source s g i ≡ v → bit w i ≡ false
      go false e = first-told i l ∙ e
      go true e = absurd (omega (arith, f i (omega arith) e))

-- up to three nets: the ranks from 24 on are none of theirs
pub fact-few : (b : ℕ) → b ≤ 3 → fact b ≤ 6
unfolding fact
fact-few zero l = omega arith
fact-few (suc zero) l = omega arith
fact-few (suc (suc zero)) l = omega arith
fact-few (suc (suc (suc zero))) l = omega arith
fact-few (suc (suc (suc (suc b)))) l = absurd (omega arith)

pub beyond : (b x : ℕ) → b ≤ 3 → 24 ≤ x → b < x / fact b
unfolding fact
beyond zero x l h = omega arith
beyond (suc zero) x l h = omega arith
beyond (suc (suc zero)) x l h = omega arith
beyond (suc (suc (suc zero))) x l h = omega arith
beyond (suc (suc (suc (suc b)))) x l h = absurd (omega arith)

module _ (s : List ℕ) (g ku kl b w m z : ℕ) (hb : b ≤ 3) (none : Empty s g)
    (before : Before s g 0 w) (copies : Copies w (fact b) z) (places : Places ku kl b m) (t : List ℕ)
    (put : Written s g 0 (bit_and z m) t) where
  abbrev fit : ℕ → Bool
  fit x = fits ku kl (suc (x / fact b)) (suc b)

  few-copy : (x : ℕ) → fit x ≡ true → bit z x ≡ source s g (x % fact b)
  few-copy x e =
      let f : Fits ku kl (suc (x / fact b)) (suc b) = fits-fits ku kl (suc (x / fact b)) (suc b) e in
      let l = mod-lt x (fact-pos b) in
      ap (bit z) (sym (div-add-mod' x (fact b))) ∙ copies (x / fact b) (x % fact b) (omega (arith, f.high)) l ∙
      first-told s g w before (x % fact b) (omega (arith, fact-few b hb))

  few-low : (x : ℕ) → x < 24 → marked t g x ≡ fit x && source s g (x % fact b)
  few-low x l =
      let e : x % 24 ≡ x = omega arith in
      let d : slot x ≡ 0 = slot-few x (omega arith) ∙ omega arith in
      let c : bit (word_at t g (slot x)) (x % 24) ≡ bit (bit_and z m) x = rw (d, e) (ap (λ (v : ℕ). bit v x) put.own) in
      marked-bit t g x (held-few x (omega arith)) ∙ c ∙ bit-and z m x ∙ ap (λ (v : Bool). bit z x && v) (places.told x l) ∙ go (fit x) refl
    where
      go : (v : Bool) → fit x ≡ v → bit z x && v ≡ v && source s g (x % fact b)
      go true e = and_comm (bit z x) true ∙ few-copy x e
      go false e = and-false (bit z x)

  few-high : (x : ℕ) → 24 ≤ x → held x ≡ true → marked t g x ≡ fit x && source s g (x % fact b)
  few-high x l h =
      let e = unfit ku kl (suc (x / fact b)) (suc b) (λ f. omega (arith, f.high, beyond b x hb l)) in
      unwritten s g none t x h (put.others g (slot x) (slot-below x h) (λ q k. go k (slot_cases x h))) ∙ rw e
    where
      go : slot x ≡ 0 → ((x < 120) × (slot x ≡ x / 24)) ⊎ ((240 ≤ x) × (x < 480) × (slot x ≡ x / 24 - 5)) → ⊥
      go k (inl c) = omega arith
      go k (inr c) = omega arith

  pub few-opened : Opened ku kl b s g t
  few-opened =
      record {
        long = put.long;
        others = λ h x l n. same-marks s t h x (λ j k. put.others h j k (λ e d. n e));
        own = λ x h. go x h (ltb x 24) refl;
      }
    where
      go : (x : ℕ) → held x ≡ true → (v : Bool) → ltb x 24 ≡ v → marked t g x ≡ fit x && source s g (x % fact b)
      go x h true e = few-low x (ltb-true x 24 e)
      go x h false e = few-high x (ltb-false x 24 e) h

  pub few-bare : Bare t g (eqb (bit_and z m) 0)
  few-bare =
      bare-test t g (bit_and z m) (λ e. bare-none s g none t (λ k l. go e k l (eqb k 0) refl))
      (λ i l e. bare-some t g 0 i (omega arith) l (ap (λ (v : ℕ). bit v i) put.own ∙ e))
      (omega (arith, and_le_r z m, places.small))
    where
      go : bit_and z m ≡ 0 → (k : ℕ) → k < slots → (v : Bool) → eqb k 0 ≡ v → (word_at t g k ≡ word_at s g k) ⊎ (word_at t g k ≡ 0)
      go e k l true d = inr (ap (word_at t g) (eqb-true k 0 d) ∙ put.own ∙ e)
      go e k l false d = inl (put.others g k l (λ q c. eqb-false k 0 d c))
