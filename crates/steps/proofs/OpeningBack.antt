-- Back over an opening: words of the gap before it lose the bits that no legal place leads on from.
use mathlib.Core.Path.{◌≡◌, refl, sym, ap, ap₂, ◌∙◌}
use mathlib.Core.Bool.{Bool, true, false, ◌&&◌, ◌||◌}
use mathlib.Core.List.{List}
use mathlib.Core.Logic.{◌⊎◌, inl, inr, ⊎_elim}
use Prim.Native.Nat.{ℕ, zero, suc, ◌+◌, ◌-◌, ◌*◌, ◌/◌, ◌%◌, ◌≤◌, ◌<◌}
use native.Mathlib.Numerals.{add-one}
use native.Mathlib.Omega.{arith}
use lib.ListN.{length, get_or}
use borrow.Author.Rules.{rules}
use borrow.Rule.Slice.PartMut.{put_mid}
use Rattle.std.proofs.Common.{replicate}
use Rattle.std.proofs.lemmas.List.{places}
use lib.Bits.{bit_and, bit_or}
use lib.Dec.{eqb, ltb}
use borrow.Author.Tests.{ltb-true, ltb-false, eqb-true, eqb-false}
use Rattle.rules.specs.Basic.{pick}
use Rattle.rules.specs.Street.{fits}
use Rattle.rules.proofs.Fits.{Fits}
use Rattle.steps.specs.Ranks.{fact, RankOf}
use Rattle.steps.specs.Sets.{ranks, stretch, slots, slot, four_at, word_at, bit, marked, Written, Loses}
use Rattle.steps.specs.Masks.{between}
use Rattle.steps.specs.Opening.{Places, Joined, Entered}
use Rattle.steps.proofs.Ranks.{rank-digit}
use Rattle.steps.proofs.Slots.{held-few, held-middle, held_below, slot-few, slot-middle, slot-below}
use Rattle.steps.proofs.Bits.{not-both, marked-bit, marked-held, last_or}
use Rattle.steps.proofs.Hops.{fits-fits, fitting}
use Rattle.steps.proofs.Words.{bit-and, bit-or, bit-zero}
use Rattle.steps.proofs.Masks.{between_in, between-out}
use Rattle.steps.proofs.OpeningBits.{both}
use Rattle.steps.proofs.OpeningMarks.{same-marks, fact-few}
use Rattle.steps.proofs.OpeningSlots.{or_some, picked}

first-or : (a b : Bool) → a ≡ true → a || b ≡ true
first-or a b e = rw e

second-or : (a b : Bool) → b ≡ true → a || b ≡ true
second-or true b e = refl
second-or false b e = e

-- words of gap g cut by others, v
module _ (s : List ℕ) (g : ℕ) (t : List ℕ) (v : ℕ → ℕ) (long : length t ≡ length s)
    (away : (h j : ℕ) → j < slots → (h ≡ g → ⊥) → word_at t h j ≡ word_at s h j)
    (cut : (j : ℕ) → j < slots → (word_at t g j ≡ word_at s g j) ⊎ (word_at t g j ≡ bit_and (word_at s g j) (v j)))
    (own : (x : ℕ) → marked s g x ≡ true → word_at t g (slot x) ≡ bit_and (word_at s g (slot x)) (v (slot x))) (P : ℕ → Type 0)
    (to : (x : ℕ) → marked s g x ≡ true → bit (v (slot x)) (x % 24) ≡ true → P x)
    (from : (x : ℕ) → marked s g x ≡ true → P x → bit (v (slot x)) (x % 24) ≡ true) where
  cut-was : (x : ℕ) → x < ranks → marked t g x ≡ true → marked s g x ≡ true
  cut-was x l e =
      let h = marked-held t g x e in
      let b = sym (marked-bit t g x h) ∙ e in
      marked-bit s g x h ∙
      ⊎_elim (λ d. ap (λ (w : ℕ). bit w (x % 24)) (sym d) ∙ b) (λ d. (both (bit (word_at s g (slot x)) (x % 24)) (bit (v (slot x)) (x % 24))
      (sym (bit-and (word_at s g (slot x)) (v (slot x)) (x % 24)) ∙ ap (λ (w : ℕ). bit w (x % 24)) (sym d) ∙ b)).0)
      (cut (slot x) (slot-below x h))

  cut-own : (x : ℕ) → marked s g x ≡ true → marked t g x ≡ bit (v (slot x)) (x % 24)
  cut-own x e =
      let h = marked-held s g x e in
      marked-bit t g x h ∙ ap (λ (w : ℕ). bit w (x % 24)) (own x e) ∙ bit-and (word_at s g (slot x)) (v (slot x)) (x % 24) ∙
      ap (λ (b : Bool). b && bit (v (slot x)) (x % 24)) (sym (marked-bit s g x h) ∙ e)

  pub cut-loses : Loses s g P t
  cut-loses =
      record {
        long = long;
        others = λ h x l f. same-marks s t h x (λ j k. away h j k f);
        was = cut-was;
        sound = λ x l e. let w = cut-was x l e in to x w (sym (cut-own x w) ∙ e);
        full = λ x l e p. cut-own x e ∙ from x e p;
      }

-- the marks of a gap by words
module _ (s : List ℕ) (g : ℕ) where
  -- of slot 0
  pub low-mark : (i : ℕ) → i < 24 → marked s g i ≡ bit (word_at s g 0) i
  low-mark i l =
      let e : i % 24 ≡ i = omega arith in
      let d : slot i ≡ 0 = slot-few i (omega arith) ∙ omega arith in
      let c : bit (word_at s g (slot i)) (i % 24) ≡ bit (word_at s g 0) i = rw (d, e) in
      marked-bit s g i (held-few i (omega arith)) ∙ c

  -- of five nets, the youngest at p
  pub fifth-mark : (p r : ℕ) → p < 5 → r < 24 → marked s g (p * 24 + r) ≡ bit (word_at s g p) r
  fifth-mark p r hp hr =
      let i : ℕ = p * 24 + r in
      let e : i % 24 ≡ r = omega arith in
      let d : slot i ≡ p = slot-few i (omega arith) ∙ omega arith in
      let c : bit (word_at s g (slot i)) (i % 24) ≡ bit (word_at s g p) r = rw (d, e) in
      marked-bit s g i (held-few i (omega arith)) ∙ c

  -- of six nets, the youngest at q
  sixth-mark : (q r k : ℕ) → r < 120 → 240 ≤ q * 120 + r → q * 120 + r < 480 → (q * 120 + r) / 24 - 5 ≡ k →
      marked s g (q * 120 + r) ≡ bit (word_at s g k) (r % 24)
  sixth-mark q r k hr l h d =
      let i : ℕ = q * 120 + r in
      let e : i % 24 ≡ r % 24 = omega arith in
      let c : bit (word_at s g (slot i)) (i % 24) ≡ bit (word_at s g k) (r % 24) = rw (slot-middle i (omega arith) ∙ d, e) in
      marked-bit s g i (held-middle i l h) ∙ c

  pub sixth-two : (r : ℕ) → r < 120 → marked s g (2 * 120 + r) ≡ bit (word_at s g (5 + r / 24)) (r % 24)
  sixth-two r h = sixth-mark 2 r (5 + r / 24) h (omega arith) (omega arith) (omega arith)

  sixth-three : (r : ℕ) → r < 120 → marked s g (3 * 120 + r) ≡ bit (word_at s g (10 + r / 24)) (r % 24)
  sixth-three r h = sixth-mark 3 r (10 + r / 24) h (omega arith) (omega arith) (omega arith)

-- up to three others
module _ (s : List ℕ) (g ku kl b m f z : ℕ) (hb : b ≤ 3) (ef : f ≡ fact b)
    (bound : (x : ℕ) → x < ranks → marked s g x ≡ true → x < fact b) (places : Places ku kl b m)
    (join : Joined (bit_and (word_at s (suc g) 0) m) f z) (t : List ℕ) (put : Written s g 0 (bit_and (word_at s g 0) z) t) where
  abbrev next : ℕ
  next = bit_and (word_at s (suc g) 0) m

  -- a bit of the next gap's legal ranks
  next_bit : (q r : ℕ) → q < 4 → r < f → bit next (q * f + r) ≡ marked s (suc g) (q * fact b + r) && fits ku kl (suc q) (suc b)
  next_bit q r hq hr =
      let l = fact-few b hb in
      let i : ℕ = q * f + r in
      let c : (q * f ≤ 3 * f) = go q hq in
      let hi : q * f + r < 24 = omega arith in
      let d : (q * f + r) / fact b ≡ q = ap (λ (n : ℕ). (q * n + r) / fact b) ef ∙ rank-digit q b r (rw (← ef) hr) in
      bit-and (word_at s (suc g) 0) m (q * f + r) ∙
      ap (λ (a : Bool). a && bit m (q * f + r))
      (sym (low-mark s (suc g) (q * f + r) hi) ∙ ap (λ (n : ℕ). marked s (suc g) (q * n + r)) ef) ∙
      ap (λ (a : Bool). marked s (suc g) (q * fact b + r) && a)
      (places.told (q * f + r) hi ∙ ap (λ (n : ℕ). fits ku kl (suc n) (suc b)) d)
    where
      go : (q : ℕ) → q < 4 → q * f ≤ 3 * f
      go zero l = omega arith
      go (suc zero) l = omega arith
      go (suc (suc zero)) l = omega arith
      go (suc (suc (suc zero))) l = omega arith
      go (suc (suc (suc (suc q)))) l = absurd (omega arith)

  few-to : (r : ℕ) → r < f → bit z r ≡ true → Entered ku kl b s (suc g) r
  few-to r hr e =
      let d = sym (join r) ∙ e in
      ⊎_elim
      (λ c. ⊎_elim (one 0 r (omega arith) (omega arith)) (one 1 (f + r) (omega arith) (omega arith)) (or_some (bit next r) (bit next (f + r)) c))
      (λ c. ⊎_elim (one 2 (2 * f + r) (omega arith) (omega arith)) (one 3 (3 * f + r) (omega arith) (omega arith))
      (or_some (bit next (2 * f + r)) (bit next (3 * f + r)) c))
      (or_some (bit next r || bit next (f + r)) (bit next (2 * f + r) || bit next (3 * f + r)) d)
    where
      one : (q i : ℕ) → q < 4 → i ≡ q * f + r → bit next i ≡ true → Entered ku kl b s (suc g) r
      one q i h k c =
          let (a, p) = both (marked s (suc g) (q * fact b + r)) (fits ku kl (suc q) (suc b))
          (sym (next_bit q r h hr) ∙ ap (bit next) (sym k) ∙ c) in
          record { at = q; fit = p; kept = a }

  few-from : (r : ℕ) → r < f → Entered ku kl b s (suc g) r → bit z r ≡ true
  few-from r hr p =
      let l : Fits ku kl (suc p.at) (suc b) = fits-fits ku kl (suc p.at) (suc b) p.fit in
      join r ∙ go p.at (omega (arith, l.high)) (bit_is p.at (omega (arith, l.high)) p.kept p.fit)
    where
      bit_is : (q : ℕ) → q < 4 → marked s (suc g) (q * fact b + r) ≡ true → fits ku kl (suc q) (suc b) ≡ true → bit next (q * f + r) ≡ true
      bit_is q h a c = next_bit q r h hr ∙ rw (a, c)

      go : (q : ℕ) → q < 4 → bit next (q * f + r) ≡ true →
          (bit next r || bit next (f + r)) || (bit next (2 * f + r) || bit next (3 * f + r)) ≡ true
      go zero h e =
          let c : 0 * f + r ≡ r = omega arith in
          first-or (bit next r || bit next (f + r)) (bit next (2 * f + r) || bit next (3 * f + r))
          (first-or (bit next r) (bit next (f + r)) (ap (bit next) (sym c) ∙ e))
      go (suc zero) h e =
          let c : 1 * f + r ≡ f + r = omega arith in
          first-or (bit next r || bit next (f + r)) (bit next (2 * f + r) || bit next (3 * f + r))
          (second-or (bit next r) (bit next (f + r)) (ap (bit next) (sym c) ∙ e))
      go (suc (suc zero)) h e =
          second-or (bit next r || bit next (f + r)) (bit next (2 * f + r) || bit next (3 * f + r))
          (first-or (bit next (2 * f + r)) (bit next (3 * f + r)) e)
      go (suc (suc (suc zero))) h e =
          second-or (bit next r || bit next (f + r)) (bit next (2 * f + r) || bit next (3 * f + r))
          (second-or (bit next (2 * f + r)) (bit next (3 * f + r)) e)
      go (suc (suc (suc (suc q)))) h e = absurd (omega arith)

  pub few-loses : Loses s g (Entered ku kl b s (suc g)) t
  few-loses =
      cut-loses s g t (λ k. z) put.long (λ h j l n. put.others h j l (λ e d. n e)) (λ j l. go j l (eqb j 0) refl)
      (λ x m. rw (first x (below x m)) put.own) (Entered ku kl b s (suc g))
      (λ x m e. let l = below x m in few-to x (rw ef l) (ap (bit z) (sym (low x l)) ∙ e))
      (λ x m p. let l = below x m in ap (bit z) (low x l) ∙ few-from x (rw ef l) p)
    where
      below : (x : ℕ) → marked s g x ≡ true → x < fact b
      below x m = bound x (omega (arith, held_below x (marked-held s g x m))) m

      low : (x : ℕ) → x < fact b → x % 24 ≡ x
      low x l = omega (arith, fact-few b hb)

      first : (x : ℕ) → x < fact b → slot x ≡ 0
      first x l = slot-few x (omega (arith, fact-few b hb)) ∙ omega (arith, fact-few b hb)

      go : (j : ℕ) → j < slots → (c : Bool) → eqb j 0 ≡ c → (word_at t g j ≡ word_at s g j) ⊎ (word_at t g j ≡ bit_and (word_at s g j) z)
      go j l true e = inr (rw (eqb-true j 0 e) put.own)
      go j l false e = inl (put.others g j l (λ q d. eqb-false j 0 e d))

-- a fifth net
module _ (s : List ℕ) (g ku kl x y z : ℕ) (hu : ku ≤ 3) (hl : kl ≤ 3) (bound : (r : ℕ) → r < ranks → marked s g r ≡ true → r < fact 4)
    (ex : x ≡ pick (fits ku kl 2 5) (word_at s (suc g) 1) 0) (ey : y ≡ pick (fits ku kl 3 5) (word_at s (suc g) 2) 0)
    (ez : z ≡ pick (fits ku kl 4 5) (word_at s (suc g) 3) 0) (t : List ℕ)
    (put : Written s g 0 (bit_and (word_at s g 0) (bit_or (bit_or x y) z)) t) where
  fifth-bit : (w p r : ℕ) → p < 5 → r < 24 → w ≡ pick (fits ku kl (suc p) 5) (word_at s (suc g) p) 0 →
      bit w r ≡ fits ku kl (suc p) 5 && marked s (suc g) (p * 24 + r)
  fifth-bit w p r hp hr e =
      ap (λ (v : ℕ). bit v r) e ∙ picked (fits ku kl (suc p) 5) (word_at s (suc g) p) r ∙
      ap (λ (v : Bool). fits ku kl (suc p) 5 && v) (sym (fifth-mark s (suc g) p r hp hr))

  fifth-to : (r : ℕ) → r < 24 → bit (bit_or (bit_or x y) z) r ≡ true → Entered ku kl 4 s (suc g) r
  unfolding fact
  fifth-to r hr e =
      ⊎_elim
      (λ c. ⊎_elim (one x 1 (omega arith) ex) (one y 2 (omega arith) ey) (or_some (bit x r) (bit y r) (sym (bit-or x y r) ∙ c)))
      (one z 3 (omega arith) ez) (or_some (bit (bit_or x y) r) (bit z r) (sym (bit-or (bit_or x y) z r) ∙ e))
    where
      one : (w p : ℕ) → p < 5 → w ≡ pick (fits ku kl (suc p) 5) (word_at s (suc g) p) 0 → bit w r ≡ true → Entered ku kl 4 s (suc g) r
      one w p h k c =
          let (a, d) = both (fits ku kl (suc p) 5) (marked s (suc g) (p * 24 + r)) (sym (fifth-bit w p r h hr k) ∙ c) in
          record { at = p; fit = a; kept = d }

  fifth-from : (r : ℕ) → r < 24 → Entered ku kl 4 s (suc g) r → bit (bit_or (bit_or x y) z) r ≡ true
  unfolding fact
  fifth-from r hr p =
      let l : Fits ku kl (suc p.at) 5 = fits-fits ku kl (suc p.at) 5 p.fit in
      bit-or (bit_or x y) z r ∙ ap (λ (v : Bool). v || bit z r) (bit-or x y r) ∙ go p.at l p.fit p.kept
    where
      one : (w q : ℕ) → q < 5 → w ≡ pick (fits ku kl (suc q) 5) (word_at s (suc g) q) 0 → fits ku kl (suc q) 5 ≡ true →
          marked s (suc g) (q * 24 + r) ≡ true → bit w r ≡ true
      one w q h k a c = fifth-bit w q r h hr k ∙ rw (a, c)

      go : (q : ℕ) → Fits ku kl (suc q) 5 → fits ku kl (suc q) 5 ≡ true → marked s (suc g) (q * 24 + r) ≡ true →
          (bit x r || bit y r) || bit z r ≡ true
      go zero l a c = absurd (omega (arith, l.lower))
      go (suc zero) l a c = first-or (bit x r || bit y r) (bit z r) (first-or (bit x r) (bit y r) (one x 1 (omega arith) ex a c))
      go (suc (suc zero)) l a c = first-or (bit x r || bit y r) (bit z r) (second-or (bit x r) (bit y r) (one y 2 (omega arith) ey a c))
      go (suc (suc (suc zero))) l a c = second-or (bit x r || bit y r) (bit z r) (one z 3 (omega arith) ez a c)
      go (suc (suc (suc (suc q)))) l a c = absurd (omega (arith, l.upper))

  pub fifth-loses : Loses s g (Entered ku kl 4 s (suc g)) t
  unfolding fact
  fifth-loses =
      cut-loses s g t (λ k. bit_or (bit_or x y) z) put.long (λ h j l n. put.others h j l (λ e d. n e)) (λ j l. go j l (eqb j 0) refl)
      (λ r m. rw (first r (below r m)) put.own) (Entered ku kl 4 s (suc g))
      (λ r m e. let l = below r m in fifth-to r l (ap (bit (bit_or (bit_or x y) z)) (sym (low r l)) ∙ e))
      (λ r m p. let l = below r m in ap (bit (bit_or (bit_or x y) z)) (low r l) ∙ fifth-from r l p)
    where
      below : (r : ℕ) → marked s g r ≡ true → r < 24
      below r m = bound r (omega (arith, held_below r (marked-held s g r m))) m

      low : (r : ℕ) → r < 24 → r % 24 ≡ r
      low r l = omega arith

      first : (r : ℕ) → r < 24 → slot r ≡ 0
      first r l = slot-few r (omega arith) ∙ omega arith

      go : (j : ℕ) → j < slots → (c : Bool) → eqb j 0 ≡ c →
          (word_at t g j ≡ word_at s g j) ⊎ (word_at t g j ≡ bit_and (word_at s g j) (bit_or (bit_or x y) z))
      go j l true e = inr (rw (eqb-true j 0 e) put.own)
      go j l false e = inl (put.others g j l (λ q d. eqb-false j 0 e d))

-- a sixth net: both of its places, over that of the fifth
abbrev next_two : (s : List ℕ) (g k : ℕ) → ℕ
next_two s g k = bit_or (word_at s (suc g) (5 + k)) (word_at s (suc g) (10 + k))

-- the words of the places of the fifth from 1 on before k are cut
pub record Cut (s : List ℕ) (g k : ℕ) (t : List ℕ) : Type 0 where
  pub long : length t ≡ length s
  pub least : 1 ≤ k
  pub most : k ≤ 4
  pub left : (h j : ℕ) → j < slots → (h ≡ g → 1 ≤ j → k ≤ j) → word_at t h j ≡ word_at s h j
  pub done : (j : ℕ) → 1 ≤ j → j < k → word_at t g j ≡ bit_and (word_at s g j) (next_two s g j)

module _ (s : List ℕ) (g : ℕ) where
  pub cut-start : Cut s g 1 s
  cut-start =
      record { long = refl; least = omega arith; most = omega arith; left = λ h j l f. refl; done = λ j o l. absurd (omega arith) }

  pub cut_step : (k a b c : ℕ) (t u : List ℕ) → Cut s g k t → k < 4 → a ≡ word_at t (g + 1) (5 + k) → b ≡ word_at t (g + 1) (10 + k) →
      c ≡ word_at t g k → Written t g k (bit_and c (bit_or a b)) u → Cut s g (k + 1) u
  cut_step k a b c t u f hk ea eb ec p =
      record {
        long = p.long ∙ f.long;
        least = omega arith;
        most = omega arith;
        left = λ h j l n. p.others h j l (λ e d. omega (arith, n e (omega (arith, f.least)))) ∙ f.left h j l (λ e o. omega (arith, n e o));
        done = λ j o l. last_or (word_at u g j ≡ bit_and (word_at s g j) (next_two s g j)) j k l (λ e. rw e (p.own ∙ words))
            (λ m. p.others g j (omega arith) (λ q d. omega arith) ∙ f.done j o m);
      }
    where
      other : (j : ℕ) → j < slots → word_at t (g + 1) j ≡ word_at s (suc g) j
      other j l = ap (λ (h : ℕ). word_at t h j) (add-one g) ∙ f.left (suc g) j l (λ e. omega arith)

      words : bit_and c (bit_or a b) ≡ bit_and (word_at s g k) (next_two s g k)
      words =
          ap₂ bit_and (ec ∙ f.left g k (omega arith) (λ e o. omega arith))
          (ap₂ bit_or (ea ∙ other (5 + k) (omega arith)) (eb ∙ other (10 + k) (omega arith)))

  sixth-to : (r : ℕ) → r < 120 → bit (next_two s g (r / 24)) (r % 24) ≡ true → Entered 3 3 5 s (suc g) r
  unfolding fact
  sixth-to r h e =
      ⊎_elim (λ d. record { at = 2; fit = fitting 3 3 3 6 (record { low = omega arith; high = omega arith; upper = omega arith; lower = omega arith; sum = omega arith }); kept = sixth-two s (suc g) r h ∙ d })
      (λ d. record { at = 3; fit = fitting 3 3 4 6 (record { low = omega arith; high = omega arith; upper = omega arith; lower = omega arith; sum = omega arith }); kept = sixth-three s (suc g) r h ∙ d })
      (or_some (bit (word_at s (suc g) (5 + r / 24)) (r % 24)) (bit (word_at s (suc g) (10 + r / 24)) (r % 24))
      (sym (bit-or (word_at s (suc g) (5 + r / 24)) (word_at s (suc g) (10 + r / 24)) (r % 24)) ∙ e))

  sixth-from : (r : ℕ) → r < 120 → Entered 3 3 5 s (suc g) r → bit (next_two s g (r / 24)) (r % 24) ≡ true
  unfolding fact
  sixth-from r h p =
      bit-or (word_at s (suc g) (5 + r / 24)) (word_at s (suc g) (10 + r / 24)) (r % 24) ∙
      go p.at (fits-fits 3 3 (suc p.at) 6 p.fit) p.kept
    where
      go : (q : ℕ) → Fits 3 3 (suc q) 6 → marked s (suc g) (q * 120 + r) ≡ true →
          bit (word_at s (suc g) (5 + r / 24)) (r % 24) || bit (word_at s (suc g) (10 + r / 24)) (r % 24) ≡ true
      go zero l c = absurd (omega (arith, l.lower))
      go (suc zero) l c = absurd (omega (arith, l.lower))
      go (suc (suc zero)) l c =
          first-or (bit (word_at s (suc g) (5 + r / 24)) (r % 24)) (bit (word_at s (suc g) (10 + r / 24)) (r % 24)) (sym (sixth-two s (suc g) r h) ∙ c)
      go (suc (suc (suc zero))) l c =
          second-or (bit (word_at s (suc g) (5 + r / 24)) (r % 24)) (bit (word_at s (suc g) (10 + r / 24)) (r % 24)) (sym (sixth-three s (suc g) r h) ∙ c)
      go (suc (suc (suc (suc q)))) l c = absurd (omega (arith, l.upper))

  pub sixth-loses : (k : ℕ) (t : List ℕ) → 4 ≤ k → ((x : ℕ) → marked s g x ≡ true → RankOf 5 x) → Cut s g k t →
      Loses s g (Entered 3 3 5 s (suc g)) t
  unfolding fact
  sixth-loses k t hk of f =
      cut-loses s g t (next_two s g) f.long (λ h j l n. f.left h j l (λ e. absurd (n e))) (λ j l. go j l (between 1 4 j) refl)
      (λ x e.
      let (o, m) = inner x e in
      rw (slot-few x (omega arith)) (f.done (x / 24) (omega arith) (omega arith))) (Entered 3 3 5 s (suc g))
      (λ x m e.
      let (o, l) = inner x m in
      sixth-to x (omega arith) (ap (λ (j : ℕ). bit (next_two s g j) (x % 24)) (sym (slot-few x (omega arith))) ∙ e))
      (λ x m p.
      let (o, l) = inner x m in
      ap (λ (j : ℕ). bit (next_two s g j) (x % 24)) (slot-few x (omega arith)) ∙ sixth-from x (omega arith) p)
    where
      inner : (x : ℕ) → marked s g x ≡ true → (24 ≤ x) × (x < 96)
      inner x e =
          let l : x < 120 = (of x e).below in
          let (a, b) = (of x e).inner (omega arith) in
          (omega arith, omega arith)

      go : (j : ℕ) → j < slots → (c : Bool) → between 1 4 j ≡ c → (word_at t g j ≡ word_at s g j) ⊎ (word_at t g j ≡ bit_and (word_at s g j) (next_two s g j))
      go j l true e = let (o, m) = between-out 1 4 j e in inr (f.done j o (omega arith))
      go j l false e = inl (f.left g j l (λ q o. outside o (ltb j k) refl))
        where
          outside : 1 ≤ j → (b : Bool) → ltb j k ≡ b → k ≤ j
          outside o true m = absurd (not-both e (between_in 1 4 j o (omega (arith, ltb-true j k m, f.most))))
          outside o false m = ltb-false j k m

-- no rank is left: the words are 0
pub record Cleared (s : List ℕ) (g : ℕ) (t : List ℕ) : Type 0 where
  pub long : length t ≡ length s
  pub left : (h j : ℕ) → j < slots → (h ≡ g → ⊥) → word_at t h j ≡ word_at s h j
  pub done : (j : ℕ) → j < slots → word_at t g j ≡ 0

-- zeros written over the words of a gap
module _ (s : List ℕ) (g n m : ℕ) (room : stretch * suc g ≤ length s) (en : n ≡ 60) (em : m ≡ 60) where
  abbrev zeroed : List ℕ
  zeroed = put_mid (90 * g) n s (replicate m 0)

  zero-in : (i : ℕ) → 90 * g ≤ i → i < 90 * g + 60 → get_or zeroed i 0 ≡ 0
  zero-in i l h = search (rules, places)

  zero-out : (i : ℕ) → (i < 90 * g) ⊎ (90 * g + 60 ≤ i) → get_or zeroed i 0 ≡ get_or s i 0
  zero-out i (inl l) = search (rules, places)
  zero-out i (inr l) = search (rules, places)

  four-out : (i : ℕ) → (i + 3 < 90 * g) ⊎ (90 * g + 60 ≤ i) → four_at zeroed i ≡ four_at s i
  unfolding four_at
  four-out i (inl l) =
      rw (zero-out i (inl (omega arith)), zero-out (i + 1) (inl (omega arith)), zero-out (i + 2) (inl (omega arith)), zero-out (i + 3) (inl l))
  four-out i (inr l) =
      rw (zero-out i (inr l), zero-out (i + 1) (inr (omega arith)), zero-out (i + 2) (inr (omega arith)), zero-out (i + 3) (inr (omega arith)))

  four-in : (i : ℕ) → 90 * g ≤ i → i + 3 < 90 * g + 60 → four_at zeroed i ≡ 0
  unfolding four_at
  four-in i l h =
      rw (zero-in i l (omega arith), zero-in (i + 1) (omega arith) (omega arith), zero-in (i + 2) (omega arith) (omega arith), zero-in (i + 3) (omega arith) h)

  apart : (h j : ℕ) → j < slots → (h ≡ g → ⊥) → (stretch * h + 4 * j + 3 < 90 * g) ⊎ (90 * g + 60 ≤ stretch * h + 4 * j)
  apart h j l f = go (ltb h g) refl
    where
      go : (t : Bool) → ltb h g ≡ t → (stretch * h + 4 * j + 3 < 90 * g) ⊎ (90 * g + 60 ≤ stretch * h + 4 * j)
      go true e = let q : h < g = ltb-true h g e in inl (omega arith)
      go false e =
          let q : g ≤ h = ltb-false h g e in
          let d : h ≡ g → ⊥ = f in
          inr (omega arith)

  pub zeroed-cleared : Cleared s g zeroed
  unfolding word_at
  zeroed-cleared =
      record {
        long = search (rules, places);
        left = λ h j l f. four-out (stretch * h + 4 * j) (apart h j l f);
        done = λ j l. four-in (stretch * g + 4 * j) (omega arith) (omega arith);
      }

module _ (s : List ℕ) (g : ℕ) where
  pub cleared-loses : (t : List ℕ) → Cleared s g t → Loses s g (λ x. ⊥) t
  cleared-loses t f =
      record {
        long = f.long;
        others = λ h x l n. same-marks s t h x (λ j m. f.left h j m n);
        was = λ x l e. absurd (none x e);
        sound = λ x l e. none x e;
        full = λ x l e p. absurd p;
      }
    where
      none : (x : ℕ) → marked t g x ≡ true → ⊥
      none x e =
          let m = marked-held t g x e in
          not-both (marked-bit t g x m ∙ ap (λ (v : ℕ). bit v (x % 24)) (f.done (slot x) (slot-below x m)) ∙ bit-zero (x % 24)) e
