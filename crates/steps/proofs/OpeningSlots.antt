-- From four nets on each place of a new net has words of its own, to which an opening copies those of the gap before.
use mathlib.Core.Path.{◌≡◌, refl, sym, ap, ap₂, ◌∙◌}
use mathlib.Core.Bool.{Bool, true, false, ◌&&◌, ◌||◌}
use mathlib.Core.List.{List}
use mathlib.Core.Logic.{◌⊎◌, inl, inr, ⊎_elim}
use Prim.Native.Nat.{ℕ, zero, suc, ◌+◌, ◌-◌, ◌/◌, ◌%◌, ◌≤◌, ◌<◌}
use native.Mathlib.Omega.{arith}
use lib.ListN.{length}
use lib.Bits.{bit_or, and_le_l, and_le_r, or_add_and, or_lt}
use lib.Dec.{eqb, ltb}
use borrow.Author.Tests.{ltb-true, ltb-false, eqb-true, eqb-false}
use Rattle.rules.specs.Basic.{pick}
use Rattle.rules.specs.Street.{fits}
use Rattle.steps.specs.Ranks.{fact, RankOf}
use Rattle.steps.specs.Sets.{slots, held, slot, word_at, bit, marked, source, Written, Empty, Some, Bare}
use Rattle.steps.specs.Masks.{between}
use Rattle.steps.specs.Opening.{wide, Before, Opened}
use Rattle.steps.proofs.Slots.{held-few, slot-few, slot_cases, slot-below}
use Rattle.steps.proofs.Bits.{not-both, marked-bit, last_or}
use Rattle.steps.proofs.Hops.{fitting, unfit}
use Rattle.steps.proofs.Words.{bit-or, bit-zero}
use Rattle.steps.proofs.Masks.{between_in, between-out}
use Rattle.steps.proofs.OpeningMarks.{same-marks, unwritten, bare-none, bare-some, bare-test, first-told}

pub or_some : (a b : Bool) → a || b ≡ true → (a ≡ true) ⊎ (b ≡ true)
or_some true b e = inl refl
or_some false b e = inr e

or-none : (a b : ℕ) → bit_or a b ≡ 0 → (a ≡ 0) × (b ≡ 0)
or-none a b e = (omega (arith, or_add_and a b, and_le_l a b, and_le_r a b), omega (arith, or_add_and a b, and_le_l a b, and_le_r a b))

pub picked : (b : Bool) (w i : ℕ) → bit (pick b w 0) i ≡ b && bit w i
unfolding pick
picked true w i = refl
picked false w i = bit-zero i

picked-small : (b : Bool) (w x : ℕ) → x ≡ pick b w 0 → w < wide → x < wide
unfolding pick
picked-small true w x e h = omega arith
picked-small false w x e h = omega arith

-- where a fifth net may stand
module _ (ku kl : ℕ) (hu : ku ≤ 3) (hl : kl ≤ 3) (sum : 5 ≤ ku + kl) where
  fifth-one : eqb kl 3 ≡ fits ku kl 2 5
  fifth-one = go (eqb kl 3) refl
    where
      go : (t : Bool) → eqb kl 3 ≡ t → t ≡ fits ku kl 2 5
      go true e =
          let d = eqb-true kl 3 e in
          sym (fitting ku kl 2 5 (record { low = omega arith; high = omega arith; upper = omega arith; lower = omega arith; sum = omega arith }))
      go false e = sym (unfit ku kl 2 5 (λ p. eqb-false kl 3 e (omega arith)))

  fifth-three : eqb ku 3 ≡ fits ku kl 4 5
  fifth-three = go (eqb ku 3) refl
    where
      go : (t : Bool) → eqb ku 3 ≡ t → t ≡ fits ku kl 4 5
      go true e =
          let d = eqb-true ku 3 e in
          sym (fitting ku kl 4 5 (record { low = omega arith; high = omega arith; upper = omega arith; lower = omega arith; sum = omega arith }))
      go false e = sym (unfit ku kl 4 5 (λ p. eqb-false ku 3 e (omega arith)))

  pub only_one : (x w v : ℕ) → x ≡ pick (eqb kl 3) w 0 → w ≡ v → x ≡ pick (fits ku kl 2 5) v 0
  only_one x w v e d = e ∙ ap₂ (λ (t : Bool) (n : ℕ). pick t n 0) fifth-one d

  pub only_two : (w v : ℕ) → w ≡ v → w ≡ pick (fits ku kl 3 5) v 0
  unfolding pick
  only_two w v e =
      let d : fits ku kl 3 5 ≡ true =
      fitting ku kl 3 5 (record { low = omega arith; high = omega arith; upper = omega arith; lower = omega arith; sum = omega arith }) in
      rw d e

  pub only-three : (x w v : ℕ) → x ≡ pick (eqb ku 3) w 0 → w ≡ v → x ≡ pick (fits ku kl 4 5) v 0
  only-three x w v e d = e ∙ ap₂ (λ (t : Bool) (n : ℕ). pick t n 0) fifth-three d

-- a fifth net
module _ (s : List ℕ) (g ku kl w x y z : ℕ) (hu : ku ≤ 3) (hl : kl ≤ 3) (none : Empty s g) (before : Before s g 0 w)
    (ex : x ≡ pick (fits ku kl 2 5) w 0) (ey : y ≡ pick (fits ku kl 3 5) w 0) (ez : z ≡ pick (fits ku kl 4 5) w 0)
    (t₁ t₂ t : List ℕ) (p₁ : Written s g 1 x t₁) (p₂ : Written t₁ g 2 y t₂) (p₃ : Written t₂ g 3 z t) where
  word₁ : word_at t g 1 ≡ x
  word₁ = p₃.others g 1 (omega arith) (λ e d. omega arith) ∙ p₂.others g 1 (omega arith) (λ e d. omega arith) ∙ p₁.own

  word₂ : word_at t g 2 ≡ y
  word₂ = p₃.others g 2 (omega arith) (λ e d. omega arith) ∙ p₂.own

  left : (h j : ℕ) → j < slots → (h ≡ g → (j < 1) ⊎ (3 < j)) → word_at t h j ≡ word_at s h j
  left h j l f =
      p₃.others h j l (λ e d. ⊎_elim (λ c. omega arith) (λ c. omega arith) (f e)) ∙
      p₂.others h j l (λ e d. ⊎_elim (λ c. omega arith) (λ c. omega arith) (f e)) ∙
      p₁.others h j l (λ e d. ⊎_elim (λ c. omega arith) (λ c. omega arith) (f e))

  fifth-at : (r k : ℕ) (b : Bool) → held r ≡ true → slot r ≡ k → word_at t g k ≡ pick b w 0 → marked t g r ≡ b && source s g (r % 24)
  fifth-at r k b h e d =
      marked-bit t g r h ∙ ap (λ (j : ℕ). bit (word_at t g j) (r % 24)) e ∙ ap (λ (v : ℕ). bit v (r % 24)) d ∙ picked b w (r % 24) ∙
      ap (λ (v : Bool). b && v) (first-told s g w before (r % 24) (omega arith))

  fifth-none : (r : ℕ) → held r ≡ true → (slot r < 1) ⊎ (3 < slot r) → fits ku kl (suc (r / 24)) 5 ≡ false →
      marked t g r ≡ fits ku kl (suc (r / 24)) 5 && source s g (r % 24)
  fifth-none r h f e = unwritten s g none t r h (left g (slot r) (slot-below r h) (λ q. f)) ∙ rw e

  fifth-own : (r : ℕ) → held r ≡ true → marked t g r ≡ fits ku kl (suc (r / 24)) 5 && source s g (r % 24)
  fifth-own r h = go (slot_cases r h)
    where
      at : (p : ℕ) → r < 120 → slot r ≡ r / 24 → r / 24 ≡ p → marked t g r ≡ fits ku kl (suc (r / 24)) 5 && source s g (r % 24)
      at zero l c e = fifth-none r h (inl (omega arith)) (unfit ku kl (suc (r / 24)) 5 (λ f. omega (arith, f.lower)))
      at (suc zero) l c e =
          fifth-at r 1 (fits ku kl 2 5) h (c ∙ e) (word₁ ∙ ex) ∙ ap (λ (q : ℕ). fits ku kl (suc q) 5 && source s g (r % 24)) (sym e)
      at (suc (suc zero)) l c e =
          fifth-at r 2 (fits ku kl 3 5) h (c ∙ e) (word₂ ∙ ey) ∙ ap (λ (q : ℕ). fits ku kl (suc q) 5 && source s g (r % 24)) (sym e)
      at (suc (suc (suc zero))) l c e =
          fifth-at r 3 (fits ku kl 4 5) h (c ∙ e) (p₃.own ∙ ez) ∙ ap (λ (q : ℕ). fits ku kl (suc q) 5 && source s g (r % 24)) (sym e)
      at (suc (suc (suc (suc p)))) l c e =
          fifth-none r h (inr (omega arith)) (unfit ku kl (suc (r / 24)) 5 (λ f. omega (arith, f.upper)))

      go : ((r < 120) × (slot r ≡ r / 24)) ⊎ ((240 ≤ r) × (r < 480) × (slot r ≡ r / 24 - 5)) →
          marked t g r ≡ fits ku kl (suc (r / 24)) 5 && source s g (r % 24)
      go (inl (l, c)) = at (r / 24) l c refl
      go (inr (l, m, c)) = fifth-none r h (inr (omega arith)) (unfit ku kl (suc (r / 24)) 5 (λ f. omega (arith, f.high)))

  pub fifth-opened : Opened ku kl 4 s g t
  unfolding fact
  fifth-opened =
      record {
        long = p₃.long ∙ p₂.long ∙ p₁.long;
        others = λ h r l n. same-marks s t h r (λ j k. left h j k (λ e. absurd (n e)));
        own = fifth-own;
      }

  pub fifth-bare : Bare t g (eqb (bit_or (bit_or x y) z) 0)
  fifth-bare =
      bare-test t g (bit_or (bit_or x y) z) (λ e. bare-none s g none t (λ k l. go e k l)) some
      (or_lt 24 (bit_or x y) z (or_lt 24 x y (picked-small (fits ku kl 2 5) w x ex before.small)
      (picked-small (fits ku kl 3 5) w y ey before.small)) (picked-small (fits ku kl 4 5) w z ez before.small))
    where
      go : bit_or (bit_or x y) z ≡ 0 → (k : ℕ) → k < slots → (word_at t g k ≡ word_at s g k) ⊎ (word_at t g k ≡ 0)
      go e zero l = inl (left g 0 l (λ q. inl (omega arith)))
      go e (suc zero) l = inr (word₁ ∙ (or-none x y (or-none (bit_or x y) z e).0).0)
      go e (suc (suc zero)) l = inr (word₂ ∙ (or-none x y (or-none (bit_or x y) z e).0).1)
      go e (suc (suc (suc zero))) l = inr (p₃.own ∙ (or-none (bit_or x y) z e).1)
      go e (suc (suc (suc (suc k)))) l = inl (left g (suc (suc (suc (suc k)))) l (λ q. inr (omega arith)))

      at : (k v i : ℕ) → k < slots → word_at t g k ≡ v → i < 24 → bit v i ≡ true → Some t g
      at k v i l e m d = bare-some t g k i l m (ap (λ (u : ℕ). bit u i) e ∙ d)

      some : (i : ℕ) → i < 24 → bit (bit_or (bit_or x y) z) i ≡ true → Some t g
      some i l d =
          ⊎_elim
          (λ c. ⊎_elim (at 1 x i (omega arith) word₁ l) (at 2 y i (omega arith) word₂ l) (or_some (bit x i) (bit y i) (sym (bit-or x y i) ∙ c)))
          (at 3 z i (omega arith) p₃.own l) (or_some (bit (bit_or x y) i) (bit z i) (sym (bit-or (bit_or x y) z i) ∙ d))

-- the ranks before a node stay while its gap changes
pub source-same : (s t : List ℕ) (g r : ℕ) → ((h : ℕ) → (h ≡ g → ⊥) → marked t h r ≡ marked s h r) → source t g r ≡ source s g r
unfolding source
source-same s t zero r f = refl
source-same s t (suc g) r f = f g (λ e. omega arith)

-- a sixth net: the words of the places of the fifth from 1 on before k are copied, to both places of the sixth. Slot j is none of them:
abbrev Aside : (k j : ℕ) → Type 0
Aside k j = (i : ℕ) → 1 ≤ i → i < k → (j ≡ 5 + i → ⊥) × (j ≡ 10 + i → ⊥)

pub record Sixth (s : List ℕ) (g k : ℕ) (t : List ℕ) (any : ℕ) : Type 0 where
  pub long : length t ≡ length s
  pub least : 1 ≤ k
  pub most : k ≤ 4
  pub left : (h j : ℕ) → j < slots → (h ≡ g → Aside k j) → word_at t h j ≡ word_at s h j
  pub at-two : (j : ℕ) → 1 ≤ j → j < k → Before s g j (word_at t g (5 + j))
  pub at-three : (j : ℕ) → 1 ≤ j → j < k → word_at t g (10 + j) ≡ word_at t g (5 + j)
  pub small : any < wide
  pub zeros : any ≡ 0 → (j : ℕ) → 1 ≤ j → j < k → word_at t g (5 + j) ≡ 0
  pub some : (i : ℕ) → bit any i ≡ true → (j : ℕ) × (1 ≤ j) × (j < k) × (bit (word_at t g (5 + j)) i ≡ true)

module _ (s : List ℕ) (g : ℕ) where
  pub sixth-start : Sixth s g 1 s 0
  sixth-start =
      record {
        long = refl;
        least = omega arith;
        most = omega arith;
        left = λ h j l f. refl;
        at-two = λ j o l. absurd (omega arith);
        at-three = λ j o l. absurd (omega arith);
        small = omega arith;
        zeros = λ e j o l. absurd (omega arith);
        some = λ i e. absurd (not-both (bit-zero i) e);
      }

  module _ (k any w : ℕ) (t t₁ t₂ : List ℕ) (f : Sixth s g k t any) (hk : k < 4) (before : Before t g k w) (p₁ : Written t g (5 + k) w t₁)
      (p₂ : Written t₁ g (10 + k) w t₂) where
    now-two : word_at t₂ g (5 + k) ≡ w
    now-two = p₂.others g (5 + k) (omega arith) (λ e d. omega arith) ∙ p₁.own

    was : (h j : ℕ) → j < slots → (h ≡ g → (j ≡ 5 + k → ⊥) × (j ≡ 10 + k → ⊥)) → word_at t₂ h j ≡ word_at t h j
    was h j l n = p₂.others h j l (λ e d. (n e).1 d) ∙ p₁.others h j l (λ e d. (n e).0 d)

    was-two : (j : ℕ) → j < k → word_at t₂ g (5 + j) ≡ word_at t g (5 + j)
    was-two j l = was g (5 + j) (omega arith) (λ e. ((λ d. omega arith), (λ d. omega arith)))

    before-now : Before s g k w
    before-now =
        record {
          small = before.small;
          told = λ r m l. before.told r m l ∙
              source-same s t g r (λ h n. same-marks s t h r (λ j c. f.left h j c (λ e. absurd (n e))));
        }

    pub sixth-step : Sixth s g (k + 1) t₂ (bit_or any w)
    sixth-step =
        record {
          long = p₂.long ∙ p₁.long ∙ f.long;
          least = omega arith;
          most = omega arith;
          left = λ h j l n. was h j l (λ e. n e k f.least (omega arith)) ∙ f.left h j l (λ e i o m. n e i o (omega arith));
          at-two = λ j o l. last_or (Before s g j (word_at t₂ g (5 + j))) j k l (λ e. rw (e, now-two) before-now)
              (λ m. rw (was-two j m) (f.at-two j o m));
          at-three = λ j o l. last_or (word_at t₂ g (10 + j) ≡ word_at t₂ g (5 + j)) j k l (λ e. rw e (p₂.own ∙ sym now-two))
              (λ m. was g (10 + j) (omega arith) (λ e. ((λ d. omega arith), (λ d. omega arith))) ∙ f.at-three j o m ∙ sym (was-two j m));
          small = or_lt 24 any w f.small before.small;
          zeros = λ z j o l. last_or (word_at t₂ g (5 + j) ≡ 0) j k l (λ e. rw e (now-two ∙ (or-none any w z).1))
              (λ m. was-two j m ∙ f.zeros (or-none any w z).0 j o m);
          some = λ i e. ⊎_elim (old i) (λ d. (k, f.least, omega arith, ap (λ (v : ℕ). bit v i) now-two ∙ d))
              (or_some (bit any i) (bit w i) (sym (bit-or any w i) ∙ e));
        }
      where
        old : (i : ℕ) → bit any i ≡ true → (j : ℕ) × (1 ≤ j) × (j < k + 1) × (bit (word_at t₂ g (5 + j)) i ≡ true)
        old i e =
            let (j, o, l, d) = f.some i e in
            (j, o, omega arith, ap (λ (v : ℕ). bit v i) (was-two j l) ∙ d)

  -- all three, where no order before has the fifth elsewhere
  module _ (none : Empty s g) (of : (x : ℕ) → source s g x ≡ true → RankOf 5 x) (k any : ℕ) (t : List ℕ) (hk : 4 ≤ k) (f : Sixth s g k t any) where
    sixth-at : (x j : ℕ) → held x ≡ true → 1 ≤ j → j < 4 → x % 120 / 24 ≡ j → word_at t g (slot x) ≡ word_at t g (5 + j) →
        marked t g x ≡ source s g (x % 120)
    sixth-at x j h o l e d =
        let r : ℕ = x % 120 in
        let c : r % 24 ≡ x % 24 = omega arith in
        marked-bit t g x h ∙ ap (λ (v : ℕ). bit v (x % 24)) d ∙ ap (bit (word_at t g (5 + j))) (sym c) ∙
        (f.at-two j o (omega arith)).told r (held-few r (omega arith)) (slot-few r (omega arith) ∙ e)

    -- with the fifth elsewhere there is no order, before or after
    outer : (x j m : ℕ) → held x ≡ true → x % 120 / 24 ≡ j → slot x ≡ m + j → (m ≡ 5) ⊎ (m ≡ 10) → (1 ≤ j → j < 4 → ⊥) →
        marked t g x ≡ source s g (x % 120)
    outer x j m h e d p n =
        unwritten s g none t x h (f.left g (slot x) (slot-below x h) (λ q i o l. ((aside i o l p).0, (aside i o l p).1))) ∙ sym (absent (source s g (x % 120)) refl)
      where
        aside : (i : ℕ) → 1 ≤ i → i < k → (m ≡ 5) ⊎ (m ≡ 10) → (slot x ≡ 5 + i → ⊥) × (slot x ≡ 10 + i → ⊥)
        aside i o l (inl p) = ((λ q. n (omega (arith, f.most)) (omega (arith, f.most))), (λ q. omega (arith, f.most, j-below)))
          where
            j-below : j < 5
            j-below = omega arith
        aside i o l (inr p) = ((λ q. omega (arith, f.most)), (λ q. n (omega (arith, f.most)) (omega (arith, f.most))))

        absent : (b : Bool) → source s g (x % 120) ≡ b → b ≡ false
        absent false q = refl
        absent true q =
            let (lo, hi) = (of (x % 120) q).inner (omega arith) in
            let v : x % 120 % 120 ≡ x % 120 = omega arith in
            absurd (n (omega arith) (omega arith))

    -- the youngest at one of its places, whose words begin at slot m
    placed : (x m : ℕ) → held x ≡ true → slot x ≡ m + x % 120 / 24 → (m ≡ 5) ⊎ (m ≡ 10) →
        ((j : ℕ) → 1 ≤ j → j < 4 → word_at t g (m + j) ≡ word_at t g (5 + j)) → marked t g x ≡ source s g (x % 120)
    placed x m h d p w = go (between 1 4 (x % 120 / 24)) refl
      where
        go : (b : Bool) → between 1 4 (x % 120 / 24) ≡ b → marked t g x ≡ source s g (x % 120)
        go true q =
            let (o, l) = between-out 1 4 (x % 120 / 24) q in
            sixth-at x (x % 120 / 24) h o l refl (ap (word_at t g) d ∙ w (x % 120 / 24) o l)
        go false q = outer x (x % 120 / 24) m h refl d p (λ o l. not-both q (between_in 1 4 (x % 120 / 24) o l))

    sixth-own : (x : ℕ) → held x ≡ true → marked t g x ≡ fits 3 3 (suc (x / 120)) 6 && source s g (x % 120)
    sixth-own x h = go (slot_cases x h)
      where
        fit : 240 ≤ x → x < 480 → fits 3 3 (suc (x / 120)) 6 ≡ true
        fit l m =
            fitting 3 3 (suc (x / 120)) 6
            (record { low = omega arith; high = omega arith; upper = omega arith; lower = omega arith; sum = omega arith })

        upper : 240 ≤ x → x < 480 → slot x ≡ x / 24 - 5 → (v : Bool) → ltb x 360 ≡ v → marked t g x ≡ source s g (x % 120)
        upper l m c true e =
            let n = ltb-true x 360 e in
            placed x 5 h (c ∙ omega arith) (inl refl) (λ j o l. refl)
        upper l m c false e =
            let n = ltb-false x 360 e in
            placed x 10 h (c ∙ omega arith) (inr refl) (λ j o l. f.at-three j o (omega arith))

        go : ((x < 120) × (slot x ≡ x / 24)) ⊎ ((240 ≤ x) × (x < 480) × (slot x ≡ x / 24 - 5)) →
            marked t g x ≡ fits 3 3 (suc (x / 120)) 6 && source s g (x % 120)
        go (inl (l, c)) =
            let e = unfit 3 3 (suc (x / 120)) 6 (λ p. omega (arith, p.lower)) in
            unwritten s g none t x h (f.left g (slot x) (slot-below x h) (λ q i o m. ((λ d. omega arith), (λ d. omega arith)))) ∙ rw e
        go (inr (l, m, c)) = rw (fit l m) (upper l m c (ltb x 360) refl)

    pub sixth-opened : Opened 3 3 5 s g t
    unfolding fact
    sixth-opened =
        record {
          long = f.long;
          others = λ h x l n. same-marks s t h x (λ j m. f.left h j m (λ e. absurd (n e)));
          own = sixth-own;
        }

    pub sixth-bare : Bare t g (eqb any 0)
    sixth-bare = bare-test t g any (λ e. bare-none s g none t (λ j l. go e j l (between 6 9 j) (between 11 14 j) refl refl)) some f.small
      where
        go : any ≡ 0 → (j : ℕ) → j < slots → (a b : Bool) → between 6 9 j ≡ a → between 11 14 j ≡ b →
            (word_at t g j ≡ word_at s g j) ⊎ (word_at t g j ≡ 0)
        go z j l true b ea eb =
            let (o, m) = between-out 6 9 j ea in
            inr (ap (word_at t g) (omega arith) ∙ f.zeros z (j - 5) (omega arith) (omega arith))
        go z j l false true ea eb =
            let (o, m) = between-out 11 14 j eb in
            inr (ap (word_at t g) (omega arith) ∙ f.at-three (j - 10) (omega arith) (omega arith) ∙ f.zeros z (j - 10) (omega arith) (omega arith))
        go z j l false false ea eb =
            inl (f.left g j l (λ q i o m. (
              (λ d. not-both ea (between_in 6 9 j (omega arith) (omega (arith, f.most)))),
              (λ d. not-both eb (between_in 11 14 j (omega arith) (omega (arith, f.most)))),
            )))

        some : (i : ℕ) → i < 24 → bit any i ≡ true → Some t g
        some i l e =
            let (j, o, m, d) = f.some i e in
            bare-some t g (5 + j) i (omega (arith, f.most)) l d
