-- An ending with five or six nets open, from the words of one gap to those of the next and back.
use mathlib.Core.Path.{◌≡◌, refl, sym, ap, ap₂, ◌∙◌}
use mathlib.Core.Bool.{Bool, true, false, ◌||◌}
use mathlib.Core.List.{List}
use mathlib.Core.Logic.{◌⊎◌, inl, inr}
use Prim.Native.Nat.{ℕ, suc, ◌+◌, ◌-◌, ◌*◌, ◌/◌, ◌%◌, ◌≤◌, ◌<◌}
use native.Mathlib.Nat.{mod-lt}
use native.Mathlib.Omega.{arith}
use lib.Bits.{bit_and}
use lib.Dec.{eqb, leb, ltb}
use lib.Pow.{pow_pos}
use borrow.Author.Tests.{eqb-true, eqb-false, ltb-true, ltb-false, leb-true, leb-false}
use Rattle.rules.specs.declared.Kind.TheVariants.{E}
use Rattle.steps.specs.Plan.{turn_kind, turn_age}
use Rattle.steps.specs.declared.plan.Stop.{Stop}
use Rattle.steps.specs.declared.end.Five.{Five}
use Rattle.steps.specs.Ranks.{fact}
use Rattle.steps.specs.Sets.{ranks, slots, slot, word_at, bit, marked, source, Written, Empty, Some, Bare, Exactly, Loses}
use Rattle.steps.specs.Stops.{Sound}
use Rattle.steps.specs.Masks.{between, Sources}
use Rattle.steps.specs.Leading.{Reached, Onward}
use Rattle.steps.specs.Four.{Legal, word_before, Gone, comes, Changed, Anded, nth, within, none, SixLeft, SixBack, Inside}
use Rattle.steps.proofs.Slots.{held-few, slot-few, slot-middle, slot_cases, slot-below}
use Rattle.steps.proofs.Words.{bit-zero, bit-mod, bit-some}
use Rattle.steps.proofs.Bits.{not-both, marked-bit, marked-held, marked-same}
use Rattle.steps.proofs.Masks.{between_in, between-out}
use Rattle.steps.proofs.Hops.{unfit}
use Rattle.steps.proofs.FourSets.{either, or-first, or-second}
use Rattle.steps.proofs.EndingSets.{word_source, gone_same, gone-exactly, anded-loses, comes-loses, marks-below}
use Rattle.steps.proofs.EndingFive.{any_of, any_some, some-any, or_three, or-three, nth-inner, outer-none, nth-all}
use Rattle.steps.proofs.EndingSix.{source-split, source-inner}

-- words of a gap are changed one after the other
changed-start : (s : List ℕ) (g : ℕ) (m : ℕ → ℕ) (k : ℕ) → Changed s g m (between k k) s
changed-start s g m k =
    record { long = refl; others = λ h j l f. refl; own = λ j i. let (a, b) = between-out k k j i in absurd (omega arith) }

-- one more, where the word is made of what was there
changed-more : (s : List ℕ) (g : ℕ) (m : ℕ → ℕ) (from to c x : ℕ) (u v : List ℕ) → from ≤ to → to < slots → c ≡ suc to →
    Changed s g m (between from to) u → Written u g to x v → (word_at u g to ≡ word_at s g to → x ≡ m to) → Changed s g m (between from c) v
changed-more s g m from to c x u v hf ht hc p d q =
    record {
      long = d.long ∙ p.long;
      others = λ h j l f. d.others h j l (λ e i. f e (between_in from c j (omega arith) (omega arith))) ∙
          p.others h j l (λ e i. let (a, b) = between-out from to j i in f e (between_in from c j a (omega arith)));
      own = λ j i. let (a, b) = between-out from c j i in go j a b (eqb j to) refl;
    }
  where
    go : (j : ℕ) → from ≤ j → j < c → (t : Bool) → eqb j to ≡ t → word_at v g j ≡ m j
    go j a b true t =
        let e : j ≡ to = eqb-true j to t in
        rw e (d.own ∙ q (p.others g to ht (λ z i. let (a, b) = between-out from to to i in omega arith)))
    go j a b false t =
        let n = eqb-false j to t in
        d.others g j (omega arith) (λ i e. n e) ∙ p.own j (between_in from to j a (omega (arith, n)))

-- three of them
module _ (s : List ℕ) (g k : ℕ) (m : ℕ → ℕ) (x₁ x₂ x₃ : ℕ) (s₁ s₂ u : List ℕ) (hk : k ≤ 10) (w₁ : Written s g (k + 1) x₁ s₁)
    (w₂ : Written s₁ g (k + 2) x₂ s₂) (w₃ : Written s₂ g (k + 3) x₃ u) where
  three-changed : x₁ ≡ m (k + 1) → (word_at s₁ g (k + 2) ≡ word_at s g (k + 2) → x₂ ≡ m (k + 2)) →
      (word_at s₂ g (k + 3) ≡ word_at s g (k + 3) → x₃ ≡ m (k + 3)) → Changed s g m (between (k + 1) (k + 4)) u
  three-changed e₁ e₂ e₃ =
      let a₁ : Changed s g m (between (k + 1) (k + 2)) s₁ =
      changed-more s g m (k + 1) (k + 1) (k + 2) x₁ s s₁ (omega arith) (omega arith) (omega arith) (changed-start s g m (k + 1)) w₁ (λ e. e₁) in
      let a₂ : Changed s g m (between (k + 1) (k + 3)) s₂ =
      changed-more s g m (k + 1) (k + 2) (k + 3) x₂ s₁ s₂ (omega arith) (omega arith) (omega arith) a₁ w₂ e₂ in
      changed-more s g m (k + 1) (k + 3) (k + 4) x₃ s₂ u (omega arith) (omega arith) (omega arith) a₂ w₃ e₃

-- the words of f put, and the old words cut down to them
pub five-put : (s : List ℕ) (g : ℕ) (f : Five) (s₁ s₂ u : List ℕ) → Written s g 1 f.second s₁ → Written s₁ g 2 f.third s₂ →
    Written s₂ g 3 f.fourth u → Changed s g (nth f) (between 1 4) u
unfolding nth
five-put s g f s₁ s₂ u w₁ w₂ w₃ =
    three-changed s g 0 (nth f) f.second f.third f.fourth s₁ s₂ u (omega arith) w₁ w₂ w₃ refl (λ e. refl) (λ e. refl)

pub five-anded : (s : List ℕ) (g k : ℕ) (f : Five) (s₁ s₂ u : List ℕ) → k ≤ 10 →
    Written s g (k + 1) (bit_and (word_at s g (k + 1)) f.second) s₁ →
    Written s₁ g (k + 2) (bit_and (word_at s₁ g (k + 2)) f.third) s₂ →
    Written s₂ g (k + 3) (bit_and (word_at s₂ g (k + 3)) f.fourth) u → Anded s g (λ j. nth f (j - k)) (between (k + 1) (k + 4)) u
unfolding nth
five-anded s g k f s₁ s₂ u hk w₁ w₂ w₃ =
    three-changed s g k (λ j. bit_and (word_at s g j) (nth f (j - k))) (bit_and (word_at s g (k + 1)) f.second)
    (bit_and (word_at s₁ g (k + 2)) f.third) (bit_and (word_at s₂ g (k + 3)) f.fourth) s₁ s₂ u hk w₁ w₂ w₃ (same 1 refl) (same 2) (same 3)
  where
    same : (j : ℕ) {a : ℕ} → a ≡ word_at s g (k + j) → bit_and a (nth f j) ≡ bit_and (word_at s g (k + j)) (nth f (k + j - k))
    same j {a} e =
        let d : k + j - k ≡ j = omega arith in
        ap₂ bit_and e (ap (nth f) (sym d))

-- three words read
pub five-read : (s : List ℕ) (g k : ℕ) (f : Five) → f.second ≡ word_before s g (k + 1) → f.third ≡ word_before s g (k + 2) →
    f.fourth ≡ word_before s g (k + 3) → (j : ℕ) → 1 ≤ j → j < 4 → nth f j ≡ word_before s g (k + j)
five-read s g k f b c d = nth-all f (λ j. word_before s g (k + j)) b c d

-- the places of five nets that are legal
pub legal-inside : (ku kl l : ℕ) → ku ≤ 3 → kl ≤ 3 → Legal ku kl 5 l → Inside l
unfolding bit
legal-inside ku kl l hu hl f =
    let a : bit l 0 ≡ false = f.bits 0 (omega arith) ∙ unfit ku kl 1 5 (λ p. omega (arith, p.lower)) in
    let b : bit l 4 ≡ false = f.bits 4 (omega arith) ∙ unfit ku kl 5 5 (λ p. omega (arith, p.upper)) in
    record { top = a; below = omega (arith, f.below, eqb-false (l / 16 % 2) 1 b) }

-- five nets are open
module _ (t : Stop) (l : ℕ) (sound : Sound t) (ends : turn_kind t.step.turn ≡ E) (legal : Legal t.streets.upper t.streets.lower 5 l) (five : t.step.count ≡ 5) (s : List ℕ)
    (g : ℕ) where
  legal-here : Legal t.streets.upper t.streets.lower t.step.count l
  legal-here = rw five legal

  pub five-exactly : (f : Five) (n : ℕ) (u : List ℕ) → ((j : ℕ) → 1 ≤ j → j < 4 → nth f j ≡ word_before s g (0 + j)) → Sources t s g → Empty s g →
      Gone 5 (turn_age t.step.turn) l (within f) n → Written s g 0 n u → Exactly s g (Reached t s g) u
  unfolding fact
  five-exactly f n u h from z o w =
      gone-exactly t l sound ends legal-here (omega arith) s g n u z
      (rw five (gone_same 5 (turn_age t.step.turn) l (within f) (source s g) n (λ r m. sym (same r m)) o)) w
    where
      none-there : (r : ℕ) → r < 120 → (24 ≤ r → r < 96 → ⊥) → source s g r ≡ false
      none-there r m n = go (source s g r) refl
        where
          go : (b : Bool) → source s g r ≡ b → b ≡ false
          go true e = let (lo, hi) = (from r e).inner (omega arith) in absurd (n (omega arith) (omega arith))
          go false e = refl

      inner-same : (r : ℕ) → 24 ≤ r → r < 96 → source s g r ≡ within f r
      inner-same r a b =
          let v : slot r ≡ r / 24 = slot-few r (omega arith) in
          let k : 0 + r / 24 ≡ r / 24 = omega arith in
          word_source s g r (held-few r (omega arith)) ∙ ap (λ (x : ℕ). bit (word_before s g x) (r % 24)) (v ∙ sym k) ∙
          ap (λ (x : ℕ). bit x (r % 24)) (sym (h (r / 24) (omega arith) (omega arith)))

      same : (r : ℕ) → r < fact 5 → source s g r ≡ within f r
      same r m = go (leb 24 r) (ltb r 96) refl refl
        where
          go : (a b : Bool) → leb 24 r ≡ a → ltb r 96 ≡ b → source s g r ≡ within f r
          go true true p q = inner-same r (leb-true 24 r p) (ltb-true r 96 q)
          go true false p q =
              let n : 24 ≤ r → r < 96 → ⊥ = λ a b. omega (arith, ltb-false r 96 q) in
              none-there r m n ∙ sym (outer-none f r n)
          go false b p q =
              let n : 24 ≤ r → r < 96 → ⊥ = λ a b. omega (arith, leb-false 24 r p) in
              none-there r m n ∙ sym (outer-none f r n)

  pub five-loses : (f : Five) (n : ℕ) (u : List ℕ) → n ≡ word_at s (suc g) 0 →
      ((r : ℕ) → 24 ≤ r → r < 96 → within f r ≡ comes 5 (turn_age t.step.turn) l n r) → Sources t s (suc g) →
      Anded s g (λ j. nth f (j - 0)) (between (0 + 1) (0 + 4)) u → Loses s g (Onward t s (suc g)) u
  unfolding fact source
  five-loses f n u q h from c =
      comes-loses t l sound ends legal-here (omega arith) s g (λ j. nth f (j - 0)) (between (0 + 1) (0 + 4)) u (marks-below t s g from)
      (λ x b i.
      let d : x < 120 = rw five at (from x i).below in
      let (lo, hi) = (from x i).inner (omega arith) in
      let v : slot x ≡ x / 24 = slot-few x d in
      let k : slot x - 0 ≡ x / 24 = omega arith in
      (between_in (0 + 1) (0 + 4) (slot x) (omega arith) (omega arith), rw (k, five, ← q) (h x (omega arith) (omega arith)))) c

-- three words put into a gap that was empty
module _ (s : List ℕ) (g : ℕ) (f : Five) (u : List ℕ) (c : Changed s g (nth f) (between 1 4) u) where
  five-elsewhere : (h x : ℕ) → x < ranks → (h ≡ g → ⊥) → marked u h x ≡ marked s h x
  five-elsewhere h x l n =
      marked-same s u h x (λ m. ap (λ (v : ℕ). bit v (x % 24)) (c.others h (slot x) (slot-below x m) (λ e a. n e)))

  five-own : (x : ℕ) → 24 ≤ x → x < 96 → marked u g x ≡ within f x
  five-own x a h =
      let v : slot x ≡ x / 24 = slot-few x (omega arith) in
      marked-bit u g x (held-few x (omega arith)) ∙
      ap (λ (w : ℕ). bit w (x % 24)) (ap (word_at u g) v ∙ c.own (x / 24) (between_in 1 4 (x / 24) (omega arith) (omega arith)))

  five-inner : Empty s g → (x : ℕ) → x < ranks → marked u g x ≡ true → (24 ≤ x) × (x < 96)
  five-inner z x l e = go (between 1 4 (slot x)) refl
    where
      near : (1 ≤ slot x) × (slot x < 4) → ((x < 120) × (slot x ≡ x / 24)) ⊎ ((240 ≤ x) × (x < 480) × (slot x ≡ x / 24 - 5)) → (24 ≤ x) × (x < 96)
      near (a, b) (inl h) = (omega arith, omega arith)
      near (a, b) (inr h) = absurd (omega arith)

      go : (b : Bool) → between 1 4 (slot x) ≡ b → (24 ≤ x) × (x < 96)
      go true q = near (between-out 1 4 (slot x) q) (slot_cases x (marked-held u g x e))
      go false q =
          absurd (z x l (sym (marked-same s u g x (λ m. ap (λ (v : ℕ). bit v (x % 24)) (c.others g (slot x) (slot-below x m)
          (λ y i. not-both q i)))) ∙ e))

  five-within : (x : ℕ) → x < 120 → within f x ≡ true → marked u g x ≡ true
  five-within x h e =
      let (a, b) = nth-inner f (x / 24) (x % 24) e in
      five-own x (omega arith) (omega arith) ∙ e

  pub six-exactly : (t : Stop) → Empty s g → SixLeft t s g f → Exactly s g (Reached t s g) u
  six-exactly t z o =
      record {
        long = c.long;
        others = five-elsewhere;
        sound = λ x l e. let (a, h) = five-inner z x l e in o.sound x (omega arith) (sym (five-own x a h) ∙ e);
        full = λ x l p. let (h, e) = o.full x p in five-within x h e;
      }

  abbrev all : ℕ
  all = or_three f.second f.third f.fourth % 16777216

  all-bit : (i : ℕ) → i < 24 → bit all i ≡ any_of (λ k. bit (nth f k) i)
  unfolding nth
  all-bit i h = bit-mod (or_three f.second f.third f.fourth) 24 i h ∙ or-three f.second f.third f.fourth i

  some_word : (i : ℕ) → i < 24 → bit all i ≡ true → (k : ℕ) × (1 ≤ k) × (k < 4) × (bit (nth f k) i ≡ true)
  some_word i h e = any_some (λ k. bit (nth f k) i) (sym (all-bit i h) ∙ e)

  word_some : (x : ℕ) → 24 ≤ x → x < 96 → within f x ≡ true → bit all (x % 24) ≡ true
  word_some x a h e = all-bit (x % 24) (omega arith) ∙ some-any (λ k. bit (nth f k) (x % 24)) (x / 24) (omega arith) (omega arith) e

  word-mark : (i k : ℕ) → i < 24 → 1 ≤ k → k < 4 → bit (nth f k) i ≡ true → Some u g
  word-mark i k hi lk hk e =
      let a : (24 * k + i) / 24 ≡ k = omega arith in
      let b : (24 * k + i) % 24 ≡ i = omega arith in
      record { rank = 24 * k + i; within = omega arith; is = five-own (24 * k + i) (omega arith) (omega arith) ∙ rw (a, b) e }

  pub six-bare : Empty s g → (r : Bool) → r ≡ none f → Bare u g r
  six-bare z r e = rw e (go (none f) refl)
    where
      go : (b : Bool) → none f ≡ b → Bare u g b
      go true q = λ x l m.
          let (a, h) = five-inner z x l m in
          not-both (bit-zero (x % 24)) (rw (eqb-true all 0 q) at (word_some x a h (sym (five-own x a h) ∙ m)))
      go false q =
          let (i, h, d) = bit-some 24 all (mod-lt (or_three f.second f.third f.fourth) (pow_pos 24)) (omega (arith, eqb-false all 0 q)) in
          let (k, a, m, w) = some_word i h d in
          word-mark i k h a m w

-- six words cut down
anded-same : (s : List ℕ) (g : ℕ) (m k : ℕ → ℕ) (K : ℕ → Bool) (u : List ℕ) → ((j : ℕ) → K j ≡ true → m j ≡ k j) → Anded s g m K u → Anded s g k K u
anded-same s g m k K u e c =
    record { long = c.long; others = c.others; own = λ j i. c.own j i ∙ ap (bit_and (word_at s g j)) (e j i) }

anded-join : (s : List ℕ) (g : ℕ) (m : ℕ → ℕ) (K L : ℕ → Bool) (u v : List ℕ) → ((j : ℕ) → K j ≡ true → j < slots) →
    ((j : ℕ) → L j ≡ true → j < slots) → ((j : ℕ) → K j ≡ true → L j ≡ true → ⊥) → Anded s g m K u → Anded u g m L v → Anded s g m (λ j. K j || L j) v
anded-join s g m K L u v hk hl apart c d =
    record {
      long = d.long ∙ c.long;
      others = λ h j l f. d.others h j l (λ e i. f e (or-second (K j) (L j) i)) ∙ c.others h j l (λ e i. f e (or-first (K j) (L j) i));
      own = λ j i. go j (either (K j) (L j) i);
    }
  where
    go : (j : ℕ) → (K j ≡ true) ⊎ (L j ≡ true) → word_at v g j ≡ bit_and (word_at s g j) (m j)
    go j (inl i) = d.others g j (hk j i) (λ e k. apart j i k) ∙ c.own j i
    go j (inr i) = d.own j i ∙ ap (λ (x : ℕ). bit_and x (m j)) (c.others g j (hl j i) (λ e k. apart j k i))

-- of both places of the youngest
module _ (j : ℕ) where
  pub low-place : between (5 + 1) (5 + 4) j ≡ true → (6 ≤ j) × (j < 9)
  low-place i = between-out 6 9 j i

  pub high-place : between (10 + 1) (10 + 4) j ≡ true → (11 ≤ j) × (j < 14)
  high-place i = between-out 11 14 j i

pub six-loses : (t : Stop) (six : t.step.count ≡ 6) (s : List ℕ) (g : ℕ) (f : Five) (u v : List ℕ) → Sources t s (suc g) → SixBack t s g f →
    Anded s g (λ j. nth f (j - 5)) (between (5 + 1) (5 + 4)) u → Anded u g (λ j. nth f (j - 10)) (between (10 + 1) (10 + 4)) v →
    Loses s g (Onward t s (suc g)) v
unfolding source
six-loses t six s g f u v from o c d =
    anded-loses s g (λ j. nth f (j % 5)) (λ j. between (5 + 1) (5 + 4) j || between (10 + 1) (10 + 4) j) v both (Onward t s (suc g)) here
    (λ x l e w.
    let (p, q, h, z) = source-split t six s (suc g) from x e in
    let (lo, hi) = source-inner t six s (suc g) from x e in
    rw z at (o.sound (x / 120) (x % 120) p q lo hi (same x e ∙ w)))
    (λ x l e w.
    let (p, q, h, z) = source-split t six s (suc g) from x e in
    let (lo, hi) = source-inner t six s (suc g) from x e in
    sym (same x e) ∙ o.full (x / 120) (x % 120) p q lo hi (rw z w))
  where
    both : Anded s g (λ j. nth f (j % 5)) (λ j. between (5 + 1) (5 + 4) j || between (10 + 1) (10 + 4) j) v
    both =
        anded-join s g (λ j. nth f (j % 5)) (between (5 + 1) (5 + 4)) (between (10 + 1) (10 + 4)) u v
        (λ j i. let (a, b) = low-place j i in omega arith) (λ j i. let (a, b) = high-place j i in omega arith)
        (λ j i k. let (a, b) = low-place j i in let (p, q) = high-place j k in omega arith)
        (anded-same s g (λ j. nth f (j - 5)) (λ j. nth f (j % 5)) (between (5 + 1) (5 + 4)) u
        (λ j i. let (a, b) = low-place j i in ap (nth f) (omega arith)) c)
        (anded-same u g (λ j. nth f (j - 10)) (λ j. nth f (j % 5)) (between (10 + 1) (10 + 4)) v
        (λ j i. let (a, b) = high-place j i in ap (nth f) (omega arith)) d)

    here : (x : ℕ) → x < ranks → marked s g x ≡ true → between (5 + 1) (5 + 4) (slot x) || between (10 + 1) (10 + 4) (slot x) ≡ true
    here x l e = go (ltb x 360) refl
      where
        v' : slot x ≡ x / 24 - 5
        v' = let (p, q, h, z) = source-split t six s (suc g) from x e in slot-middle x (omega arith)

        go : (b : Bool) → ltb x 360 ≡ b → between (5 + 1) (5 + 4) (slot x) || between (10 + 1) (10 + 4) (slot x) ≡ true
        go true b =
            let (p, q, h, z) = source-split t six s (suc g) from x e in
            let (lo, hi) = source-inner t six s (suc g) from x e in
            let m = ltb-true x 360 b in
            or-first (between 6 9 (slot x)) (between 11 14 (slot x)) (between_in 6 9 (slot x) (omega (arith, v')) (omega (arith, v')))
        go false b =
            let (p, q, h, z) = source-split t six s (suc g) from x e in
            let (lo, hi) = source-inner t six s (suc g) from x e in
            let m = ltb-false x 360 b in
            or-second (between 6 9 (slot x)) (between 11 14 (slot x)) (between_in 11 14 (slot x) (omega (arith, v')) (omega (arith, v')))

    same : (x : ℕ) → marked s g x ≡ true → within f (x % 120) ≡ bit (nth f (slot x % 5)) (x % 24)
    same x e =
        let (p, q, h, z) = source-split t six s (suc g) from x e in
        let v : slot x ≡ x / 24 - 5 = slot-middle x (omega arith) in
        let a : x % 120 / 24 ≡ slot x % 5 = omega arith in
        let b : x % 120 % 24 ≡ x % 24 = omega arith in
        ap₂ (λ (k i : ℕ). bit (nth f k) i) a b
