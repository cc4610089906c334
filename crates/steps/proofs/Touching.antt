-- A gap made anew word by word: where a net is touched it gets the ranks of the gap before it at which the net has room, and whether it gets any is told.
use mathlib.Core.Path.{◌≡◌, refl, sym, ap, ap₂, ◌∙◌}
use mathlib.Core.Bool.{Bool, true, false, ◌&&◌, ◌||◌}
use mathlib.Core.List.{List}
use mathlib.Core.Logic.{◌⊎◌, inl, inr}
use Prim.Native.Nat.{ℕ, suc, ◌+◌, ◌-◌, ◌*◌, ◌/◌, ◌%◌, ◌≤◌, ◌<◌}
use native.Mathlib.Omega.{arith}
use lib.Bits.{bit_and, bit_or, and_le_r, or_lt}
use lib.Dec.{leb, ltb, eqb}
use borrow.Author.Tests.{eqb-true, eqb-false, ltb-true, ltb-false, leb-true, leb-false, eq-eqb, ne_eqb, lt-ltb, le-ltb, le-leb}
use Rattle.rules.specs.declared.Kind.TheVariants.{M}
use Rattle.rules.specs.Basic.{pick, every}
use Rattle.rules.proofs.Fits.{Fits}
use Rattle.rules.proofs.PinsTest.{every-at}
use Rattle.steps.specs.Plan.{turn_kind, turn_age}
use Rattle.steps.specs.declared.plan.Stop.{Stop}
use Rattle.steps.specs.Ranks.{capacity, fact, RankOf, at_of}
use Rattle.steps.specs.Sets.{ranks, slots, held, slot, word_at, bit, marked, source, Written, Empty, Some, Bare, Exactly}
use Rattle.steps.specs.Stops.{Sound}
use Rattle.steps.specs.Leading.{Leads, Reached}
use Rattle.steps.specs.Masks.{between, slots_of, room_at, roomy, Sources, Redone, InSix}
use Rattle.steps.specs.Four.{Legal, Mask}
use Rattle.steps.proofs.Ranks.{fact-most, fact-of-four, fact-of-five}
use Rattle.steps.proofs.Slots.{held_below, slot-below, slot-few, slot-middle, slot_cases}
use Rattle.steps.proofs.Words.{bit-and, bit-or, bit-zero, bit_high}
use Rattle.steps.proofs.FourSets.{either, or-first, or-second, and_none}
use Rattle.steps.proofs.OpeningMarks.{seat, bare-test}
use Rattle.steps.proofs.EndingSets.{put-bare}
use Rattle.steps.proofs.Masks.{between_in, between-under, between-over, alike, alike_same}
use Rattle.steps.proofs.Masks.{legal-room, few-stands-at, five-stands-at, six-stands-at}
use Rattle.steps.proofs.Bits.{not-both, marked-bit, marked-held, marked-same, source-gap, source-held}
use Rattle.steps.proofs.Hops.{touched-at, both, fits-fits, hop-met, hop-meets}

module _ (s : List ℕ) (g : ℕ) (Q : ℕ → Bool) where
  pub redone-start : Redone s g (λ k. false) Q s
  redone-start =
      record {
        long = refl;
        others = λ h x f. refl;
        done = λ x h e. absurd (not-both {t = false} refl e);
        left = λ x h e. refl;
      }

  -- the same words, told otherwise
  pub redone-map : (K L : ℕ → Bool) (t : List ℕ) → ((k : ℕ) → k < slots → K k ≡ L k) → Redone s g K Q t → Redone s g L Q t
  redone-map K L t f a =
      record {
        long = a.long;
        others = a.others;
        done = λ x h e. a.done x h (f (slot x) (slot-below x h) ∙ e);
        left = λ x h e. a.left x h (f (slot x) (slot-below x h) ∙ e);
      }

  -- one more word
  pub redone-more : (K : ℕ → Bool) (k w : ℕ) (u v : List ℕ) → Redone s g K Q u → Written u g k w v →
      ((x : ℕ) → held x ≡ true → slot x ≡ k → bit w (x % 24) ≡ Q x) → Redone s g (λ j. K j || eqb j k) Q v
  redone-more K k w u v a b f =
      record {
        long = b.long ∙ a.long;
        others = λ h x n. same h x (λ e d. n e) ∙ a.others h x n;
        done = λ x h e. done x h (eqb (slot x) k) refl e;
        left = λ x h e. left x h (eqb (slot x) k) refl e;
      }
    where
      same : (h x : ℕ) → (h ≡ g → slot x ≡ k → ⊥) → marked v h x ≡ marked u h x
      same h x n = marked-same u v h x (λ l. ap (λ (d : ℕ). bit d (x % 24)) (b.others h (slot x) (slot-below x l) n))

      done : (x : ℕ) → held x ≡ true → (t : Bool) → eqb (slot x) k ≡ t → K (slot x) || t ≡ true → marked v g x ≡ Q x
      done x h true e o =
          let m : slot x ≡ k = eqb-true (slot x) k e in
          marked-bit v g x h ∙ ap (λ (j : ℕ). bit (word_at v g j) (x % 24)) m ∙ ap (λ (d : ℕ). bit d (x % 24)) b.own ∙ f x h m
      done x h false e o =
          same g x (λ q d. eqb-false (slot x) k e d) ∙ a.done x h (or-none (K (slot x)) o)
        where
          or-none : (t : Bool) → t || false ≡ true → t ≡ true
          or-none true o = refl
          or-none false o = o

      left : (x : ℕ) → held x ≡ true → (t : Bool) → eqb (slot x) k ≡ t → K (slot x) || t ≡ false → marked v g x ≡ marked s g x
      left x h true e o = absurd (or-all (K (slot x)) o)
        where
          or-all : (t : Bool) → t || true ≡ false → ⊥
          or-all true o = not-both o refl
          or-all false o = not-both o refl
      left x h false e o = same g x (λ q d. eqb-false (slot x) k e d) ∙ a.left x h (or-none (K (slot x)) o)
        where
          or-none : (t : Bool) → t || false ≡ false → t ≡ false
          or-none true o = o
          or-none false o = refl

-- words made anew, and in one word whether any of them has a rank
pub record Sifts (s : List ℕ) (g : ℕ) (K Q : ℕ → Bool) (t : List ℕ) (any : ℕ) : Type 0 where
  pub redone : Redone s g K Q t
  pub small : any < 16777216
  pub has : (x : ℕ) → held x ≡ true → K (slot x) ≡ true → Q x ≡ true → bit any (x % 24) ≡ true
  pub some : (i : ℕ) → bit any i ≡ true → (x : ℕ) × (held x ≡ true) × (K (slot x) ≡ true) × (Q x ≡ true)

module _ (s : List ℕ) (g : ℕ) (Q : ℕ → Bool) where
  pub sifts-start : (K : ℕ → Bool) → ((k : ℕ) → k < slots → K k ≡ false) → Sifts s g K Q s 0
  sifts-start K f =
      record {
        redone = redone-map s g Q (λ k. false) K s (λ k l. sym (f k l)) (redone-start s g Q);
        small = omega arith;
        has = λ x h e q. absurd (not-both (f (slot x) (slot-below x h)) e);
        some = λ i e. absurd (not-both (bit-zero i) e);
      }

  pub sifts-map : (K L : ℕ → Bool) (t : List ℕ) (any : ℕ) → ((k : ℕ) → k < slots → K k ≡ L k) → Sifts s g K Q t any → Sifts s g L Q t any
  sifts-map K L t any f a =
      record {
        redone = redone-map s g Q K L t f a.redone;
        small = a.small;
        has = λ x h e q. a.has x h (f (slot x) (slot-below x h) ∙ e) q;
        some = λ i e. let (x, h, k, q) = a.some i e in (x, h, sym (f (slot x) (slot-below x h)) ∙ k, q);
      }

  -- that word tells whether the gap, if it was empty, still is
  pub sifts-bare : (K : ℕ → Bool) (t : List ℕ) (any : ℕ) → Empty s g → Sifts s g K Q t any → Bare t g (eqb any 0)
  sifts-bare K t any z a = bare-test t g any (λ e x l m. none e x l m (K (slot x)) refl) some a.small
    where
      none : any ≡ 0 → (x : ℕ) → x < ranks → marked t g x ≡ true → (k : Bool) → K (slot x) ≡ k → ⊥
      none e x l m true k =
          let h = marked-held t g x m in
          not-both (bit-zero (x % 24)) (rw e at (a.has x h k (sym (a.redone.done x h k) ∙ m)))
      none e x l m false k = z x l (sym (a.redone.left x (marked-held t g x m) k) ∙ m)

      some : (i : ℕ) → i < 24 → bit any i ≡ true → Some t g
      some i l e =
          let (x, h, k, q) = a.some i e in
          record { rank = x; within = omega (arith, held_below x h); is = a.redone.done x h k ∙ q }

-- one more word
module _ (s : List ℕ) (g : ℕ) (Q K : ℕ → Bool) (k w any : ℕ) (u v : List ℕ) (hk : k < slots) (low : w < 16777216) (b : Written u g k w v)
    (own : (x : ℕ) → held x ≡ true → slot x ≡ k → bit w (x % 24) ≡ Q x) (a : Sifts s g K Q u any) where
  has : (x : ℕ) → held x ≡ true → Q x ≡ true → (K (slot x) ≡ true) ⊎ (eqb (slot x) k ≡ true) → bit any (x % 24) || bit w (x % 24) ≡ true
  has x l q (inl e) = or-first (bit any (x % 24)) (bit w (x % 24)) (a.has x l e q)
  has x l q (inr e) = or-second (bit any (x % 24)) (bit w (x % 24)) (own x l (eqb-true (slot x) k e) ∙ q)

  some : (i : ℕ) → (bit any i ≡ true) ⊎ (bit w i ≡ true) → (x : ℕ) × (held x ≡ true) × (K (slot x) || eqb (slot x) k ≡ true) × (Q x ≡ true)
  some i (inl e) =
      let (x, l, c, q) = a.some i e in
      (x, l, or-first (K (slot x)) (eqb (slot x) k) c, q)
  some i (inr e) =
      let c = seat k i hk (within (ltb i 24) refl) in
      let x = c.rank in
      (x, c.can, or-second (K (slot x)) (eqb (slot x) k) (eq-eqb (slot x) k c.where-in), sym (own x c.can c.where-in) ∙ rw c.which e)
    where
      within : (t : Bool) → ltb i 24 ≡ t → i < 24
      within true d = ltb-true i 24 d
      within false d = absurd (not-both (bit_high w 24 i low (ltb-false i 24 d)) e)

  pub sifts-word : Sifts s g (λ j. K j || eqb j k) Q v (bit_or any w)
  sifts-word =
      record {
        redone = redone-more s g Q K k w u v a.redone b own;
        small = or_lt 24 any w a.small low;
        has = λ x l e q. bit-or any w (x % 24) ∙ has x l q (either (K (slot x)) (eqb (slot x) k) e);
        some = λ i e. some i (either (bit any i) (bit w i) (sym (bit-or any w i) ∙ e));
      }

-- a word of gap g with those bits of gap h that a mask has too
module _ (s : List ℕ) (g h : ℕ) (P K : ℕ → Bool) (k m w : ℕ) (u v : List ℕ) (n : h ≡ g → ⊥) (ew : w ≡ bit_and (word_at u h k) m)
    (b : Written u g k w v) (f : (x : ℕ) → held x ≡ true → slot x ≡ k → marked s h x ≡ true → bit m (x % 24) ≡ P x) where
  abbrev kept : ℕ → Bool
  kept x = marked s h x && P x

  sift-own : Redone s g K kept u → (x : ℕ) → held x ≡ true → slot x ≡ k → bit w (x % 24) ≡ kept x
  sift-own a x l e =
      let old : bit (word_at u h k) (x % 24) ≡ marked s h x =
      ap (λ (j : ℕ). bit (word_at u h j) (x % 24)) (sym e) ∙ sym (marked-bit u h x l) ∙ a.others h x n in
      ap (λ (d : ℕ). bit d (x % 24)) ew ∙ bit-and (word_at u h k) m (x % 24) ∙ ap (λ (t : Bool). t && bit m (x % 24)) old ∙ go (marked s h x) refl
    where
      go : (t : Bool) → marked s h x ≡ t → t && bit m (x % 24) ≡ t && P x
      go true q = f x l e q
      go false q = refl

  sift-more : Redone s g K kept u → Redone s g (λ j. K j || eqb j k) kept v
  sift-more a = redone-more s g kept K k w u v a b (sift-own a)

  sifts-more : (any : ℕ) → k < slots → m < 16777216 → Sifts s g K kept u any → Sifts s g (λ j. K j || eqb j k) kept v (bit_or any w)
  sifts-more any hk hm a =
      sifts-word s g kept K k w any u v hk (omega (arith, ew, and_le_r (word_at u h k) m)) b (sift-own a.redone) a

-- the words of ranks of b nets
module _ (b k : ℕ) where
  pub slots-few : b < 5 → slots_of b k ≡ eqb k 0
  unfolding slots_of pick
  slots-few h = rw (lt-ltb b 5 h)

  pub slots-five : b ≡ 5 → slots_of b k ≡ between 1 4 k
  unfolding slots_of pick
  slots-five e = rw e

  pub slots-six : b ≡ 6 → slots_of b k ≡ leb 5 k && between 1 4 ((k - 5) % 5)
  unfolding slots_of pick
  slots-six e = rw e

one_more : (k e : ℕ) → ltb k e || eqb k e ≡ ltb k (e + 1)
one_more k e = go (ltb k e) (eqb k e) refl refl
  where
    go : (t u : Bool) → ltb k e ≡ t → eqb k e ≡ u → t || u ≡ ltb k (e + 1)
    go true u et eu = sym (lt-ltb k (e + 1) (omega (arith, ltb-true k e et)))
    go false true et eu = sym (lt-ltb k (e + 1) (omega (arith, eqb-true k e eu)))
    go false false et eu = sym (le-ltb k (e + 1) (omega (arith, ltb-false k e et, eqb-false k e eu)))

-- words from one on, and one more
pub copy-same : (from k j : ℕ) → from ≤ k → between from k j || eqb j k ≡ between from (k + 1) j
unfolding between
copy-same from k j h = go (leb from j) refl
  where
    go : (t : Bool) → leb from j ≡ t → (t && ltb j k) || eqb j k ≡ t && ltb j (k + 1)
    go true e = one_more j k
    go false e = ne_eqb j k (λ q. omega (arith, leb-false from j e))

pub copy-none : (from j : ℕ) → between from from j ≡ false
copy-none from j = go (leb from j) refl
  where
    go : (t : Bool) → leb from j ≡ t → between from from j ≡ false
    go true e = between-over from from j (leb-true from j e) (leb-true from j e)
    go false e = between-under from from j (leb-false from j e)

-- the ranks of the words of five nets, and of six
slot-five : (x : ℕ) → held x ≡ true → slot x < 5 → (x < 120) × (slot x ≡ x / 24)
slot-five x h l = go (slot_cases x h)
  where
    go : ((x < 120) × (slot x ≡ x / 24)) ⊎ ((240 ≤ x) × (x < 480) × (slot x ≡ x / 24 - 5)) → (x < 120) × (slot x ≡ x / 24)
    go (inl q) = q
    go (inr q) = absurd (omega arith)

slot-six : (x : ℕ) → held x ≡ true → 5 ≤ slot x → (240 ≤ x) × (x < 480) × (slot x ≡ x / 24 - 5)
slot-six x h l = go (slot_cases x h)
  where
    go : ((x < 120) × (slot x ≡ x / 24)) ⊎ ((240 ≤ x) × (x < 480) × (slot x ≡ x / 24 - 5)) →
        (240 ≤ x) × (x < 480) × (slot x ≡ x / 24 - 5)
    go (inl q) = absurd (omega arith)
    go (inr q) = q

-- at most four nets: the one word
pub few-done : (t : Stop) (l : ℕ) (s : List ℕ) (g h m w : ℕ) (v : List ℕ) → g ≡ suc h → t.step.count < 5 → Sources t s g →
    Mask (fact t.step.count) (λ r. bit l (at_of (turn_age t.step.turn) t.step.count r)) m → w ≡ bit_and (word_at s h 0) m → Written s g 0 w v →
    Redone s g (λ k. false || eqb k 0) (λ x. marked s h x && bit l (at_of (turn_age t.step.turn) t.step.count x)) v
few-done t l s g h m w v eg few o f ew b =
    sift-more s g h P (λ k. false) 0 m w s v (λ e. omega arith) ew b at-rank (redone-start s g (λ x. marked s h x && P x))
  where
    P : ℕ → Bool
    P x = bit l (at_of (turn_age t.step.turn) t.step.count x)

    at-rank : (x : ℕ) → held x ≡ true → slot x ≡ 0 → marked s h x ≡ true → bit m (x % 24) ≡ P x
    at-rank x i e q =
        few-stands-at (fact t.step.count) m x P (omega (arith, fact-most t.step.count 4 (omega arith), fact-of-four))
        (o x (source-gap s g h x eg ∙ q)).below f

pub few-bare : (s : List ℕ) (g m x w : ℕ) (v : List ℕ) → m < 16777216 → w ≡ bit_and x m → Written s g 0 w v → Empty s g →
    Bare v g (eqb w 0)
few-bare s g m x w v l ew b z = put-bare s g 0 w v (omega arith) b z (omega (arith, ew, and_le_r x m))

-- five nets: the words from 1 on before e
module _ (a l : ℕ) (s : List ℕ) (g h : ℕ) where
  abbrev pub Five : ℕ → Bool
  Five x = marked s h x && bit l (at_of a 5 x)

  pub five-start : Sifts s g (between 1 1) Five s 0
  five-start = sifts-start s g Five (between 1 1) (λ k i. copy-none 1 k)

  pub five-step : (e m w any : ℕ) (u v : List ℕ) → (h ≡ g → ⊥) → 1 ≤ e → e < 4 → Sifts s g (between 1 e) Five u any →
      Mask 24 (λ r. bit l (at_of a 5 (24 * e + r))) m → w ≡ bit_and (word_at u h e) m → Written u g e w v →
      Sifts s g (between 1 (e + 1)) Five v (bit_or any w)
  five-step e m w any u v n o i r f ew b =
      sifts-map s g Five (λ k. between 1 e k || eqb k e) (between 1 (e + 1)) v (bit_or any w) (λ k j. copy-same 1 e k o)
      (sifts-more s g h (λ x. bit l (at_of a 5 x)) (between 1 e) e m w u v n ew b at-rank any (omega arith) f.below r)
    where
      at-rank : (x : ℕ) → held x ≡ true → slot x ≡ e → marked s h x ≡ true → bit m (x % 24) ≡ bit l (at_of a 5 x)
      at-rank x j q y = five-stands-at a l e m x (sym q ∙ (slot-five x j (omega arith)).1) f

-- six nets: the words of two places of the youngest, for those of the next from 1 on before e
pub paired : (e k : ℕ) → Bool
paired e k = leb 5 k && between 1 e ((k - 5) % 5)

pairs-right : (d k : ℕ) → Bool
pairs-right d k = alike ((paired (d + 1) k || eqb k (5 + (d + 1))) || eqb k (10 + (d + 1))) (paired (d + 2) k)

pairs-row : ℕ → Bool
pairs-row d = every (pairs-right d) 15

pairs-all : every pairs-row 3 ≡ true
unfolding pairs-row pairs-right paired between alike every
pairs-all = refl

pair-more : (e k : ℕ) → 1 ≤ e → e < 4 → k < 15 → (paired e k || eqb k (5 + e)) || eqb k (10 + e) ≡ paired (e + 1) k
unfolding pairs-row pairs-right
pair-more e k ho he hk =
    let d : e - 1 + 1 ≡ e = omega arith in
    let c : e - 1 + 2 ≡ e + 1 = omega arith in
    rw (d, c) at
    (alike_same ((paired (e - 1 + 1) k || eqb k (5 + (e - 1 + 1))) || eqb k (10 + (e - 1 + 1))) (paired (e - 1 + 2) k)
    (every-at (pairs-right (e - 1)) 15 (every-at pairs-row 3 pairs-all (e - 1) (omega arith)) k hk))

pair-none : (k : ℕ) → paired 1 k ≡ false
unfolding paired
pair-none k = ap (λ (t : Bool). leb 5 k && t) (copy-none 1 ((k - 5) % 5)) ∙ and_none (leb 5 k)

pair-all : (b k : ℕ) → b ≡ 6 → paired 4 k ≡ slots_of b k
unfolding paired
pair-all b k h = sym (slots-six b k h)

module _ (a : ℕ) (s : List ℕ) (g h : ℕ) where
  abbrev pub Six : ℕ → Bool
  Six x = marked s h x && room_at 3 3 a 6 x

  pub six-start : Sifts s g (paired 1) Six s 0
  six-start = sifts-start s g Six (paired 1) (λ k l. pair-none k)

  pub six-step : (e m x y any : ℕ) (u v w : List ℕ) → (h ≡ g → ⊥) → 1 ≤ e → e < 4 → Sifts s g (paired e) Six u any → InSix a e m →
      x ≡ bit_and (word_at u h (5 + e)) m → Written u g (5 + e) x v → y ≡ bit_and (word_at v h (10 + e)) m → Written v g (10 + e) y w →
      Sifts s g (paired (e + 1)) Six w (bit_or (bit_or any x) y)
  six-step e m x y any u v w n o l r f ex b ey c =
      sifts-map s g Six (λ k. (paired e k || eqb k (5 + e)) || eqb k (10 + e)) (paired (e + 1)) w (bit_or (bit_or any x) y)
      (λ k j. pair-more e k o l j)
      (sifts-more s g h (room_at 3 3 a 6) (λ k. paired e k || eqb k (5 + e)) (10 + e) m y v w n ey c
      (λ z j q d. at-rank z (10 + e) j q (omega arith) (omega arith)) (bit_or any x) (omega arith) f.below
      (sifts-more s g h (room_at 3 3 a 6) (paired e) (5 + e) m x u v n ex b
      (λ z j q d. at-rank z (5 + e) j q (omega arith) (omega arith)) any (omega arith) f.below r))
    where
      at-rank : (z k : ℕ) → held z ≡ true → slot z ≡ k → 5 ≤ k → e ≡ k % 5 → bit m (z % 24) ≡ room_at 3 3 a 6 z
      at-rank z k j q c d =
          let (b, t, i) = slot-six z j (omega arith) in
          six-stands-at a e m z (omega arith) b t f

pub rank-slots : (b r : ℕ) → b ≤ 6 → held r ≡ true → RankOf b r → slots_of b (slot r) ≡ true
rank-slots b r h l m = go (ltb b 5) (eqb b 5) refl refl
  where
    go : (t u : Bool) → ltb b 5 ≡ t → eqb b 5 ≡ u → slots_of b (slot r) ≡ true
    go true u et eu =
        let hb : b < 5 = ltb-true b 5 et in
        let hr : r < 24 = omega (arith, m.below, fact-most b 4 (omega arith), fact-of-four) in
        slots-few b (slot r) hb ∙ eq-eqb (slot r) 0 (slot-few r (omega arith) ∙ omega arith)
    go false true et eu =
        let hb : b ≡ 5 = eqb-true b 5 eu in
        let hr : r < 120 = omega (arith, m.below, ap fact hb, fact-of-five) in
        let (lo, hi) = m.inner (omega arith) in
        let e = slot-few r hr in
        slots-five b (slot r) hb ∙ between_in 1 4 (slot r) (omega arith) (omega arith)
    go false false et eu =
        let hb : b ≡ 6 = omega (arith, ltb-false b 5 et, eqb-false b 5 eu) in
        let (lo, hi) = m.inner (omega arith) in
        let (l', h') = m.middle hb in
        let e = slot-middle r (omega arith) in
        slots-six b (slot r) hb ∙ ap₂ ◌&&◌ (le-leb 5 (slot r) (omega arith)) (between_in 1 4 ((slot r - 5) % 5) (omega arith) (omega arith))

-- a gap that is left empty, where nothing is led to
pub unreached : (t : Stop) (s : List ℕ) (g : ℕ) → Empty s g → ((x : ℕ) → Reached t s g x → ⊥) → Exactly s g (Reached t s g) s
unreached t s g z f =
    record {
      long = refl;
      others = λ y x l n. refl;
      sound = λ x l e. absurd (z x l e);
      full = λ x l r. absurd (f x r);
    }

-- from the ranks of the nets that it finds open the stop leads to the same rank, where that passes the test P, and to no other
pub record Keeps (t : Stop) (P : ℕ → Bool) : Type 0 where
  pub leads : (r : ℕ) → RankOf t.step.count r → P r ≡ true → Leads t r r
  pub only : (r x : ℕ) → RankOf t.step.count r → Leads t r x → (r ≡ x) × (P r ≡ true)

-- an empty gap whose words are made anew with the ranks before it that pass has then what the stop leads to
pub kept-exactly : (t : Stop) (s : List ℕ) (g : ℕ) (P K Q : ℕ → Bool) (u : List ℕ) → t.step.count ≤ capacity → Keeps t P →
    ((x : ℕ) → Q x ≡ source s g x && P x) → ((k : ℕ) → k < slots → slots_of t.step.count k ≡ true → K k ≡ true) → Empty s g → Sources t s g →
    Redone s g K Q u → Exactly s g (Reached t s g) u
kept-exactly t s g P K Q u few keeps same f z o a =
    record {
      long = a.long;
      others = λ y x l n. a.others y x n;
      sound = λ x l e. sound-at x l e (K (slot x)) refl;
      full = λ x l r. full x r;
    }
  where
    sound-at : (x : ℕ) → x < ranks → marked u g x ≡ true → (k : Bool) → K (slot x) ≡ k → Reached t s g x
    sound-at x l e true k =
        let (i, q) = both (source s g x) (P x) (sym (same x) ∙ sym (a.done x (marked-held u g x e) k) ∙ e) in
        record { rank = x; below = (o x i).below; from = i; leads = keeps.leads x (o x i) q }
    sound-at x l e false k = absurd (z x l (sym (a.left x (marked-held u g x e) k) ∙ e))

    full : (x : ℕ) → Reached t s g x → marked u g x ≡ true
    full x r =
        let y : ℕ = r.rank in
        let l : held y ≡ true = source-held s g y r.from in
        let (e, i) = keeps.only y x (o y r.from) r.leads in
        let c : K (slot y) ≡ true = f (slot y) (slot-below y l) (rank-slots t.step.count y few l (o y r.from)) in
        rw (← e) (a.done y l c ∙ same y ∙ ap₂ ◌&&◌ r.from i)

-- a node that touches a net
module _ (t : Stop) (s : List ℕ) (g h : ℕ) (eg : g ≡ suc h) (sound : Sound t) (touches : turn_kind t.step.turn ≡ M) where
  room-leads : (r : ℕ) → roomy t r ≡ true → Leads t r r
  unfolding room_at
  room-leads r e = record { at = at_of (turn_age t.step.turn) t.step.count r; lands = hop-meets t.streets.upper t.streets.lower (turn_kind t.step.turn) (turn_age t.step.turn) t.step.count r (at_of (turn_age t.step.turn) t.step.count r) touches refl e }

  leads-room : (r x : ℕ) → Leads t r x → (r ≡ x) × (roomy t r ≡ true)
  unfolding room_at
  leads-room r x l = hop-met t.streets.upper t.streets.lower (turn_kind t.step.turn) (turn_age t.step.turn) t.step.count r l.at x touches l.lands

  room-sum : (r : ℕ) → t.streets.upper + t.streets.lower < t.step.count → roomy t r ≡ true → ⊥
  unfolding room_at
  room-sum r c e =
      let f : Fits t.streets.upper t.streets.lower (suc (at_of (turn_age t.step.turn) t.step.count r)) t.step.count =
      fits-fits t.streets.upper t.streets.lower (suc (at_of (turn_age t.step.turn) t.step.count r)) t.step.count e in
      omega arith

  -- P tells, of the ranks before the node, where the net has room
  redone-exactly : (P K : ℕ → Bool) (u : List ℕ) → ((x : ℕ) → RankOf t.step.count x → P x ≡ roomy t x) →
      ((k : ℕ) → k < slots → K k ≡ slots_of t.step.count k) → Empty s g → Sources t s g → Redone s g K (λ x. marked s h x && P x) u →
      Exactly s g (Reached t s g) u
  redone-exactly P K u p f =
      kept-exactly t s g P K (λ x. marked s h x && P x) u sound.few keeps
      (λ x. ap (λ (v : Bool). v && P x) (sym (source-gap s g h x eg))) (λ k l e. f k l ∙ e)
    where
      keeps : Keeps t P
      keeps =
          record {
            leads = λ r o e. room-leads r (sym (p r o) ∙ e);
            only = λ r x o l. let (e, i) = leads-room r x l in (e, p r o ∙ i);
          }

  -- at most four nets, five, six
  module _ (z : Empty s g) (o : Sources t s g) where
    among : turn_age t.step.turn < t.step.count
    among = touched-at t sound M touches refl

    pub few-exactly : (l : ℕ) (u : List ℕ) → t.step.count < 5 → Legal t.streets.upper t.streets.lower t.step.count l →
        Redone s g (λ k. false || eqb k 0) (λ x. marked s h x && bit l (at_of (turn_age t.step.turn) t.step.count x)) u → Exactly s g (Reached t s g) u
    few-exactly l u few f a =
        redone-exactly (λ x. bit l (at_of (turn_age t.step.turn) t.step.count x)) (λ k. false || eqb k 0) u
        (λ x r. legal-room t.streets.upper t.streets.lower (turn_age t.step.turn) t.step.count l x f among r.below) (λ k i. sym (slots-few t.step.count k few)) z o a

    pub five-exactly : (l e any : ℕ) (u : List ℕ) → t.step.count ≡ 5 → Legal t.streets.upper t.streets.lower 5 l → 4 ≤ e → e ≤ 4 →
        Sifts s g (between 1 e) (Five (turn_age t.step.turn) l s g h) u any → Exactly s g (Reached t s g) u
    five-exactly l e any u eb f i j a =
        let d : e ≡ 4 = omega arith in
        redone-exactly (λ x. bit l (at_of (turn_age t.step.turn) 5 x)) (between 1 e) u
        (λ x r.
        let b : x < fact 5 = rw eb at r.below in
        legal-room t.streets.upper t.streets.lower (turn_age t.step.turn) 5 l x f (omega (arith, among)) b ∙ ap (λ (n : ℕ). room_at t.streets.upper t.streets.lower (turn_age t.step.turn) n x) (sym eb))
        (λ k m. ap (λ (n : ℕ). between 1 n k) d ∙ sym (slots-five t.step.count k eb)) z o a.redone

    pub six-exactly : (e any : ℕ) (u : List ℕ) → t.step.count ≡ 6 → 6 ≤ t.streets.upper + t.streets.lower → 4 ≤ e → e ≤ 4 →
        Sifts s g (paired e) (Six (turn_age t.step.turn) s g h) u any → Exactly s g (Reached t s g) u
    six-exactly e any u eb sum i j a =
        let d : e ≡ 4 = omega arith in
        let eu : t.streets.upper ≡ 3 = omega (arith, t.streets.upper_few, t.streets.lower_few) in
        let el : t.streets.lower ≡ 3 = omega (arith, t.streets.upper_few, t.streets.lower_few) in
        redone-exactly (room_at 3 3 (turn_age t.step.turn) 6) (paired e) u (λ x r. rw (eu, el, eb))
        (λ k m. ap (λ (n : ℕ). paired n k) d ∙ pair-all t.step.count k eb) z o a.redone

  -- where no order fits nothing is led to
  pub none-exactly : t.streets.upper + t.streets.lower < t.step.count → Empty s g → Exactly s g (Reached t s g) s
  none-exactly c z = unreached t s g z (λ x r. room-sum r.rank c (leads-room r.rank x r.leads).1)
