-- The sets before and after an ending: what is put into one slot of an empty gap is what the ending leads to, and what is kept leads on.
use mathlib.Core.Path.{◌≡◌, refl, sym, ap, ap₂, ◌∙◌}
use mathlib.Core.Bool.{Bool, true, false, ◌&&◌}
use mathlib.Core.List.{List}
use mathlib.Core.Logic.{◌⊎◌, inl, inr}
use mathlib.Core.Option.{some}
use Prim.Native.Nat.{ℕ, zero, suc, ◌+◌, ◌-◌, ◌*◌, ◌/◌, ◌%◌, ◌≤◌, ◌<◌}
use native.Mathlib.Omega.{arith}
use lib.Bits.{bit_and}
use lib.Dec.{eqb}
use borrow.Author.Tests.{eqb-true, eqb-false, eq-eqb}
use Rattle.rules.specs.declared.Kind.{Kind}
use Rattle.rules.specs.declared.Kind.TheVariants.{E}
use Rattle.rules.specs.Street.{fits}
use Rattle.steps.specs.declared.plan.Stop.{Stop}
use Rattle.steps.specs.Plan.{turn_kind, turn_age}
use Rattle.steps.specs.Ranks.{fact, at_of, less_of, hop_by}
use Rattle.steps.specs.Sets.{ranks, held, slot, word_at, bit, marked, source, Written, Empty, Bare, Exactly, Loses}
use Rattle.steps.specs.Stops.{Sound}
use Rattle.steps.specs.Masks.{Sources}
use Rattle.steps.specs.Leading.{Leads, Reached, Onward}
use Rattle.steps.specs.Four.{Legal, word_before, Gone, comes, Anded}
use Rattle.steps.proofs.Ranks.{at_lt, less-lt, fact-most}
use Rattle.steps.proofs.Slots.{held-few, slot-few, slot_cases, slot-below}
use Rattle.steps.proofs.Words.{bit-and, bit-zero, bit-power, bit-power-other, bit-some}
use Rattle.steps.proofs.Hops.{touched-at, hop-ends, hop-elsewhere, hop-unmet, none-some, same_some}
use Rattle.steps.proofs.Bits.{not-both, marked-bit, marked-held, marked-same}
use Rattle.steps.proofs.FourSets.{and_both, and-true}
use Rattle.steps.proofs.EndingFew.{fact-four}

-- the words before a node tell the ranks before it
pub word_source : (s : List ℕ) (g r : ℕ) → held r ≡ true → source s g r ≡ bit (word_before s g (slot r)) (r % 24)
unfolding source word_before
word_source s (suc g) r h = marked-bit s g r h
word_source s zero r h = go (slot r) refl (eqb r 0) refl
  where
    go : (k : ℕ) → slot r ≡ k → (b : Bool) → eqb r 0 ≡ b → b ≡ bit (word_before s zero k) (r % 24)
    go zero q true e = let d : r % 24 ≡ 0 = omega (arith, eqb-true r 0 e) in sym (ap (bit 1) d ∙ bit-power 0)
    go zero q false e =
        let n : r % 24 ≡ 0 → ⊥ = λ z. first z (slot_cases r h) in
        sym (bit-power-other 0 (r % 24) n)
      where
        first : r % 24 ≡ 0 → ((r < 120) × (slot r ≡ r / 24)) ⊎ ((240 ≤ r) × (r < 480) × (slot r ≡ r / 24 - 5)) → ⊥
        first z (inl c) = eqb-false r 0 e (omega arith)
        first z (inr c) = omega arith
    go (suc k) q true e =
        let d : r ≡ 0 = eqb-true r 0 e in
        absurd (omega (arith, slot-few r (omega arith)))
    go (suc k) q false e = sym (bit-zero (r % 24))

-- a word put into slot k, one of the first five, of a gap that was empty
module _ (s : List ℕ) (g k n : ℕ) (u : List ℕ) (hk : k < 5) (w : Written s g k n u) where
  pub put-elsewhere : (h x : ℕ) → x < ranks → (h ≡ g → ⊥) → marked u h x ≡ marked s h x
  put-elsewhere h x l f =
      marked-same s u h x (λ m. ap (λ (v : ℕ). bit v (x % 24)) (w.others h (slot x) (slot-below x m) (λ e d. f e)))

  put-beside : (x : ℕ) → (slot x ≡ k → ⊥) → marked u g x ≡ marked s g x
  put-beside x f = marked-same s u g x (λ m. ap (λ (v : ℕ). bit v (x % 24)) (w.others g (slot x) (slot-below x m) (λ e d. f d)))

  put-own : (x : ℕ) → held x ≡ true → slot x ≡ k → marked u g x ≡ bit n (x % 24)
  put-own x h e = marked-bit u g x h ∙ ap (λ (v : ℕ). bit v (x % 24)) (ap (word_at u g) e ∙ w.own)

  pub put-sound : Empty s g → (x : ℕ) → x < ranks → marked u g x ≡ true → (x / 24 ≡ k) × (bit n (x % 24) ≡ true)
  put-sound z x l e = go (eqb (slot x) k) refl
    where
      near : slot x ≡ k → ((x < 120) × (slot x ≡ x / 24)) ⊎ ((240 ≤ x) × (x < 480) × (slot x ≡ x / 24 - 5)) → x / 24 ≡ k
      near q (inl c) = omega arith
      near q (inr c) = absurd (omega arith)

      go : (b : Bool) → eqb (slot x) k ≡ b → (x / 24 ≡ k) × (bit n (x % 24) ≡ true)
      go true q =
          let d : slot x ≡ k = eqb-true (slot x) k q in
          let h = marked-held u g x e in
          (near d (slot_cases x h), sym (put-own x h d) ∙ e)
      go false q = absurd (z x l (sym (put-beside x (eqb-false (slot x) k q)) ∙ e))

  pub put_full : (x : ℕ) → x / 24 ≡ k → bit n (x % 24) ≡ true → marked u g x ≡ true
  put_full x q e =
      let l : x < 120 = omega arith in
      put-own x (held-few x l) (slot-few x l ∙ q) ∙ e

  pub put-bare : Empty s g → n < 16777216 → Bare u g (eqb n 0)
  put-bare z l = go (eqb n 0) refl
    where
      go : (b : Bool) → eqb n 0 ≡ b → Bare u g b
      go true q = λ x m e. not-both (bit-zero (x % 24)) (rw (eqb-true n 0 q) at (put-sound z x m e).1)
      go false q =
          let (i, m, e) = bit-some 24 n l (omega (arith, eqb-false n 0 q)) in
          let d : (24 * k + i) % 24 ≡ i = omega arith in
          record { rank = 24 * k + i; within = omega arith; is = put_full (24 * k + i) (omega arith) (rw d e) }

-- what a hop over an ending says
module _ (ku kl : ℕ) (k : Kind) (a b r p x : ℕ) (ek : k ≡ E) where
  pub ends-made : hop_by ku kl k a b r p ≡ some x →
      (p ≡ at_of a b r) × (fits ku kl (suc (at_of a b r)) b ≡ true) × (less_of a b r ≡ x)
  ends-made e = go (eqb p (at_of a b r)) (fits ku kl (suc p) b) refl refl
    where
      go : (c d : Bool) → eqb p (at_of a b r) ≡ c → fits ku kl (suc p) b ≡ d →
          (p ≡ at_of a b r) × (fits ku kl (suc (at_of a b r)) b ≡ true) × (less_of a b r ≡ x)
      go false d q f = none-some (hop-elsewhere ku kl k a b r p (rw ek refl) (eqb-false p (at_of a b r) q)) e
      go true false q f = none-some (hop-unmet ku kl k a b r p (rw ek refl) f) e
      go true true q f =
          let m : p ≡ at_of a b r = eqb-true p (at_of a b r) q in
          (m, rw m at f, same_some (hop-ends ku kl k a b r p ek m f) e)

-- a stop at which a net ends, and where it may stand
module _ (t : Stop) (l : ℕ) (sound : Sound t) (ends : turn_kind t.step.turn ≡ E) (legal : Legal t.streets.upper t.streets.lower t.step.count l) where
  abbrev b : ℕ
  b = t.step.count

  abbrev a : ℕ
  a = (turn_age t.step.turn)

  among : a < b
  among = touched-at t sound E ends refl

  stands : (r : ℕ) → r < fact b → bit l (at_of a b r) ≡ fits t.streets.upper t.streets.lower (suc (at_of a b r)) b
  stands r h = legal.bits (at_of a b r) (at_lt a b r among h)

  pub end-leads : (r x : ℕ) → r < fact b → bit l (at_of a b r) ≡ true → less_of a b r ≡ x → Leads t r x
  end-leads r x h o e =
      record {
        at = at_of a b r;
        lands = hop-ends t.streets.upper t.streets.lower (turn_kind t.step.turn) a b r (at_of a b r) ends refl (sym (stands r h) ∙ o) ∙ ap some e;
      }

  pub leads-end : (r x : ℕ) → r < fact b → Leads t r x → (bit l (at_of a b r) ≡ true) × (less_of a b r ≡ x)
  leads-end r x h m =
      let (p, f, e) = ends-made t.streets.upper t.streets.lower (turn_kind t.step.turn) a b r m.at x ends m.lands in
      (stands r h ∙ f, e)

  left_lt : (r : ℕ) → r < fact b → less_of a b r < fact (b - 1)
  left_lt r h = less-lt a b r among h

-- at most five nets are open: what is left is in slot 0
module _ (t : Stop) (l : ℕ) (sound : Sound t) (ends : turn_kind t.step.turn ≡ E) (legal : Legal t.streets.upper t.streets.lower t.step.count l) (few : t.step.count ≤ 5) where
  below : (r : ℕ) → r < fact t.step.count → less_of (turn_age t.step.turn) t.step.count r < 24
  unfolding fact
  below r h = omega (arith, left_lt t l sound ends legal r h, fact-most (t.step.count - 1) 4 (omega arith))

  pub gone-exactly : (s : List ℕ) (g n : ℕ) (u : List ℕ) → Empty s g → Gone t.step.count (turn_age t.step.turn) l (source s g) n → Written s g 0 n u →
      Exactly s g (Reached t s g) u
  gone-exactly s g n u z o w =
      record {
        long = w.long;
        others = put-elsewhere s g 0 n u (omega arith) w;
        sound = λ x m e. to x (put-sound s g 0 n u (omega arith) w z x m e);
        full = λ x m p. from x p;
      }
    where
      to : (x : ℕ) → (x / 24 ≡ 0) × (bit n (x % 24) ≡ true) → Reached t s g x
      to x (q, e) =
          let d : x % 24 ≡ x = omega arith in
          let f = o.sound x (rw d at e) in
          record {
            rank = f.rank;
            below = f.below;
            from = f.within;
            leads = end-leads t l sound ends legal f.rank x f.below f.stands f.left;
          }

      from : (x : ℕ) → Reached t s g x → marked u g x ≡ true
      from x p =
          let (i, e) = leads-end t l sound ends legal p.rank x p.below p.leads in
          let m : x < 24 = rw e at (below p.rank p.below) in
          let d : x % 24 ≡ x = omega arith in
          put_full s g 0 n u (omega arith) w x (omega arith) (rw (d, ← e) (o.full p.rank p.below p.from i))

-- the mark of a rank of at most four nets
pub first_slot : (s : List ℕ) (g y : ℕ) → y < 24 → marked s g y ≡ bit (word_at s g 0) y
first_slot s g y m =
    let d : y % 24 ≡ y = omega arith in
    let q : slot y ≡ 0 = slot-few y (omega arith) ∙ omega arith in
    marked-bit s g y (held-few y (omega arith)) ∙ ap₂ (λ (k i : ℕ). bit (word_at s g k) i) q d

-- one word alone
pub written-anded : (s : List ℕ) (g k m : ℕ) (u : List ℕ) → Written s g k (bit_and (word_at s g k) m) u → Anded s g (λ j. m) (λ j. eqb j k) u
written-anded s g k m u w =
    record {
      long = w.long;
      others = λ h j l f. w.others h j l (λ e d. f e (eq-eqb j k d));
      own = λ j i. rw (eqb-true j k i) w.own;
    }

-- marks whose words are cut down
module _ (s : List ℕ) (g : ℕ) (m : ℕ → ℕ) (K : ℕ → Bool) (u : List ℕ) (c : Anded s g m K u) where
  anded-elsewhere : (h x : ℕ) → x < ranks → (h ≡ g → ⊥) → marked u h x ≡ marked s h x
  anded-elsewhere h x l f =
      marked-same s u h x (λ d. ap (λ (v : ℕ). bit v (x % 24)) (c.others h (slot x) (slot-below x d) (λ e i. f e)))

  anded-bit : (x : ℕ) → held x ≡ true → K (slot x) ≡ true → marked u g x ≡ marked s g x && bit (m (slot x)) (x % 24)
  anded-bit x h i =
      marked-bit u g x h ∙ ap (λ (v : ℕ). bit v (x % 24)) (c.own (slot x) i) ∙ bit-and (word_at s g (slot x)) (m (slot x)) (x % 24) ∙
      ap (λ (v : Bool). v && bit (m (slot x)) (x % 24)) (sym (marked-bit s g x h))

  anded-own : (x : ℕ) → marked s g x ≡ true → K (slot x) ≡ true → marked u g x ≡ bit (m (slot x)) (x % 24)
  anded-own x e i = anded-bit x (marked-held s g x e) i ∙ ap (λ (v : Bool). v && bit (m (slot x)) (x % 24)) e

  anded-was : (x : ℕ) → marked u g x ≡ true → marked s g x ≡ true
  anded-was x e = go (K (slot x)) refl
    where
      go : (p : Bool) → K (slot x) ≡ p → marked s g x ≡ true
      go true q = (and_both (marked s g x) (bit (m (slot x)) (x % 24)) (sym (anded-bit x (marked-held u g x e) q) ∙ e)).0
      go false q =
          sym (marked-same s u g x (λ d. ap (λ (v : ℕ). bit v (x % 24)) (c.others g (slot x) (slot-below x d) (λ z i. not-both q i)))) ∙ e

  -- the marks that are left are those of P
  pub anded-loses : (P : ℕ → Type 0) → ((x : ℕ) → x < ranks → marked s g x ≡ true → K (slot x) ≡ true) →
      ((x : ℕ) → x < ranks → marked s g x ≡ true → bit (m (slot x)) (x % 24) ≡ true → P x) →
      ((x : ℕ) → x < ranks → marked s g x ≡ true → P x → bit (m (slot x)) (x % 24) ≡ true) → Loses s g P u
  anded-loses P here to-P of-P =
      record {
        long = c.long;
        others = anded-elsewhere;
        was = λ x d e. anded-was x e;
        sound = λ x d e. let w = anded-was x e in to-P x d w (sym (own x d w) ∙ e);
        full = λ x d e o. own x d e ∙ of-P x d e o;
      }
    where
      own : (x : ℕ) → x < ranks → marked s g x ≡ true → marked u g x ≡ bit (m (slot x)) (x % 24)
      own x d e = anded-own x e (here x d e)

-- at most five nets are open: a rank leads on exactly where it leaves one of the next gap's slot 0
module _ (t : Stop) (l : ℕ) (sound : Sound t) (ends : turn_kind t.step.turn ≡ E) (legal : Legal t.streets.upper t.streets.lower t.step.count l) (few : t.step.count ≤ 5)
    (s : List ℕ) (g : ℕ) where
  abbrev passes : ℕ → Bool
  passes x = comes t.step.count (turn_age t.step.turn) l (word_at s (suc g) 0) x

  comes-onward : (x : ℕ) → x < fact t.step.count → passes x ≡ true → Onward t s (suc g) x
  comes-onward x h e =
      let (i, o) = and_both (bit l (at_of (turn_age t.step.turn) t.step.count x)) (bit (word_at s (suc g) 0) (less_of (turn_age t.step.turn) t.step.count x)) e in
      let m : less_of (turn_age t.step.turn) t.step.count x < 24 = below t l sound ends legal few x h in
      record {
        next = less_of (turn_age t.step.turn) t.step.count x;
        within = omega arith;
        leads = end-leads t l sound ends legal x (less_of (turn_age t.step.turn) t.step.count x) h i refl;
        kept = first_slot s (suc g) (less_of (turn_age t.step.turn) t.step.count x) m ∙ o;
      }

  onward-comes : (x : ℕ) → x < fact t.step.count → Onward t s (suc g) x → passes x ≡ true
  onward-comes x h o =
      let (i, e) = leads-end t l sound ends legal x o.next h o.leads in
      let m : o.next < 24 = rw e at (below t l sound ends legal few x h) in
      and-true (bit l (at_of (turn_age t.step.turn) t.step.count x)) (bit (word_at s (suc g) 0) (less_of (turn_age t.step.turn) t.step.count x)) i
      (rw e (sym (first_slot s (suc g) o.next m) ∙ o.kept))

  pub comes-loses : (m : ℕ → ℕ) (K : ℕ → Bool) (u : List ℕ) → ((x : ℕ) → x < ranks → marked s g x ≡ true → x < fact t.step.count) →
      ((x : ℕ) → x < ranks → marked s g x ≡ true → (K (slot x) ≡ true) × (bit (m (slot x)) (x % 24) ≡ passes x)) →
      Anded s g m K u → Loses s g (Onward t s (suc g)) u
  comes-loses m K u f k c =
      anded-loses s g m K u c (Onward t s (suc g)) (λ x d e. (k x d e).0) (λ x d e p. comes-onward x (f x d e) (sym (k x d e).1 ∙ p))
      (λ x d e o. (k x d e).1 ∙ onward-comes x (f x d e) o)

-- the same of a set that is told by other tests
pub gone_same : (b a l : ℕ) (P Q : ℕ → Bool) (n : ℕ) → ((r : ℕ) → r < fact b → P r ≡ Q r) → Gone b a l P n → Gone b a l Q n
gone_same b a l P Q n f o =
    record {
      below = o.below;
      sound = λ x e.
          let c = o.sound x e in
          record { rank = c.rank; below = c.below; within = sym (f c.rank c.below) ∙ c.within; stands = c.stands; left = c.left };
      full = λ r h i. o.full r h (f r h ∙ i);
    }

-- the ranks before a node are of the nets that are open there
pub marks-below : (t : Stop) (s : List ℕ) (g : ℕ) → Sources t s (suc g) → (x : ℕ) → x < ranks → marked s g x ≡ true → x < fact t.step.count
unfolding source
marks-below t s g f x l e = (f x e).below

-- the word of at most four nets before a node
module _ (s : List ℕ) (g b : ℕ) (hb : b ≤ 4) where
  before-few : (r : ℕ) → r < 24 → bit (word_before s g 0) r ≡ source s g r
  before-few r h =
      let d : r % 24 ≡ r = omega arith in
      let q : slot r ≡ 0 = slot-few r (omega arith) ∙ omega arith in
      sym (word_source s g r (held-few r (omega arith)) ∙ ap₂ (λ (k i : ℕ). bit (word_before s g k) i) q d)

  pub few-below : (w : ℕ) → w ≡ word_before s g 0 → ((x : ℕ) → x < ranks → source s g x ≡ true → x < fact b) → (r : ℕ) → r < 24 →
      bit w r ≡ true → r < fact b
  few-below w q f r h e = f r (omega arith) (sym (before-few r h) ∙ rw q at e)

  pub few-source : (a l w n : ℕ) → w ≡ word_before s g 0 → Gone b a l (bit w) n → Gone b a l (source s g) n
  few-source a l w n q o =
      gone_same b a l (bit w) (source s g) n (λ r h. rw q (before-few r (omega (arith, fact-four b hb)))) o

-- the gap after a gap, as the code counts
pub next_word : (s : List ℕ) (g k n : ℕ) → n ≡ word_at s (g + 1) k → n ≡ word_at s (suc g) k
next_word s g k n e =
    let d : g + 1 ≡ suc g = omega arith in
    rw d at e

-- back over an ending of at most four
pub few-loses : (t : Stop) (l : ℕ) → Sound t → turn_kind t.step.turn ≡ E → Legal t.streets.upper t.streets.lower t.step.count l → t.step.count ≤ 4 → (s : List ℕ) (g : ℕ) →
    ((x : ℕ) → x < ranks → marked s g x ≡ true → x < fact t.step.count) → (n z : ℕ) → n ≡ word_at s (suc g) 0 →
    ((r : ℕ) → r < fact t.step.count → bit z r ≡ comes t.step.count (turn_age t.step.turn) l n r) → (u : List ℕ) →
    Written s g 0 (bit_and (word_at s g 0) z) u → Loses s g (Onward t s (suc g)) u
few-loses t l d ends legal few s g f n z q k u w =
    comes-loses t l d ends legal (omega arith) s g (λ j. z) (λ j. eqb j 0) u f
    (λ x b i.
    let h = f x b i in
    let m : x < 24 = omega (arith, fact-four t.step.count few) in
    let v : x % 24 ≡ x = omega arith in
    let e = slot-few x (omega arith) in
    (eq-eqb (slot x) 0 (omega arith), rw (v, ← q) (k x h))) (written-anded s g 0 z u w)

-- the word before a node as the code reads it
pub before-gap : (s : List ℕ) (g h k w : ℕ) → g ≡ suc h → w ≡ word_at s h k → w ≡ word_before s g k
unfolding word_before
before-gap s g h k w e q = rw e q

pub before-first : (s : List ℕ) (g k : ℕ) → g ≡ 0 → k ≡ 0 → 1 ≡ word_before s g k
unfolding word_before
before-first s g k e d = rw (e, d)

pub before-other : (s : List ℕ) (g k : ℕ) → g ≡ 0 → (k ≡ 0 → ⊥) → 0 ≡ word_before s g k
unfolding word_before
before-other s g zero e f = absurd (f refl)
before-other s g (suc k) e f = rw e
