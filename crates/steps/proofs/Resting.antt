-- Words copied where a node leaves every order as it is: from before a blank, and back from after a blank or a touched net.
use mathlib.Core.Path.{◌≡◌, refl, sym, ap, ap₂, ◌∙◌}
use mathlib.Core.Bool.{Bool, true, false, ◌&&◌, ◌||◌}
use mathlib.Core.List.{List}
use Prim.Native.Nat.{ℕ, zero, suc, ◌+◌, ◌-◌, ◌%◌, ◌≤◌, ◌<◌}
use native.Mathlib.Omega.{arith}
use lib.Bits.{bit_or}
use lib.Dec.{leb, eqb}
use borrow.Author.Tests.{eqb-true, leb-true, eq-eqb}
use Rattle.std.specs.Prelude.{IsTrue}
use Rattle.steps.specs.Plan.{turn_kind, turn_age, stays}
use Rattle.rules.specs.declared.Kind.TheVariants.{N}
use Rattle.rules.specs.Basic.{every}
use Rattle.rules.proofs.Choices.{lowest-fits}
use Rattle.rules.proofs.PinsTest.{every-at}
use Rattle.steps.specs.declared.plan.Stop.{Stop}
use Rattle.steps.specs.Sets.{ranks, slots, held, slot, word_at, bit, marked, source, Written, Empty, Exactly, Loses}
use Rattle.steps.specs.Stops.{Sound}
use Rattle.steps.specs.Leading.{Leads, Onward, Reached}
use Rattle.steps.specs.Masks.{between, slots_of, Sources, Redone}
use Rattle.steps.specs.Opening.{Before}
use Rattle.steps.proofs.Masks.{same_test, between_in, between-out, alike, alike_same}
use Rattle.steps.proofs.Bits.{not-both, marked-bit, marked-held, source-gap}
use Rattle.steps.proofs.Hops.{both, hop-rests, hop-rested, hop-still}
use Rattle.steps.proofs.Touching.{Sifts, Keeps, redone-start, redone-map, redone-more, sifts-start, sifts-map, sifts-word}
use Rattle.steps.proofs.Touching.{slots-few, slots-five, slots-six, copy-same, copy-none, rank-slots, unreached, kept-exactly}

-- words copied from before
module _ (s : List ℕ) (g from : ℕ) where
  pub on-start : Sifts s g (between from from) (source s g) s 0
  on-start = sifts-start s g (source s g) (between from from) (λ k l. copy-none from k)

  source-same : (g x : ℕ) (K Q : ℕ → Bool) (u : List ℕ) → Redone s g K Q u → source u g x ≡ source s g x
  unfolding source
  source-same zero x K Q u r = refl
  source-same (suc h) x K Q u r = r.others h x (λ e. omega arith)

  pub on_step : (k w any : ℕ) (u v : List ℕ) → from ≤ k → k < slots → Sifts s g (between from k) (source s g) u any → Before u g k w →
      Written u g k w v → Sifts s g (between from (k + 1)) (source s g) v (bit_or any w)
  on_step k w any u v l m a b c =
      sifts-map s g (source s g) (λ j. between from k j || eqb j k) (between from (k + 1)) v (bit_or any w) (λ j i. copy-same from k j l)
      (sifts-word s g (source s g) (between from k) k w any u v m b.small c
      (λ x i e. b.told x i e ∙ source-same g x (between from k) (source s g) u a.redone) a)

  pub on-end : (k to any : ℕ) (u : List ℕ) → to ≤ k → k ≤ to → Sifts s g (between from k) (source s g) u any →
      Redone s g (between from to) (source s g) u
  on-end k to any u l m a =
      let e : k ≡ to = omega arith in
      rw e at a.redone

-- words copied from the gap after
module _ (s : List ℕ) (g from : ℕ) where
  abbrev After : ℕ → Bool
  After x = marked s (suc g) x

  pub copy_start : Redone s g (between from from) After s
  copy_start = redone-map s g After (λ k. false) (between from from) s (λ k l. sym (copy-none from k)) (redone-start s g After)

  pub copy_step : (h k w : ℕ) (u v : List ℕ) → h ≡ suc g → from ≤ k → w ≡ word_at u h k → Redone s g (between from k) After u →
      Written u g k w v → Redone s g (between from (k + 1)) After v
  copy_step h k w u v eh l ew r b =
      redone-map s g After (λ j. between from k j || eqb j k) (between from (k + 1)) v (λ j i. copy-same from k j l)
      (redone-more s g After (between from k) k w u v r b own)
    where
      own : (x : ℕ) → held x ≡ true → slot x ≡ k → bit w (x % 24) ≡ marked s (suc g) x
      own x i e =
          ap (λ (d : ℕ). bit d (x % 24)) (ew ∙ ap₂ (word_at u) eh (sym e)) ∙ sym (marked-bit u (suc g) x i) ∙
          r.others (suc g) x (λ q. omega arith)

  pub copy-end : (k to : ℕ) (u : List ℕ) → to ≤ k → k ≤ to → Redone s g (between from k) After u → Redone s g (between from to) After u
  copy-end k to u l m r =
      let e : k ≡ to = omega arith in
      rw e at r

-- the words of b nets, as bounds
module _ (b k : ℕ) where
  between-few : b < 5 → between 0 1 k ≡ slots_of b k
  between-few h = same_test (between 0 1 k) (eqb k 0)
      (λ e. eq-eqb k 0 (omega (arith, (between-out 0 1 k e).1))) (λ e. between_in 0 1 k (omega arith) (omega (arith, eqb-true k 0 e))) ∙
      sym (slots-few b k h)

-- a blank
module _ (t : Stop) (s : List ℕ) (g : ℕ) (rests : turn_kind t.step.turn ≡ N) where
  -- it is passed where the streets have tracks for the open nets
  rest-keeps : t.step.count ≤ t.streets.upper + t.streets.lower → Keeps t (λ r. true)
  rest-keeps h =
      record {
        leads = λ r o e. record {
          at = t.step.count - t.streets.lower;
          lands = hop-rests t.streets.upper t.streets.lower (turn_kind t.step.turn) (turn_age t.step.turn) t.step.count r (t.step.count - t.streets.lower) rests (lowest-fits t.streets.upper t.streets.lower t.step.count h);
        };
        only = λ r x o l. (hop-still t.streets.upper t.streets.lower (turn_kind t.step.turn) (turn_age t.step.turn) t.step.count r l.at x (rw rests refl) l.lands, refl);
      }

  pub rest-none : t.streets.upper + t.streets.lower < t.step.count → Empty s g → Exactly s g (Reached t s g) s
  rest-none h z =
      unreached t s g z
      (λ x r. omega (arith, h, (hop-rested t.streets.upper t.streets.lower (turn_kind t.step.turn) (turn_age t.step.turn) t.step.count r.rank r.leads.at x rests r.leads.lands).sum))

  -- at most four nets, five, six
  module _ (u : List ℕ) (sound : Sound t) (within : t.step.count ≤ t.streets.upper + t.streets.lower) (z : Empty s g) (o : Sources t s g) where
    copied_on : (K : ℕ → Bool) → ((k : ℕ) → k < slots → slots_of t.step.count k ≡ true → K k ≡ true) → Redone s g K (source s g) u →
        Exactly s g (Reached t s g) u
    copied_on K f = kept-exactly t s g (λ r. true) K (source s g) u sound.few (rest-keeps within) (λ x. passed (source s g x)) f z o
      where
        passed : (v : Bool) → v ≡ v && true
        passed true = refl
        passed false = refl

    pub rest-few : t.step.count < 5 → Redone s g (between 0 1) (source s g) u → Exactly s g (Reached t s g) u
    rest-few h = copied_on (between 0 1) (λ k l e. between-few t.step.count k h ∙ e)

    pub rest-five : t.step.count ≡ 5 → Redone s g (between 1 4) (source s g) u → Exactly s g (Reached t s g) u
    rest-five h = copied_on (between 1 4) (λ k l e. sym (slots-five t.step.count k h) ∙ e)

    pub rest-six : t.step.count ≡ 6 → Redone s g (between 6 14) (source s g) u → Exactly s g (Reached t s g) u
    rest-six h = copied_on (between 6 14) inside
      where
        inside : (k : ℕ) → k < slots → slots_of t.step.count k ≡ true → between 6 14 k ≡ true
        inside k l e =
            let (m, n) = both (leb 5 k) (between 1 4 ((k - 5) % 5)) (sym (slots-six t.step.count k h) ∙ e) in
            let lo : 5 ≤ k = leb-true 5 k m in
            let (p, q) = between-out 1 4 ((k - 5) % 5) n in
            between_in 6 14 k (omega arith) (omega arith)

-- of six nets, the words of both places of the youngest
copies : ℕ → Bool
copies k = between 6 9 k || between 11 14 k

copies-right : ℕ → Bool
copies-right k = alike (copies k) (leb 5 k && between 1 4 ((k - 5) % 5))

copies-all : every copies-right 15 ≡ true
unfolding copies-right copies between alike every
copies-all = refl

copies-six : (b k : ℕ) → b ≡ 6 → k < slots → copies k ≡ slots_of b k
unfolding copies-right
copies-six b k h l =
    alike_same (copies k) (leb 5 k && between 1 4 ((k - 5) % 5)) (every-at copies-right 15 copies-all k l) ∙ sym (slots-six b k h)

-- words made anew in two turns
redone-join : (s : List ℕ) (g : ℕ) (K L Q P : ℕ → Bool) (u v : List ℕ) → ((x : ℕ) → P x ≡ Q x) → Redone s g K Q u → Redone u g L P v →
    Redone s g (λ k. K k || L k) Q v
redone-join s g K L Q P u v same a b =
    record {
      long = b.long ∙ a.long;
      others = λ h x n. b.others h x n ∙ a.others h x n;
      done = λ x h e. done x h (L (slot x)) refl e;
      left = λ x h e. let (p, q) = or-none (K (slot x)) (L (slot x)) e in b.left x h q ∙ a.left x h p;
    }
  where
    or-none : (k l : Bool) → k || l ≡ false → (k ≡ false) × (l ≡ false)
    or-none false l e = (refl, e)
    or-none true l e = absurd (not-both e refl)

    first_of : (k : Bool) → k || false ≡ true → k ≡ true
    first_of true e = refl
    first_of false e = e

    done : (x : ℕ) → held x ≡ true → (l : Bool) → L (slot x) ≡ l → K (slot x) || l ≡ true → marked v g x ≡ Q x
    done x h true q e = b.done x h q ∙ same x
    done x h false q e = b.left x h q ∙ a.done x h (first_of (K (slot x)) e)

-- where no net begins or ends the ranks that are marked after the node are those that lead on
module _ (t : Stop) (s : List ℕ) (g : ℕ) (u : List ℕ) (sound : Sound t) (still-open : IsTrue (stays (turn_kind t.step.turn))) (o : Sources t s (suc g))
    (reached : (x : ℕ) → marked s (suc g) x ≡ true → Reached t s (suc g) x) where
  still : (r x : ℕ) → Leads t r x → r ≡ x
  still r x l = hop-still t.streets.upper t.streets.lower (turn_kind t.step.turn) (turn_age t.step.turn) t.step.count r l.at x still-open l.lands

  -- a mark after the node is one before it, and the node leads from it to itself
  after-before : (x : ℕ) → marked s (suc g) x ≡ true → (marked s g x ≡ true) × Leads t x x
  after-before x m =
      let r = reached x m in
      let e : r.rank ≡ x = still r.rank x r.leads in
      let q : marked s g r.rank ≡ true = sym (source-gap s (suc g) g r.rank refl) ∙ r.from in
      ((rw e at q), (rw e at r.leads))

  pub copied-loses : Redone s g (slots_of t.step.count) (λ x. marked s (suc g) x) u → Loses s g (Onward t s (suc g)) u
  copied-loses a =
      record {
        long = a.long;
        others = λ y x l n. a.others y x n;
        was = λ x l e. was x e (slots_of t.step.count (slot x)) refl;
        sound = λ x l e. onward x l (kept x e (slots_of t.step.count (slot x)) refl);
        full = λ x l e p. full x e p;
      }
    where
      mine : (x : ℕ) → marked s g x ≡ true → slots_of t.step.count (slot x) ≡ true
      mine x m = rank-slots t.step.count x sound.few (marked-held s g x m) (o x (source-gap s (suc g) g x refl ∙ m))

      kept : (x : ℕ) → marked u g x ≡ true → (k : Bool) → slots_of t.step.count (slot x) ≡ k → marked s (suc g) x ≡ true
      kept x e true k = sym (a.done x (marked-held u g x e) k) ∙ e
      kept x e false k = absurd (not-both k (mine x (sym (a.left x (marked-held u g x e) k) ∙ e)))

      was : (x : ℕ) → marked u g x ≡ true → (k : Bool) → slots_of t.step.count (slot x) ≡ k → marked s g x ≡ true
      was x e k q = (after-before x (kept x e k q)).0

      onward : (x : ℕ) → x < ranks → marked s (suc g) x ≡ true → Onward t s (suc g) x
      onward x l m = record { next = x; within = l; leads = (after-before x m).1; kept = m }

      full : (x : ℕ) → marked s g x ≡ true → Onward t s (suc g) x → marked u g x ≡ true
      full x m p =
          let e : x ≡ p.next = still x p.next p.leads in
          let n : marked s (suc g) x ≡ true = rw e p.kept in
          a.done x (marked-held s g x m) (mine x m) ∙ n

  pub copied-few : t.step.count < 5 → Redone s g (between 0 1) (λ x. marked s (suc g) x) u → Loses s g (Onward t s (suc g)) u
  copied-few h r =
      copied-loses (redone-map s g (λ x. marked s (suc g) x) (between 0 1) (slots_of t.step.count) u (λ k l. between-few t.step.count k h) r)

  pub copied-five : t.step.count ≡ 5 → Redone s g (between 1 4) (λ x. marked s (suc g) x) u → Loses s g (Onward t s (suc g)) u
  copied-five h r =
      copied-loses (redone-map s g (λ x. marked s (suc g) x) (between 1 4) (slots_of t.step.count) u (λ k l. sym (slots-five t.step.count k h)) r)

  pub copied-six : t.step.count ≡ 6 → (w : List ℕ) → Redone s g (between 6 9) (λ x. marked s (suc g) x) w →
      Redone w g (between 11 14) (λ x. marked w (suc g) x) u → Loses s g (Onward t s (suc g)) u
  unfolding copies
  copied-six h w a b =
      copied-loses (redone-map s g (λ x. marked s (suc g) x) copies (slots_of t.step.count) u (λ k l. copies-six t.step.count k h l)
      (redone-join s g (between 6 9) (between 11 14) (λ x. marked s (suc g) x) (λ x. marked w (suc g) x) w u
      (λ x. a.others (suc g) x (λ e. omega arith)) a b))
