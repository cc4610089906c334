-- An ending with six nets open, between two streets of three: the youngest and the net that ends, if it is another, are the two in the middle.
use mathlib.Core.Path.{◌≡◌, refl, sym, ap, ap₂, ◌∙◌}
use mathlib.Core.Bool.{Bool, true, false, ◌||◌}
use mathlib.Core.List.{List}
use mathlib.Core.Logic.{◌⊎◌, inl, inr}
use mathlib.Core.Option.{some}
use Prim.Native.Nat.{ℕ, zero, suc, ◌+◌, ◌*◌, ◌/◌, ◌%◌, ◌≤◌, ◌<◌}
use native.Mathlib.Omega.{arith}
use lib.Bits.{bit_or}
use lib.Dec.{eqb, leb}
use borrow.Author.Tests.{eqb-true, eqb-false, ne_eqb, leb-true, leb-false}
use Rattle.rules.specs.declared.Kind.TheVariants.{E}
use Rattle.rules.specs.Basic.{pick}
use Rattle.rules.specs.Street.{fits}
use Rattle.rules.proofs.Fits.{Fits}
use Rattle.steps.specs.Plan.{turn_kind, turn_age}
use Rattle.steps.specs.declared.plan.Stop.{Stop}
use Rattle.steps.specs.declared.end.Five.{Five}
use Rattle.steps.specs.Ranks.{fact, under, spared, at_of, less_of}
use Rattle.steps.specs.Sets.{slot, word_at, bit, marked, source}
use Rattle.steps.specs.Stops.{Sound}
use Rattle.steps.specs.Masks.{Sources}
use Rattle.steps.specs.Leading.{Leads, Reached, Onward}
use Rattle.steps.specs.Four.{word_before, Gone, comes, nth, within, SixLeft, SixBack, Inside}
use Rattle.steps.proofs.Ranks.{at-youngest, less-youngest, at-older, less-older, less-lt, under-above, under-below, spared-above, spared-below}
use Rattle.steps.proofs.Slots.{held-few, held-middle, slot-few, slot-middle}
use Rattle.steps.proofs.Words.{bit-or, bit-zero, bit-power, bit-power-other}
use Rattle.steps.proofs.Hops.{touched-at, fits-fits, fitting, hop-ends}
use Rattle.steps.proofs.Bits.{not-both, marked-bit}
use Rattle.steps.proofs.FourSets.{either, or-first, or-second, and_both, and-true}
use Rattle.steps.proofs.EndingSets.{word_source, ends-made}
use Rattle.steps.proofs.EndingFive.{nth-inner}

-- the two places in the middle
module _ (ku kl : ℕ) (hu : ku ≤ 3) (hl : kl ≤ 3) (p : ℕ) where
  pub fits-middle : 6 ≤ ku + kl → 2 ≤ p → p ≤ 3 → fits ku kl (suc p) 6 ≡ true
  fits-middle h a b =
      fitting ku kl (suc p) 6 (record { low = omega arith; high = omega arith; upper = omega arith; lower = omega arith; sum = h })

  pub middle-fits : fits ku kl (suc p) 6 ≡ true → (2 ≤ p) × (p ≤ 3) × (6 ≤ ku + kl)
  middle-fits e =
      let f : Fits ku kl (suc p) 6 = fits-fits ku kl (suc p) 6 e in
      (omega arith, omega arith, omega arith)

-- the rank of six with the youngest at q and the others at rank x
module _ (q x : ℕ) (hx : x < 120) where
  abbrev rank : ℕ
  rank = 120 * q + x

  quot : rank / 120 ≡ q
  quot = omega arith

  rest : rank % 120 ≡ x
  rest = omega arith

  pub at_first : at_of 0 6 rank ≡ q
  unfolding fact
  at_first = sym (at-youngest 0 6 5 rank 120 refl refl refl) ∙ quot

  less-first : less_of 0 6 rank ≡ x
  unfolding fact
  less-first = sym (less-youngest 0 6 5 rank 120 refl refl refl) ∙ rest

  pub at_other : (c : ℕ) → at_of (suc c) 6 rank ≡ under q (at_of c 5 x)
  unfolding fact
  at_other c =
      sym (at-older (suc c) 6 c 5 rank 120 (at_of c 5 (rank % 120)) refl refl refl refl) ∙
      ap₂ (λ (d r : ℕ). under d (at_of c 5 r)) quot rest

  less_other : (c : ℕ) → less_of (suc c) 6 rank ≡ spared q (at_of c 5 x) * 24 + less_of c 5 x
  unfolding fact
  less_other c =
      sym (less-older (suc c) 6 c 5 rank 120 (at_of c 5 (rank % 120)) refl refl refl refl (less_of c 5 (rank % 120)) refl) ∙
      ap₂ (λ (d r : ℕ). spared d (at_of c 5 r) * 24 + less_of c 5 r) quot rest

-- with the youngest in the middle another net stands there exactly if it is third of the five, and the youngest is then left as third
module _ (q : ℕ) (h₂ : 2 ≤ q) (h₄ : q < 4) where
  pub third : (p : ℕ) → 2 ≤ under q p → under q p ≤ 3 → p ≡ 2
  third p a b = go (leb q p) refl
    where
      go : (t : Bool) → leb q p ≡ t → p ≡ 2
      go true e = omega (arith, under-above q p (leb-true q p e), leb-true q p e)
      go false e = omega (arith, under-below q p (leb-false q p e), leb-false q p e)

  pub third-under : (2 ≤ under q 2) × (under q 2 ≤ 3)
  third-under = go (leb q 2) refl
    where
      go : (t : Bool) → leb q 2 ≡ t → (2 ≤ under q 2) × (under q 2 ≤ 3)
      go true e = let d = under-above q 2 (leb-true q 2 e) in (omega arith, omega arith)
      go false e = let d = under-below q 2 (leb-false q 2 e) in (omega arith, omega arith)

  third-spared : spared q 2 ≡ 2
  third-spared = go (leb q 2) refl
    where
      go : (t : Bool) → leb q 2 ≡ t → spared q 2 ≡ 2
      go true e = omega (arith, spared-above q 2 (leb-true q 2 e), leb-true q 2 e)
      go false e = omega (arith, spared-below q 2 (leb-false q 2 e), leb-false q 2 e)

-- the set of place 2 alone
pub only_third : (p : ℕ) → bit 4 p ≡ true → p ≡ 2
only_third p e = go (eqb p 2) refl
  where
    go : (t : Bool) → eqb p 2 ≡ t → p ≡ 2
    go true q = eqb-true p 2 q
    go false q = absurd (not-both (bit-power-other 2 p (eqb-false p 2 q)) e)

pub third-only : (p : ℕ) → p ≡ 2 → bit 4 p ≡ true
third-only p e = rw e (bit-power 2)

pub third-inside : Inside 4
third-inside = record { top = bit-power-other 2 0 (λ e. omega arith); below = omega arith }

-- a stop with six nets open at which one ends
module _ (t : Stop) (ok : Sound t) (ends : turn_kind t.step.turn ≡ E) (six : t.step.count ≡ 6) where
  six-leads : (r x : ℕ) → 6 ≤ t.streets.upper + t.streets.lower → 2 ≤ at_of (turn_age t.step.turn) 6 r → at_of (turn_age t.step.turn) 6 r ≤ 3 → less_of (turn_age t.step.turn) 6 r ≡ x → Leads t r x
  six-leads r x h a b e =
      let f : fits t.streets.upper t.streets.lower (suc (at_of (turn_age t.step.turn) 6 r)) 6 ≡ true =
      fits-middle t.streets.upper t.streets.lower t.streets.upper_few t.streets.lower_few (at_of (turn_age t.step.turn) 6 r) h a b in
      record {
        at = at_of (turn_age t.step.turn) t.step.count r;
        lands = hop-ends t.streets.upper t.streets.lower (turn_kind t.step.turn) (turn_age t.step.turn) t.step.count r (at_of (turn_age t.step.turn) t.step.count r) ends refl (rw six f) ∙
            ap some (rw six e);
      }

  leads-six : (r x : ℕ) → Leads t r x →
      (2 ≤ at_of (turn_age t.step.turn) 6 r) × (at_of (turn_age t.step.turn) 6 r ≤ 3) × (6 ≤ t.streets.upper + t.streets.lower) × (less_of (turn_age t.step.turn) 6 r ≡ x)
  leads-six r x m =
      let (p, f, e) = ends-made t.streets.upper t.streets.lower (turn_kind t.step.turn) (turn_age t.step.turn) t.step.count r m.at x ends m.lands in
      let (a, b, h) = middle-fits t.streets.upper t.streets.lower t.streets.upper_few t.streets.lower_few (at_of (turn_age t.step.turn) 6 r) (rw six at f) in
      (a, b, h, rw six at e)

  -- the youngest ends
  module _ (q x : ℕ) (h₂ : 2 ≤ q) (h₄ : q < 4) (hx : x < 120) where
    first-leads : turn_age t.step.turn ≡ 0 → 6 ≤ t.streets.upper + t.streets.lower → Leads t (120 * q + x) x
    first-leads e h =
        let d = at_first q x hx in
        six-leads (120 * q + x) x h (rw e (omega arith)) (rw e (omega arith)) (rw e (less-first q x hx))

    pub leads-first : turn_age t.step.turn ≡ 0 → (y : ℕ) → Leads t (120 * q + x) y → x ≡ y
    leads-first e y m =
        let (a, b, h, d) = leads-six (120 * q + x) y m in
        sym (less-first q x hx) ∙ rw e at d

    -- another ends
    other-leads : (c : ℕ) → turn_age t.step.turn ≡ suc c → 6 ≤ t.streets.upper + t.streets.lower → at_of c 5 x ≡ 2 → Leads t (120 * q + x) (48 + less_of c 5 x)
    other-leads c e h p =
        let u : at_of (suc c) 6 (120 * q + x) ≡ under q 2 = at_other q x hx c ∙ ap (under q) p in
        let s : spared q (at_of c 5 x) ≡ 2 = ap (spared q) p ∙ third-spared q h₂ h₄ in
        let v = third-under q h₂ h₄ in
        six-leads (120 * q + x) (48 + less_of c 5 x) h (rw e (omega arith)) (rw e (omega arith)) (rw e (less_other q x hx c ∙ omega arith))

    pub leads-other : (c : ℕ) → turn_age t.step.turn ≡ suc c → (y : ℕ) → Leads t (120 * q + x) y → (at_of c 5 x ≡ 2) × (48 + less_of c 5 x ≡ y)
    leads-other c e y m =
        let (a, b, h, d) = leads-six (120 * q + x) y m in
        let u = at_other q x hx c in
        let a' : 2 ≤ at_of (suc c) 6 (120 * q + x) = rw e at a in
        let b' : at_of (suc c) 6 (120 * q + x) ≤ 3 = rw e at b in
        let p : at_of c 5 x ≡ 2 = third q h₂ h₄ (at_of c 5 x) (omega arith) (omega arith) in
        let s : spared q (at_of c 5 x) ≡ 2 = ap (spared q) p ∙ third-spared q h₂ h₄ in
        let z : less_of (suc c) 6 (120 * q + x) ≡ y = rw e at d in
        (p, omega (arith, less_other q x hx c))

-- the words before a node that finds six nets open
module _ (s : List ℕ) (g : ℕ) where
  source-two : (x : ℕ) → x < 120 → source s g (240 + x) ≡ bit (word_before s g (5 + x / 24)) (x % 24)
  source-two x h =
      let v : slot (240 + x) ≡ 5 + x / 24 = slot-middle (240 + x) (omega arith) ∙ omega arith in
      let d : (240 + x) % 24 ≡ x % 24 = omega arith in
      word_source s g (240 + x) (held-middle (240 + x) (omega arith) (omega arith)) ∙ ap₂ (λ (k i : ℕ). bit (word_before s g k) i) v d

  source-three : (x : ℕ) → x < 120 → source s g (360 + x) ≡ bit (word_before s g (10 + x / 24)) (x % 24)
  source-three x h =
      let v : slot (360 + x) ≡ 10 + x / 24 = slot-middle (360 + x) (omega arith) ∙ omega arith in
      let d : (360 + x) % 24 ≡ x % 24 = omega arith in
      word_source s g (360 + x) (held-middle (360 + x) (omega arith) (omega arith)) ∙ ap₂ (λ (k i : ℕ). bit (word_before s g k) i) v d

  module _ (f : Five) (words : (j : ℕ) → 1 ≤ j → j < 4 → nth f j ≡ bit_or (word_before s g (5 + j)) (word_before s g (10 + j))) where
    within-either : (x : ℕ) → 24 ≤ x → x < 96 → within f x ≡ source s g (240 + x) || source s g (360 + x)
    within-either x o h =
        ap (λ (v : ℕ). bit v (x % 24)) (words (x / 24) (omega arith) (omega arith)) ∙
        bit-or (word_before s g (5 + x / 24)) (word_before s g (10 + x / 24)) (x % 24) ∙
        ap₂ ◌||◌ (sym (source-two x (omega arith))) (sym (source-three x (omega arith)))

    within-source : (x : ℕ) → x < 120 → within f x ≡ true → (q : ℕ) × (2 ≤ q) × (q < 4) × (source s g (120 * q + x) ≡ true)
    within-source x h e =
        let (a, b) = nth-inner f (x / 24) (x % 24) e in
        go (either (source s g (240 + x)) (source s g (360 + x)) (sym (within-either x (omega arith) (omega arith)) ∙ e))
      where
        go : (source s g (240 + x) ≡ true) ⊎ (source s g (360 + x) ≡ true) →
            (q : ℕ) × (2 ≤ q) × (q < 4) × (source s g (120 * q + x) ≡ true)
        go (inl i) = (2, omega arith, omega arith, i)
        go (inr i) = (3, omega arith, omega arith, i)

    source-within : (q x : ℕ) → 2 ≤ q → q < 4 → 24 ≤ x → x < 96 → source s g (120 * q + x) ≡ true → within f x ≡ true
    source-within q x a b o h e = within-either x o h ∙ go (eqb q 2) refl
      where
        go : (t : Bool) → eqb q 2 ≡ t → source s g (240 + x) || source s g (360 + x) ≡ true
        go true d =
            let v : 120 * q + x ≡ 240 + x = omega (arith, eqb-true q 2 d) in
            or-first (source s g (240 + x)) (source s g (360 + x)) (rw v at e)
        go false d =
            let v : 120 * q + x ≡ 360 + x = omega (arith, eqb-false q 2 d) in
            or-second (source s g (240 + x)) (source s g (360 + x)) (rw v at e)

-- a rank before the node, as the youngest's place and the rank of the others
module _ (t : Stop) (six : t.step.count ≡ 6) (s : List ℕ) (g : ℕ) (from : Sources t s g) (r : ℕ) (e : source s g r ≡ true) where
  pub source-inner : (24 ≤ r % 120) × (r % 120 < 96)
  source-inner = (from r e).inner (omega arith)

  pub source-split : (2 ≤ r / 120) × (r / 120 < 4) × (r % 120 < 120) × (120 * (r / 120) + r % 120 ≡ r)
  source-split =
      let (a, b) = (from r e).middle six in
      (omega arith, omega arith, omega arith, omega arith)

-- orders that all have the youngest third
abbrev pub Third : Five → ℕ → Type 0
Third f n = (k : ℕ) → nth f k ≡ pick (eqb k 2) n 0

module _ (f : Five) (n : ℕ) (alone : Third f n) where
  third-sound : (x : ℕ) → within f x ≡ true → (x / 24 ≡ 2) × (bit n (x % 24) ≡ true)
  unfolding pick
  third-sound x e = go (eqb (x / 24) 2) refl (sym (ap (λ (v : ℕ). bit v (x % 24)) (alone (x / 24))) ∙ e)
    where
      go : (t : Bool) → eqb (x / 24) 2 ≡ t → bit (pick t n 0) (x % 24) ≡ true → (x / 24 ≡ 2) × (bit n (x % 24) ≡ true)
      go true q d = (eqb-true (x / 24) 2 q, d)
      go false q d = absurd (not-both (bit-zero (x % 24)) d)

  third-full : (y : ℕ) → y < 24 → bit n y ≡ true → within f (48 + y) ≡ true
  unfolding pick
  third-full y h e =
      let d : (48 + y) % 24 ≡ y = omega arith in
      let q : (48 + y) / 24 ≡ 2 = omega arith in
      ap₂ (λ (k i : ℕ). bit (nth f k) i) q d ∙ ap (λ (v : ℕ). bit v y) (alone 2) ∙ e

pub no-orders : (f : Five) (x : ℕ) → Third f 0 → within f x ≡ true → ⊥
no-orders f x a e = not-both (bit-zero (x % 24)) (third-sound f 0 a x e).1

less-four : (c x : ℕ) → c < 5 → x < 120 → less_of c 5 x < 24
unfolding fact
less-four c x h l = less-lt c 5 x h l

-- forward: no place is legal, the youngest ends, another ends
module _ (t : Stop) (ok : Sound t) (ends : turn_kind t.step.turn ≡ E) (six : t.step.count ≡ 6) (s : List ℕ) (g : ℕ) where
  pub none_left : (f : Five) → t.streets.upper + t.streets.lower < 6 → Third f 0 → SixLeft t s g f
  none_left f h a =
      record {
        sound = λ x l e. absurd (no-orders f x a e);
        full = λ x p. let (i, j, k, d) = leads-six t ok ends six p.rank x p.leads in absurd (omega arith);
      }

  module _ (from : Sources t s g) (room : 6 ≤ t.streets.upper + t.streets.lower) (f : Five)
      (words : (j : ℕ) → 1 ≤ j → j < 4 → nth f j ≡ bit_or (word_before s g (5 + j)) (word_before s g (10 + j))) where
    reached : (q x y : ℕ) → 2 ≤ q → q < 4 → x < 120 → source s g (120 * q + x) ≡ true → Leads t (120 * q + x) y → Reached t s g y
    unfolding fact
    reached q x y a b h e m = record { rank = 120 * q + x; below = rw six (omega arith); from = e; leads = m }

    pub first-left : turn_age t.step.turn ≡ 0 → SixLeft t s g f
    first-left z = record { sound = sound; full = full }
      where
        sound : (x : ℕ) → x < 120 → within f x ≡ true → Reached t s g x
        sound x h e =
            let (q, a, b, d) = within-source s g f words x h e in
            reached q x x a b h d (first-leads t ok ends six q x a b h z room)

        full : (x : ℕ) → Reached t s g x → (x < 120) × (within f x ≡ true)
        full x p =
            let r : ℕ = p.rank in
            let (a, b, h, v) = source-split t six s g from r p.from in
            let d : source s g (120 * (r / 120) + r % 120) ≡ true = rw v p.from in
            let m : Leads t (120 * (r / 120) + r % 120) x = rw v p.leads in
            let (lo, hi) = source-inner t six s g from r p.from in
            let e : r % 120 ≡ x = leads-first t ok ends six (r / 120) (r % 120) a b h z x m in
            (rw e at h, rw e at (source-within s g f words (r / 120) (r % 120) a b lo hi d))

    pub other-left : (c n : ℕ) (k : Five) → turn_age t.step.turn ≡ suc c → Gone 5 c 4 (within f) n → Third k n → SixLeft t s g k
    unfolding fact
    other-left c n k z o alone = record { sound = sound; full = full }
      where
        small : c < 5
        small = omega (arith, touched-at t ok E ends refl)

        sound : (x : ℕ) → x < 120 → within k x ≡ true → Reached t s g x
        sound x h e =
            let (i, d) = third-sound k n alone x e in
            let w = o.sound (x % 24) d in
            let (q, a, b, y) = within-source s g f words w.rank w.below w.within in
            let v : 48 + less_of c 5 w.rank ≡ x = omega (arith, w.left) in
            let p = only_third (at_of c 5 w.rank) w.stands in
            reached q w.rank x a b w.below y (rw v at (other-leads t ok ends six q w.rank a b w.below c z room p))

        full : (x : ℕ) → Reached t s g x → (x < 120) × (within k x ≡ true)
        full x p =
            let r : ℕ = p.rank in
            let (a, b, h, v) = source-split t six s g from r p.from in
            let d : source s g (120 * (r / 120) + r % 120) ≡ true = rw v p.from in
            let m : Leads t (120 * (r / 120) + r % 120) x = rw v p.leads in
            let (i, e) = leads-other t ok ends six (r / 120) (r % 120) a b h c z x m in
            let l = less-four c (r % 120) small h in
            let (lo, hi) = source-inner t six s g from r p.from in
            let w = source-within s g f words (r / 120) (r % 120) a b lo hi d in
            let y = o.full (r % 120) h w (third-only (at_of c 5 (r % 120)) i) in
            (omega arith, rw e at (third-full k n alone (less_of c 5 (r % 120)) l y))

-- back: the same three
module _ (t : Stop) (ok : Sound t) (ends : turn_kind t.step.turn ≡ E) (six : t.step.count ≡ 6) (s : List ℕ) (g : ℕ) where
  pub none-back : (f : Five) → t.streets.upper + t.streets.lower < 6 → Third f 0 → SixBack t s g f
  none-back f h a =
      record {
        sound = λ q x i j k l e. absurd (no-orders f x a e);
        full = λ q x i j n l o. let (u, v, k, d) = leads-six t ok ends six (120 * q + x) o.next o.leads in absurd (omega arith);
      }

  mark-few : (k y x : ℕ) → k < 5 → y < 24 → x ≡ 24 * k + y → marked s (suc g) x ≡ bit (word_at s (suc g) k) y
  mark-few k y x hk hy e =
      let l : x < 120 = omega arith in
      let v : slot x ≡ k = slot-few x l ∙ omega arith in
      let d : x % 24 ≡ y = omega arith in
      marked-bit s (suc g) x (held-few x l) ∙ ap₂ (λ (j i : ℕ). bit (word_at s (suc g) j) i) v d

  module _ (room : 6 ≤ t.streets.upper + t.streets.lower) (f : Five) where
    pub first_back : turn_age t.step.turn ≡ 0 → ((j : ℕ) → 1 ≤ j → j < 4 → nth f j ≡ word_at s (suc g) j) → SixBack t s g f
    first_back z words = record { sound = sound; full = full }
      where
        same : (x : ℕ) → 24 ≤ x → x < 96 → within f x ≡ marked s (suc g) x
        same x l h =
            ap (λ (v : ℕ). bit v (x % 24)) (words (x / 24) (omega arith) (omega arith)) ∙
            sym (mark-few (x / 24) (x % 24) x (omega arith) (omega arith) (omega arith))

        sound : (q x : ℕ) → 2 ≤ q → q < 4 → 24 ≤ x → x < 96 → within f x ≡ true → Onward t s (suc g) (120 * q + x)
        sound q x a b l h e =
            record { next = x; within = omega arith; leads = first-leads t ok ends six q x a b (omega arith) z room; kept = sym (same x l h) ∙ e }

        full : (q x : ℕ) → 2 ≤ q → q < 4 → 24 ≤ x → x < 96 → Onward t s (suc g) (120 * q + x) → within f x ≡ true
        full q x a b l h o =
            let e : x ≡ o.next = leads-first t ok ends six q x a b (omega arith) z o.next o.leads in
            same x l h ∙ rw e o.kept

    pub other-back : (c n : ℕ) → turn_age t.step.turn ≡ suc c → n ≡ word_at s (suc g) 2 → ((x : ℕ) → 24 ≤ x → x < 96 → within f x ≡ comes 5 c 4 n x) →
        SixBack t s g f
    other-back c n z w same = record { sound = sound; full = full }
      where
        small : c < 5
        small = omega (arith, touched-at t ok E ends refl)

        mark : (x : ℕ) → x < 120 → marked s (suc g) (48 + less_of c 5 x) ≡ bit n (less_of c 5 x)
        mark x h = rw w (mark-few 2 (less_of c 5 x) (48 + less_of c 5 x) (omega arith) (less-four c x small h) (omega arith))

        sound : (q x : ℕ) → 2 ≤ q → q < 4 → 24 ≤ x → x < 96 → within f x ≡ true → Onward t s (suc g) (120 * q + x)
        sound q x a b u v e =
            let h : x < 120 = omega arith in
            let (i, d) = and_both (bit 4 (at_of c 5 x)) (bit n (less_of c 5 x)) (sym (same x u v) ∙ e) in
            let l = less-four c x small h in
            record {
              next = 48 + less_of c 5 x;
              within = omega arith;
              leads = other-leads t ok ends six q x a b h c z room (only_third (at_of c 5 x) i);
              kept = mark x h ∙ d;
            }

        full : (q x : ℕ) → 2 ≤ q → q < 4 → 24 ≤ x → x < 96 → Onward t s (suc g) (120 * q + x) → within f x ≡ true
        full q x a b u v o =
            let h : x < 120 = omega arith in
            let (p, e) = leads-other t ok ends six q x a b h c z o.next o.leads in
            let d : marked s (suc g) (48 + less_of c 5 x) ≡ true = rw e o.kept in
            same x u v ∙ and-true (bit 4 (at_of c 5 x)) (bit n (less_of c 5 x)) (third-only (at_of c 5 x) p) (sym (mark x h) ∙ d)

-- the words that the code makes
pub third-words : (n k : ℕ) → nth (record { second = 0; third = n; fourth = 0 }) k ≡ pick (eqb k 2) n 0
unfolding nth pick
third-words n zero = refl
third-words n (suc zero) = refl
third-words n (suc (suc zero)) = refl
third-words n (suc (suc (suc zero))) = refl
third-words n (suc (suc (suc (suc k)))) = rw (ne_eqb (suc (suc (suc (suc k)))) 2 (λ e. omega arith))

pub either-words : (x y : Five) (k : ℕ) →
    nth (record { second = bit_or x.second y.second; third = bit_or x.third y.third; fourth = bit_or x.fourth y.fourth }) k ≡
    bit_or (nth x k) (nth y k)
unfolding nth
either-words x y zero = refl
either-words x y (suc zero) = refl
either-words x y (suc (suc zero)) = refl
either-words x y (suc (suc (suc zero))) = refl
either-words x y (suc (suc (suc (suc k)))) = refl

pub joined_words : (s : List ℕ) (g : ℕ) (x y f : Five) → ((k : ℕ) → nth f k ≡ bit_or (nth x k) (nth y k)) →
    ((j : ℕ) → 1 ≤ j → j < 4 → nth x j ≡ word_before s g (5 + j)) → ((j : ℕ) → 1 ≤ j → j < 4 → nth y j ≡ word_before s g (10 + j)) → (j : ℕ) →
    1 ≤ j → j < 4 → nth f j ≡ bit_or (word_before s g (5 + j)) (word_before s g (10 + j))
joined_words s g x y f e a b j l h = e j ∙ ap₂ bit_or (a j l h) (b j l h)

pub next-words : (s : List ℕ) (g : ℕ) (f : Five) → ((j : ℕ) → 1 ≤ j → j < 4 → nth f j ≡ word_before s (g + 2) (0 + j)) → (j : ℕ) → 1 ≤ j → j < 4 →
    nth f j ≡ word_at s (suc g) j
unfolding word_before
next-words s g f h j o l =
    let d : g + 2 ≡ suc (suc g) = omega arith in
    let k : 0 + j ≡ j = omega arith in
    h j o l ∙ ap₂ (λ (a b : ℕ). word_before s a b) d k
