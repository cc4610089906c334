-- A new net's first place with a marked rank is the least position that leads on: the mark is there by a hop, whose place the rank tells.
use mathlib.Core.Path.{◌≡◌, refl, sym, ap, ◌∙◌}
use mathlib.Core.Bool.{Bool, true, false}
use mathlib.Core.List.{List}
use mathlib.Core.Option.{some}
use Prim.Native.Nat.{ℕ, zero, suc, ◌+◌, ◌*◌, ◌/◌, ◌%◌, ◌≤◌, ◌<◌}
use native.Mathlib.Nat.{suc-mul}
use native.Mathlib.Numerals.{add-one}
use native.Mathlib.Omega.{arith}
use Rattle.rules.specs.Street.{fits}
use Rattle.rules.specs.declared.Kind.TheVariants.{B}
use Rattle.rules.specs.Judgement.{left}
use Rattle.rules.proofs.Fits.{Fits}
use Rattle.steps.specs.Plan.{turn_kind}
use Rattle.steps.specs.declared.plan.Stop.{Stop}
use Rattle.steps.specs.Ranks.{capacity, fact, RankOf}
use Rattle.steps.specs.Sets.{word_at, bit, marked}
use Rattle.steps.specs.Stops.{hop_at, Sound}
use Rattle.steps.specs.Leading.{Led, Onward, Least}
use Rattle.orders.specs.Passes.{Somewhere, Entry}
use Rattle.steps.proofs.Ranks.{fact-most, fact-of-four, rank_lt, rank-digit}
use Rattle.steps.proofs.Slots.{held_below}
use Rattle.steps.proofs.Bits.{not-both, marked-held, last_or}
use Rattle.steps.proofs.Hops.{fits-fits, stop-lands}
use Rattle.steps.proofs.RanksLed.{leads-rank}
use Rattle.steps.proofs.OpeningSteps.{begun, begun-only}
use Rattle.steps.proofs.OpeningBack.{low-mark, fifth-mark, sixth-two}

-- a B, with marks that hops of it made
module _ (t : Stop) (s : List ℕ) (g r : ℕ) (sound : Sound t) (kind : turn_kind t.step.turn ≡ B) (low : r < fact t.step.count)
    (led : (x : ℕ) → marked s g x ≡ true → Led t x) where
  abbrev b : ℕ
  b = t.step.count

  fitting : (p : ℕ) → fits t.streets.upper t.streets.lower (suc p) (suc b) ≡ true → Fits t.streets.upper t.streets.lower (suc p) (suc b)
  fitting p f = fits-fits t.streets.upper t.streets.lower (suc p) (suc b) f

  pub enters-somewhere : Onward t s g r → Somewhere (marked s g) b r
  enters-somewhere o =
      let (f, d) = begun-only t kind r o.leads.at o.next o.leads.lands in
      record { at = o.leads.at; low = omega (arith, (fitting o.leads.at f).high); is = rw d o.kept }

  pub enters-room : Onward t s g r → b < capacity
  enters-room o =
      let (f, d) = begun-only t kind r o.leads.at o.next o.leads.lands in
      omega (arith, (fitting o.leads.at f).sum, t.streets.upper_few, t.streets.lower_few)

  pub enters-ranks : (x : ℕ) → marked s g x ≡ true → RankOf (suc b) x
  unfolding left
  enters-ranks x m =
      let h = led x m in
      rw kind at (leads-rank t sound h.rank x h.of h.leads)

  -- a place that makes a marked rank is legal
  legal : (p x : ℕ) → x ≡ p * fact b + r → marked s g x ≡ true → hop_at t r p ≡ some x
  legal p x e m =
      let h = led x m in
      let (f, d) = begun-only t kind h.rank h.leads.at x h.leads.lands in
      let q : h.leads.at ≡ p =
      sym (rank-digit h.leads.at b h.rank h.of.below) ∙ ap (λ (n : ℕ). n / fact b) (d ∙ e) ∙ rank-digit p b r low in
      let w : fits t.streets.upper t.streets.lower (suc p) (suc b) ≡ true = rw q at f in
      begun t kind r p w ∙ ap some (sym e)

  pub enters : (p x : ℕ) → Entry (marked s g) b r p x → Least t s g r p x
  enters p x e =
      let h = legal p x e.rank e.is in
      let l = stop-lands t r p x sound low h in
      record {
        low = l.0;
        lands = record { lands = h; within = l.1; kept = e.is };
        first = λ q k y m n. not-both (e.first q k) (ap (marked s g) (begun-only t kind r q y m).1 ∙ n);
      }

-- the places below p make no rank of P
pub record Passed (P : ℕ → Bool) (b r p : ℕ) : Type 0 where
  pub low : p ≤ b
  pub first : (q : ℕ) → q < p → P (q * fact b + r) ≡ false

module _ (P : ℕ → Bool) (b r : ℕ) where
  pub passed_start : Passed P b r 0
  passed_start = record { low = omega arith; first = λ q l. absurd (omega arith) }

  module _ (p x : ℕ) (passed : Passed P b r p) (rank : x ≡ p * fact b + r) where
    pub passed-more : p < b → P x ≡ false → Passed P b r (p + 1)
    passed-more l f =
        record {
          low = omega arith;
          first = λ q h. last_or (P (q * fact b + r) ≡ false) q p h (λ e. rw e (ap P (sym rank) ∙ f)) (passed.first q);
        }

    pub passed-found : P x ≡ true → Entry P b r p x
    passed-found e = record { low = passed.low; rank = rank; is = e; first = passed.first }

    -- the last place is left
    pub passed-last : b ≤ p → Somewhere P b r → Entry P b r p x
    passed-last h o = passed-found (ap P rank ∙ last (P (p * fact b + r)) refl)
      where
        last : (v : Bool) → P (p * fact b + r) ≡ v → v ≡ true
        last true e = refl
        last false e =
            absurd (last_or ⊥ o.at p (omega (arith, o.low)) (λ d. not-both e (ap (λ (n : ℕ). P (n * fact b + r)) (sym d) ∙ o.is))
            (λ l. not-both (passed.first o.at l) o.is))

-- the rank that the next place makes
pub next-rank : (b r p x u : ℕ) → x ≡ p * fact b + r → u ≡ fact b → x + u ≡ (p + 1) * fact b + r
next-rank b r p x u e d =
    let m : (p + 1) * fact b ≡ p * fact b + fact b = rw (add-one p) (suc-mul p (fact b)) in
    omega arith

-- at most three others: all ranks are in one word
module _ (b r : ℕ) (few : b < 4) (low : r < fact b) where
  pub few-below : (p : ℕ) → p ≤ b → p * fact b + r < 24
  few-below p h = omega (arith, rank_lt p b r h low, fact-most (suc b) 4 (omega arith), fact-of-four)

  module _ (s : List ℕ) (g w : ℕ) (word : w ≡ word_at s g 0) where
    few-mark : (p : ℕ) → p ≤ b → marked s g (p * fact b + r) ≡ bit w (p * fact b + r)
    few-mark p h = low-mark s g (p * fact b + r) (few-below p h) ∙ ap (λ (v : ℕ). bit v (p * fact b + r)) (sym word)

    pub few-somewhere : Somewhere (marked s g) b r → Somewhere (bit w) b r
    few-somewhere o = record { at = o.at; low = o.low; is = sym (few-mark o.at o.low) ∙ o.is }

    pub few-entry : (p x : ℕ) → Entry (bit w) b r p x → Entry (marked s g) b r p x
    few-entry p x f =
        record {
          low = f.low;
          rank = f.rank;
          is = ap (marked s g) f.rank ∙ few-mark p f.low ∙ ap (bit w) (sym f.rank) ∙ f.is;
          first = λ q l. few-mark q (omega (arith, f.low)) ∙ f.first q l;
        }

-- a fifth net: a word for each place
pub fifth-rank : (p r : ℕ) → 24 * p + r ≡ p * fact 4 + r
unfolding fact
fifth-rank p r = omega arith

pub fifth-read : (s : List ℕ) (g p r w : ℕ) → p < 5 → r < 24 → w ≡ word_at s g p → marked s g (24 * p + r) ≡ bit w r
fifth-read s g p r w h l e =
    ap (marked s g) (omega arith) ∙ fifth-mark s g p r h l ∙ ap (λ (v : ℕ). bit v r) (sym e)

-- a sixth net: places 2 and 3 alone are marked
module _ (s : List ℕ) (g r : ℕ) (low : r < 120) (middle : (x : ℕ) → marked s g x ≡ true → 240 ≤ x) where
  low-places : (q : ℕ) → q < 2 → marked s g (q * 120 + r) ≡ false
  low-places q l = go (marked s g (q * 120 + r)) refl
    where
      go : (v : Bool) → marked s g (q * 120 + r) ≡ v → v ≡ false
      go true e = absurd (omega (arith, middle (q * 120 + r) e))
      go false e = refl

  module _ (w : ℕ) (word : w ≡ word_at s g (5 + r / 24)) where
    third : marked s g (2 * 120 + r) ≡ bit w (r % 24)
    third = sixth-two s g r low ∙ ap (λ (v : ℕ). bit v (r % 24)) (sym word)

    pub sixth-third : bit w (r % 24) ≡ true → Entry (marked s g) 5 r 2 (240 + r)
    unfolding fact
    sixth-third e = record { low = omega arith; rank = omega arith; is = third ∙ e; first = low-places }

    pub sixth-fourth : bit w (r % 24) ≡ false → Somewhere (marked s g) 5 r → Entry (marked s g) 5 r 3 (360 + r)
    unfolding fact
    sixth-fourth e o =
        record {
          low = omega arith;
          rank = omega arith;
          is = there o.at o.is;
          first = λ q l. last_or (marked s g (q * 120 + r) ≡ false) q 2 (omega arith) (λ d. rw d (third ∙ e)) (low-places q);
        }
      where
        there : (q : ℕ) → marked s g (q * 120 + r) ≡ true → marked s g (360 + r) ≡ true
        there zero m = absurd (not-both (low-places 0 (omega arith)) m)
        there (suc zero) m = absurd (not-both (low-places 1 (omega arith)) m)
        there (suc (suc zero)) m = absurd (not-both (third ∙ e) m)
        there (suc (suc (suc zero))) m = m
        there (suc (suc (suc (suc q)))) m =
            absurd (omega (arith, held_below (suc (suc (suc (suc q))) * 120 + r) (marked-held s g (suc (suc (suc (suc q))) * 120 + r) m)))
