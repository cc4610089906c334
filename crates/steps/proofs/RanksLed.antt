-- Where a stop leads to from a rank that hops can lead to: to such a rank again.
use mathlib.Core.Path.{◌≡◌, refl, ap, ◌∙◌}
use mathlib.Core.Option.{some}
use Rattle.std.specs.Prelude.{IsTrue}
use Prim.Native.Nat.{ℕ, zero, suc, ◌+◌, ◌*◌, ◌/◌, ◌%◌, ◌≤◌, ◌<◌}
use native.Mathlib.Decide.{ℕ_discrete}
use native.Mathlib.Omega.{arith}
use Rattle.rules.specs.Street.{fits}
use Rattle.rules.specs.declared.Kind.{Kind}
use Rattle.rules.specs.declared.Kind.TheVariants.{B, M, E, N}
use Rattle.rules.specs.Judgement.{left}
use Rattle.rules.proofs.Fits.{Fits}
use Rattle.steps.specs.declared.plan.Stop.{Stop}
use Rattle.steps.specs.Plan.{turn_kind, turn_age, stays}
use Rattle.steps.specs.Ranks.{capacity, fact, less_of, RankOf, hop_by}
use Rattle.steps.specs.Stops.{Sound}
use Rattle.steps.specs.Leading.{Leads}
use Rattle.steps.proofs.Ranks.{fact-of-four, fact-of-five, less-lt}
use Rattle.steps.proofs.Hops.{kept, fits-fits, hop-still, hop-made, touched-at}
use Rattle.steps.proofs.EndingSix.{leads-first, leads-other}

-- the fifth net has one, two or three of its elders above it
abbrev Inner : ℕ → Type 0
Inner r = (24 ≤ r % 120) × (r % 120 < 96)

-- a net begins, as the fifth or as the sixth
module _ (ku kl a b r p x : ℕ) (hu : ku ≤ 3) (hl : kl ≤ 3) (of : RankOf b r) (e : hop_by ku kl B a b r p ≡ some x) where
  fitted : Fits ku kl (suc p) (suc b)
  unfolding hop_by
  fitted = fits-fits ku kl (suc p) (suc b) (kept (fits ku kl (suc p) (suc b)) (p * fact b + r) x e).0

  made : p * fact b + r ≡ x
  unfolding hop_by
  made = (kept (fits ku kl (suc p) (suc b)) (p * fact b + r) x e).1

  begun-fifth : b ≡ 4 → Inner x
  begun-fifth q =
      let n : fact b ≡ 24 = ap fact q ∙ fact-of-four in
      let y : p * 24 + r ≡ x = rw n at made in
      let l : r < 24 = omega (arith, of.below, n) in
      let lo : 1 ≤ p = omega (arith, fitted.lower) in
      let hi : p ≤ 3 = omega (arith, fitted.upper) in
      (omega arith, omega arith)

  begun-sixth : b ≡ 5 → Inner x × ((240 ≤ x) × (x < 480))
  begun-sixth q =
      let n : fact b ≡ 120 = ap fact q ∙ fact-of-five in
      let y : p * 120 + r ≡ x = rw n at made in
      let l : r < 120 = omega (arith, of.below, n) in
      let lo : 2 ≤ p = omega (arith, fitted.lower) in
      let hi : p ≤ 3 = omega (arith, fitted.upper) in
      let i = of.inner (omega arith) in
      let z : x % 120 ≡ r % 120 = omega arith in
      ((omega arith, omega arith), (omega arith, omega arith))

-- a net ends with six open
ended-six : (t : Stop) → Sound t → turn_kind t.step.turn ≡ E → t.step.count ≡ 6 → (r x : ℕ) → RankOf 6 r → Leads t r x → Inner x
unfolding fact
ended-six t ok ends six r x of m = go (turn_age t.step.turn) refl
  where
    mid : (240 ≤ r) × (r < 480)
    mid = of.middle refl

    v : 120 * (r / 120) + r % 120 ≡ r
    v = omega arith

    m' : Leads t (120 * (r / 120) + r % 120) x
    m' = rw v m

    go : (a : ℕ) → turn_age t.step.turn ≡ a → Inner x
    go zero z =
        let e : r % 120 ≡ x = leads-first t ok ends six (r / 120) (r % 120) (omega (arith, mid.0)) (omega (arith, mid.1)) (omega arith) z x m' in
        let i = of.inner (omega arith) in
        (omega arith, omega arith)
    go (suc c) z =
        let (p, e) = leads-other t ok ends six (r / 120) (r % 120) (omega (arith, mid.0)) (omega (arith, mid.1)) (omega arith) c z x m' in
        let l : less_of c 5 (r % 120) < 24 = less-lt c 5 (r % 120) (omega (arith, touched-at t ok E ends refl)) (omega arith) in
        (omega arith, omega arith)

-- a stop leads from a rank that hops can lead to to another
module _ (t : Stop) (ok : Sound t) (r x : ℕ) (of : RankOf t.step.count r) (m : Leads t r x) where
  at-kind : (k : Kind) → turn_kind t.step.turn ≡ k → hop_by t.streets.upper t.streets.lower k (turn_age t.step.turn) t.step.count r m.at ≡ some x
  at-kind k q = rw (← q) m.lands

  still : (k : Kind) → turn_kind t.step.turn ≡ k → IsTrue (stays k) → r ≡ x
  still k q h = hop-still t.streets.upper t.streets.lower k (turn_age t.step.turn) t.step.count r m.at x h (at-kind k q)

  inner : (k : Kind) → turn_kind t.step.turn ≡ k → 5 ≤ left k t.step.count → Inner x
  unfolding left hop_by
  inner B q h = go (ℕ_discrete t.step.count 4) (ℕ_discrete t.step.count 5)
    where
      go : Dec (t.step.count ≡ 4) → Dec (t.step.count ≡ 5) → Inner x
      go (yes c) d = begun-fifth t.streets.upper t.streets.lower (turn_age t.step.turn) t.step.count r m.at x t.streets.upper_few t.streets.lower_few of (at-kind B q) c
      go (no n) (yes c) = (begun-sixth t.streets.upper t.streets.lower (turn_age t.step.turn) t.step.count r m.at x t.streets.upper_few t.streets.lower_few of (at-kind B q) c).0
      go (no n) (no c) =
          let f = fitted t.streets.upper t.streets.lower (turn_age t.step.turn) t.step.count r m.at x t.streets.upper_few t.streets.lower_few of (at-kind B q) in
          absurd (omega (arith, f.sum, t.streets.upper_few, t.streets.lower_few, ok.few, n, c))
  inner M q h =
      rw (still M q refl) at (of.inner h)
  inner E q h =
      let c : t.step.count ≡ 6 = omega (arith, ok.few) in
      ended-six t ok q c r x (rw c at of) m
  inner N q h = rw (still N q refl) at (of.inner h)

  middle : (k : Kind) → turn_kind t.step.turn ≡ k → left k t.step.count ≡ capacity → (240 ≤ x) × (x < 480)
  unfolding left hop_by
  middle B q h =
      (begun-sixth t.streets.upper t.streets.lower (turn_age t.step.turn) t.step.count r m.at x t.streets.upper_few t.streets.lower_few of (at-kind B q) (omega arith)).1
  middle M q h =
      rw (still M q refl) at (of.middle h)
  middle E q h = absurd (omega (arith, ok.few))
  middle N q h = rw (still N q refl) at (of.middle h)

  pub leads-rank : RankOf (left (turn_kind t.step.turn) t.step.count) x
  leads-rank =
      record {
        below = (hop-made t.streets.upper t.streets.lower (turn_kind t.step.turn) (turn_age t.step.turn) t.step.count r m.at x m.lands).lands ok.touched of.below;
        inner = inner (turn_kind t.step.turn) refl;
        middle = middle (turn_kind t.step.turn) refl;
      }
