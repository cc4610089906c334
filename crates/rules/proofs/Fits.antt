-- The test fits passes exactly where document 01's inequalities hold; limits names the first of the three that is broken, and the sum at one p of one b only.
use mathlib.Core.Path.{◌≡◌, refl}
use mathlib.Core.Logic.{◌↔◌}
use mathlib.Core.Bool.{Bool, true, false, ◌&&◌}
use Prim.Native.Nat.{ℕ, suc, ◌+◌, ◌-◌, ◌≤◌, ◌<◌}
use lib.Dec.{T, leb, ltb}
use borrow.Author.Tests.{ltb-true, ltb-false, leb-true, lt-ltb, le-ltb, le-leb}
use native.Mathlib.Omega.{arith}
use Rattle.std.specs.declared.option.Option.TheVariants.{None, Some}
use Rattle.rules.specs.Limits.{Broken}
use Rattle.rules.specs.declared.Limit.TheVariants.{Upper, Lower, Sum}
use Rattle.rules.specs.Basic.{pick}
use Rattle.rules.specs.declared.Kind.{Kind}
use Rattle.rules.specs.declared.Kind.TheVariants.{B, M, E, N}
use Rattle.rules.specs.Street.{limits, blank_limits, met, fits, last, limits_at, fits_at, counted}

-- a node leaves no net out of its count
pub counted-le : (k : Kind) (b : ℕ) → b ≤ counted k b
unfolding counted
counted-le B b = omega arith
counted-le M b = omega arith
counted-le E b = omega arith
counted-le N b = omega arith

-- p is a position of b, and the three limits hold there
pub record Fits (ku kl p b : ℕ) : Type 0 where
  pub low : 1 ≤ p
  pub high : p ≤ b
  pub upper : p - 1 ≤ ku
  pub lower : b - p ≤ kl
  pub sum : b ≤ ku + kl

module _ (ku kl p b : ℕ) where
  pub limits-upper : ku < p - 1 → limits ku kl p b ≡ Some Upper
  unfolding limits pick
  limits-upper h = rw (lt-ltb ku (p - 1) h)

  pub limits-lower : p - 1 ≤ ku → kl < b - p → limits ku kl p b ≡ Some Lower
  unfolding limits pick
  limits-lower h₁ h₂ = rw (le-ltb ku (p - 1) h₁, lt-ltb kl (b - p) h₂)

  pub limits-sum : p - 1 ≤ ku → b - p ≤ kl → ku + kl < b → limits ku kl p b ≡ Some Sum
  unfolding limits pick
  limits-sum h₁ h₂ h₃ = rw (le-ltb ku (p - 1) h₁, le-ltb kl (b - p) h₂, lt-ltb (ku + kl) b h₃)

  pub within-met : p - 1 ≤ ku → b - p ≤ kl → b ≤ ku + kl → limits ku kl p b ≡ None
  unfolding limits pick
  within-met h₁ h₂ h₃ = rw (le-ltb ku (p - 1) h₁, le-ltb kl (b - p) h₂, le-ltb (ku + kl) b h₃)

  test-within : T (met (limits ku kl p b)) → (p - 1 ≤ ku) × (b - p ≤ kl) × (b ≤ ku + kl)
  unfolding limits pick met
  test-within t = go (ltb ku (p - 1)) (ltb kl (b - p)) (ltb (ku + kl) b) refl refl refl t
    where
      go : (u l s : Bool) → ltb ku (p - 1) ≡ u → ltb kl (b - p) ≡ l → ltb (ku + kl) b ≡ s →
          T (met (pick u (Some Upper) (pick l (Some Lower) (pick s (Some Sum) None)))) → (p - 1 ≤ ku) × (b - p ≤ kl) × (b ≤ ku + kl)
      go true l s eu el es t = absurd t
      go false true s eu el es t = absurd t
      go false false true eu el es t = absurd t
      go false false false eu el es t = omega (arith, ltb-false)

  pub met-within : limits ku kl p b ≡ None → (p - 1 ≤ ku) × (b - p ≤ kl) × (b ≤ ku + kl)
  unfolding met
  met-within e = test-within (rw e tt)

  pub limits-met : limits ku kl p b ≡ None ↔ ((p - 1 ≤ ku) × (b - p ≤ kl) × (b ≤ ku + kl))
  limits-met = (met-within, λ h. within-met h.0 h.1 h.2)

  -- where the upper and the lower limit hold, the sum is broken at one p of one b only
  pub sum-broken : p - 1 ≤ ku → b - p ≤ kl → ku + kl < b → (p ≡ suc ku) × (b ≡ suc (ku + kl))
  sum-broken h₁ h₂ h₃ = (omega arith, omega arith)

  -- so that limits names it there and nowhere else
  pub limits-sum-at : limits ku kl p b ≡ Some Sum ↔ ((p ≡ suc ku) × (b ≡ suc (ku + kl)))
  unfolding limits pick
  limits-sum-at =
      (λ e. go (ltb ku (p - 1)) (ltb kl (b - p)) (ltb (ku + kl) b) refl refl refl e, λ h. limits-sum (omega (arith, h)) (omega (arith, h)) (omega (arith, h)))
    where
      go : (u l s : Bool) → ltb ku (p - 1) ≡ u → ltb kl (b - p) ≡ l → ltb (ku + kl) b ≡ s →
          pick u (Some Upper) (pick l (Some Lower) (pick s (Some Sum) None)) ≡ Some Sum → (p ≡ suc ku) × (b ≡ suc (ku + kl))
      go true l s eu el es e = let z : ◌≡◌ {A = ℕ} 0 1 = cc in absurd (omega arith)
      go false true s eu el es e = let z : ◌≡◌ {A = ℕ} 0 1 = cc in absurd (omega arith)
      go false false false eu el es e = let z : ◌≡◌ {A = ℕ} 0 1 = cc in absurd (omega arith)
      go false false true eu el es e =
          sum-broken (omega (arith, ltb-false)) (omega (arith, ltb-false)) (omega (arith, ltb-true))

  pub fits→ : T (fits ku kl p b) → Fits ku kl p b
  unfolding fits
  fits→ t = go (leb 1 p) (leb p b) refl refl t
    where
      go : (l h : Bool) → leb 1 p ≡ l → leb p b ≡ h → T (l && h && met (limits ku kl p b)) → Fits ku kl p b
      go true true el eh t = omega (arith, leb-true, test-within t)
      go true false el eh t = absurd t
      go false h el eh t = absurd t

  pub →fits : Fits ku kl p b → T (fits ku kl p b)
  unfolding fits met
  →fits f = rw (le-leb 1 p f.low, le-leb p b f.high, within-met f.upper f.lower f.sum) tt

-- at a pin with no net of its own, s of b nets above it and b − s below, each within its street: b is then within both, and the sum is no limit there
pub split-within : {ku kl s b : ℕ} → s ≤ ku → b - s ≤ kl → b ≤ ku + kl
split-within h g = omega arith

-- the limits at a blank with s wires above
module _ (ku kl s b : ℕ) where
  pub blank-upper : ku < s → blank_limits ku kl s b ≡ Some Upper
  unfolding blank_limits pick
  blank-upper h = rw (lt-ltb ku s h)

  pub blank-lower : s ≤ ku → kl < b - s → blank_limits ku kl s b ≡ Some Lower
  unfolding blank_limits pick
  blank-lower h₁ h₂ = rw (le-ltb ku s h₁, lt-ltb kl (b - s) h₂)

  pub blank-met : s ≤ ku → b - s ≤ kl → blank_limits ku kl s b ≡ None
  unfolding blank_limits pick
  blank-met h₁ h₂ = rw (le-ltb ku s h₁, le-ltb kl (b - s) h₂)

  pub met-blank : blank_limits ku kl s b ≡ None → (s ≤ ku) × (b - s ≤ kl)
  unfolding blank_limits pick
  met-blank e = go (ltb ku s) (ltb kl (b - s)) refl refl e
    where
      go : (u l : Bool) → ltb ku s ≡ u → ltb kl (b - s) ≡ l → pick u (Some Upper) (pick l (Some Lower) None) ≡ None → (s ≤ ku) × (b - s ≤ kl)
      go true l eu el e = let z : ◌≡◌ {A = ℕ} 0 1 = cc in absurd (omega arith)
      go false true eu el e = let z : ◌≡◌ {A = ℕ} 0 1 = cc in absurd (omega arith)
      go false false eu el e = omega (arith, ltb-false)

-- p is a position at a node of kind k with b open nets, and the limits hold there; at each kind they come to these
pub record FitsAt (k : Kind) (ku kl p b : ℕ) : Type 0 where
  pub low : 1 ≤ p
  pub high : p ≤ last k b
  pub upper : p - 1 ≤ ku
  pub lower : last k b - p ≤ kl
  pub sum : b ≤ ku + kl

module _ (ku kl p b : ℕ) where
  pub met_at : (k : Kind) → 1 ≤ p → limits_at k ku kl p b ≡ None → (p - 1 ≤ ku) × (last k b - p ≤ kl) × (b ≤ ku + kl)
  unfolding limits_at last
  met_at B l e = met-within ku kl p b e
  met_at M l e = met-within ku kl p b e
  met_at E l e = met-within ku kl p b e
  met_at N l e = omega (arith, met-blank ku kl (p - 1) b e)

  pub at-met : (k : Kind) → FitsAt k ku kl p b → limits_at k ku kl p b ≡ None
  unfolding limits_at last
  at-met B f = within-met ku kl p b f.upper f.lower f.sum
  at-met M f = within-met ku kl p b f.upper f.lower f.sum
  at-met E f = within-met ku kl p b f.upper f.lower f.sum
  at-met N f = blank-met ku kl (p - 1) b f.upper (omega (arith, f.low, f.lower))

  pub fits_at→ : (k : Kind) → T (fits_at k ku kl p b) → FitsAt k ku kl p b
  unfolding fits_at met
  fits_at→ k t = go (leb 1 p) (leb p (last k b)) (limits_at k ku kl p b) refl refl refl t
    where
      go : (l h : Bool) (m : Broken) → leb 1 p ≡ l → leb p (last k b) ≡ h → limits_at k ku kl p b ≡ m → T (l && h && met m) → FitsAt k ku kl p b
      go true true None el eh em t = omega (arith, leb-true, met_at k (leb-true 1 p el) em)
      go true true (Some Upper) el eh em t = absurd t
      go true true (Some Lower) el eh em t = absurd t
      go true true (Some Sum) el eh em t = absurd t
      go true false m el eh em t = absurd t
      go false h m el eh em t = absurd t

  pub →fits_at : (k : Kind) → FitsAt k ku kl p b → T (fits_at k ku kl p b)
  unfolding fits_at met
  →fits_at k f = rw (le-leb 1 p f.low, le-leb p (last k b) f.high, at-met k f) tt

-- at a node with a wire of its own these are the limits of a wire
abbrev pub Wired : Kind → Type 0
Wired B = Unit {0}
Wired M = Unit {0}
Wired E = Unit {0}
Wired N = ⊥

pub wired-fits : {ku kl p b : ℕ} (k : Kind) → Wired k → FitsAt k ku kl p b → Fits ku kl p b
unfolding last
wired-fits B w f = record { low = f.low; high = f.high; upper = f.upper; lower = f.lower; sum = f.sum }
wired-fits M w f = record { low = f.low; high = f.high; upper = f.upper; lower = f.lower; sum = f.sum }
wired-fits E w f = record { low = f.low; high = f.high; upper = f.upper; lower = f.lower; sum = f.sum }
wired-fits N w f = absurd w

pub fits-wired : {ku kl p b : ℕ} (k : Kind) → Wired k → Fits ku kl p b → FitsAt k ku kl p b
unfolding last
fits-wired B w f = record { low = f.low; high = f.high; upper = f.upper; lower = f.lower; sum = f.sum }
fits-wired M w f = record { low = f.low; high = f.high; upper = f.upper; lower = f.lower; sum = f.sum }
fits-wired E w f = record { low = f.low; high = f.high; upper = f.upper; lower = f.lower; sum = f.sum }
fits-wired N w f = absurd w
