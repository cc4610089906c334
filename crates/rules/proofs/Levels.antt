-- u is the smaller of p and Ku, at a blank s, and both streets then have room for their wires.
use mathlib.Core.Path.{◌≡◌, refl}
use Prim.Native.Nat.{ℕ, suc, ◌+◌, ◌≤◌, min}
use native.Mathlib.Omega.{arith}
use Rattle.rules.specs.declared.Kind.{Kind}
use Rattle.rules.specs.declared.Kind.TheVariants.{B, M, E, N}
use Rattle.rules.specs.Street.{last}
use Rattle.rules.specs.Film.{upper, upper_at}
use Rattle.rules.proofs.Fits.{FitsAt}

pub upper-min : (ku a : ℕ) → upper ku (suc a) ≡ min (suc a) ku
unfolding upper
upper-min ku a = refl

pub both-streets : {ku kl a b : ℕ} (k : Kind) → FitsAt k ku kl (suc a) b → (upper_at k ku a ≤ ku) × (b ≤ upper_at k ku a + kl)
unfolding upper_at upper last
both-streets B f = omega (arith, f.upper, f.lower, f.sum)
both-streets M f = omega (arith, f.upper, f.lower, f.sum)
both-streets E f = omega (arith, f.upper, f.lower, f.sum)
both-streets N f = omega (arith, f.upper, f.lower)
