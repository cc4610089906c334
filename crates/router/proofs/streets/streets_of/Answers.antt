-- A pair that is in none of the four ranges has a street of over three tracks.
use Rattle.std.proofs.Common.{◌≡◌, ◌≤◌, ℕ, Bool, true, false, refl, arith}
use Rattle.rules.specs.Sheet.{takes}
use Rattle.rules.proofs.Accepted.{takes-le}
use Rattle.router.proofs.streets.streets_of.Goals as goal

other : (ku kl : ℕ) → (ku ≤ 3 → kl ≤ 3 → ⊥) → takes ku kl ≡ false
other ku kl n = go (takes ku kl) refl
  where
    go : (t : Bool) → takes ku kl ≡ t → takes ku kl ≡ false
    go true e = let h = takes-le ku kl e in absurd (n h.0 h.1)
    go false e = e

pub returns-in_default : goal.returns-in_default
returns-in_default c = let g = c.args in other g.ku g.kl (λ (a : g.ku ≤ 3) (b : g.kl ≤ 3). omega arith)

pub returns-in_default-2 : goal.returns-in_default-2
returns-in_default-2 c = let g = c.args in other g.ku g.kl (λ (a : g.ku ≤ 3) (b : g.kl ≤ 3). omega arith)

pub returns-in_default-3 : goal.returns-in_default-3
returns-in_default-3 c = let g = c.args in other g.ku g.kl (λ (a : g.ku ≤ 3) (b : g.kl ≤ 3). omega arith)

pub returns-in_default-4 : goal.returns-in_default-4
returns-in_default-4 c = let g = c.args in other g.ku g.kl (λ (a : g.ku ≤ 3) (b : g.kl ≤ 3). omega arith)
