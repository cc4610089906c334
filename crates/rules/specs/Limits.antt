-- Document 01, 'Street rules', with request 1's blanks: the positions at a node, and the limits there.
--
-- Positions p count from 1, the top; of b open nets p − 1 are above and b − p below.
use Rattle.std.specs.Prelude.{Bool, true, false, ◌&&◌, ℕ, suc, ◌+◌, ◌-◌, leb, ltb, Option, None, Some}
use Rattle.rules.specs.declared.Limit.{Limit}
use Rattle.rules.specs.declared.Limit.TheVariants.{Upper, Lower, Sum}
use Rattle.rules.specs.Basic.{pick}
use Rattle.rules.specs.declared.Kind.{Kind}
use Rattle.rules.specs.declared.Kind.TheVariants.{B, M, E, N}

-- the limit that is broken at a node, or none
abbrev pub Broken : Type 0
Broken = Option Limit

-- the first of the three limits that the wire at position p of b breaks, or none: p − 1 ≤ Ku, b − p ≤ Kl, b ≤ Ku + Kl
unfoldable pub limits : (ku kl p b : ℕ) → Broken
limits ku kl p b = pick (ltb ku (p - 1)) (Some Upper) (pick (ltb kl (b - p)) (Some Lower) (pick (ltb (ku + kl) b) (Some Sum) None))

unfoldable pub met : Broken → Bool
met None = true
met (Some l) = false

-- p is a position of b, and the limits hold there
unfoldable pub fits : (ku kl p b : ℕ) → Bool
fits ku kl p b = leb 1 p && leb p b && met (limits ku kl p b)

-- the first limit that a blank with s of b wires above it breaks, or none: s ≤ Ku, b − s ≤ Kl
unfoldable pub blank_limits : (ku kl s b : ℕ) → Broken
blank_limits ku kl s b = pick (ltb ku s) (Some Upper) (pick (ltb kl (b - s)) (Some Lower) None)

-- the positions at a node of a kind with b open nets are 1 to the last; a blank stands below s of them, at position s + 1
unfoldable pub last : Kind → ℕ → ℕ
last B b = b
last M b = b
last E b = b
last N b = suc b

-- the first limit that a node of a kind at position p of b breaks, or none
unfoldable pub limits_at : Kind → (ku kl p b : ℕ) → Broken
limits_at B ku kl p b = limits ku kl p b
limits_at M ku kl p b = limits ku kl p b
limits_at E ku kl p b = limits ku kl p b
limits_at N ku kl p b = blank_limits ku kl (p - 1) b

-- p is a position there, and the limits hold
unfoldable pub fits_at : Kind → (ku kl p b : ℕ) → Bool
fits_at k ku kl p b = leb 1 p && leb p (last k b) && met (limits_at k ku kl p b)

-- b: the open nets at a node, with its own if it has one, where so many were open before it
unfoldable pub counted : Kind → ℕ → ℕ
counted B b = suc b
counted M b = b
counted E b = b
counted N b = b
