-- The places that the limits allow, as the bits of a number, and a table of them.
use Rattle.std.specs.Prelude.{◌≡◌, Bool, List, [], ℕ, suc, ◌-◌, ◌/◌, ◌%◌, ◌^◌, ◌<◌, min, get_or, eqb}
use Rattle.rules.specs.declared.Kind.{Kind}
use Rattle.rules.specs.Limits.{counted, fits_at}
use Rattle.rules.specs.Sheet.{code}

-- bit a of a number is set
unfoldable pub marked : ℕ → ℕ → Bool
marked x a = eqb (x / 2 ^ a % 2) 1

-- the places among b wires: from b − Kl, or 0, up to the smaller of b and Ku
unfoldable pub among : (ku kl b : ℕ) → ℕ
among ku kl b = 2 ^ suc (min b ku) - 2 ^ (b - kl)

-- the places at a node of a kind, before which b nets are open: cell b of the row of its kind field
abbrev pub places_at : List (List ℕ) → Kind → ℕ → ℕ
places_at rows k b = get_or (get_or rows (code k) []) b 0

-- a table has the places that the limits allow at every node
pub record Places (ku kl : ℕ) (rows : List (List ℕ)) : Type 0 where
  pub places : (k : Kind) (a b : ℕ) → b < 16 → marked (places_at rows k b) a ≡ fits_at k ku kl (suc a) (counted k b)
