-- Orders by their rank among all orders of the open nets, and one node's transition on ranks.
--
-- The open nets are listed youngest first. Positions p count from 0 here: how many nets stand above.
use Rattle.std.specs.Prelude.{◌≡◌, ◌&&◌, List, [], ◌∷◌, ℕ, zero, suc, ◌+◌, ◌-◌, ◌*◌, ◌/◌, ◌%◌, ◌<◌, ◌≤◌, length, leb, eqb}
use Rattle.std.proofs.Math.Option.{Option, none, some}
use Rattle.rules.specs.Basic.{pick, put, keep, and_then}
use Rattle.rules.specs.declared.Kind.{Kind}
use Rattle.rules.specs.declared.Kind.TheVariants.{B, M, E, N}
use Rattle.rules.specs.Street.{fits, fits_at}
use Rattle.rules.specs.Judgement.{left}
use Rattle.steps.specs.Plan.{Step, turn_kind, turn_age}

-- the most nets that can be open: two streets have at most six tracks. The positions that the limits allow are below it.
abbrev pub capacity : ℕ
capacity = 6

-- how many orders n nets have
unfoldable pub fact : ℕ → ℕ
fact zero = 1
fact (suc n) = suc n * fact n

-- the order of rank r: its first digit is the place of the youngest net, the others are the rank of the older nets' order
unfoldable pub order_of : List ℕ → ℕ → List ℕ
order_of [] r = []
order_of (y ∷ ys) r = put (r / fact (length ys)) y (order_of ys (r % fact (length ys)))

-- a net with i older ones above it, of which the youngest has q above: how many stand above it with the youngest
unfoldable pub under : (q i : ℕ) → ℕ
under q i = pick (leb q i) (suc i) i

-- how many stand above the youngest, of the q that did, without a net that had i older ones above it
unfoldable pub spared : (q i : ℕ) → ℕ
spared q i = pick (leb q i) q (q - 1)

-- in the order of rank r of b nets: how many stand above the net of age a
unfoldable pub at_of : (a b r : ℕ) → ℕ
at_of a zero r = 0
at_of zero (suc b) r = r / fact b
at_of (suc a) (suc b) r = under (r / fact b) (at_of a b (r % fact b))

-- the rank of that order without the net of age a, among b - 1 nets
unfoldable pub less_of : (a b r : ℕ) → ℕ
less_of a zero r = 0
less_of zero (suc b) r = r % fact b
less_of (suc a) (suc b) r = spared (r / fact b) (at_of a b (r % fact b)) * fact (b - 1) + less_of a b (r % fact b)

-- one node on ranks, by its kind, the age of its net and the open nets before it, at position p: the rank after it, or none where a rule of the street is broken
unfoldable pub hop_by : (ku kl : ℕ) → Kind → (a b r p : ℕ) → Option ℕ
hop_by ku kl k a b r p =
    elim k [
      | B ↦ keep (fits ku kl (suc p) (suc b)) (p * fact b + r)
      | M ↦ keep (eqb p (at_of a b r) && fits ku kl (suc p) b) r
      | E ↦ keep (eqb p (at_of a b r) && fits ku kl (suc p) b) (less_of a b r)
      | N ↦ keep (fits_at N ku kl (suc p) b) r
    ]

-- the same by its step
abbrev pub hop_of : (ku kl : ℕ) → Step → (r p : ℕ) → Option ℕ
hop_of ku kl s r p = hop_by ku kl (turn_kind s.turn) (turn_age s.turn) s.count r p

-- the steps from rank r on, with a position for each
unfoldable pub hops : (ku kl : ℕ) → List Step → ℕ → List ℕ → Option ℕ
hops ku kl [] r [] = some r
hops ku kl [] r (p ∷ ps) = none
hops ku kl (s ∷ ss) r [] = none
hops ku kl (s ∷ ss) r (p ∷ ps) = and_then (hop_of ku kl s r p) (λ x. hops ku kl ss x ps)

-- the nets open after steps, where b were before them
unfoldable pub open_after : ℕ → List Step → ℕ
open_after b [] = b
open_after b (s ∷ ss) = open_after (left (turn_kind s.turn) b) ss

-- r is the rank of an order of b nets that hops can lead to: of five or six, the fifth has one, two or three of its elders above it, and of six the youngest has two or
-- three others
pub record RankOf (b r : ℕ) : Type 0 where
  pub below : r < fact b
  pub inner : 5 ≤ b → (24 ≤ r % 120) × (r % 120 < 96)
  pub middle : b ≡ capacity → (240 ≤ r) × (r < 480)

-- the steps lead from rank 0, the order of no nets, to rank x
pub record Way (ku kl : ℕ) (ss : List Step) (x : ℕ) : Type 0 where
  pub ps : List ℕ
  pub runs : hops ku kl ss 0 ps ≡ some x

-- from rank r some positions lead through all the steps
pub record Ahead (ku kl : ℕ) (ss : List Step) (r : ℕ) : Type 0 where
  pub ps : List ℕ
  pub end : ℕ
  pub runs : hops ku kl ss r ps ≡ some end
