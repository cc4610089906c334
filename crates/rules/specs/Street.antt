-- Document 01, 'Street rules', with request 1's blanks: orders, placings, reading order, the first placing, the failing node.
--
-- An order lists the open nets from top to bottom. Positions p count from 1, the top. "Placing", "reading order" and
-- "first placing" are document 01's own terms.
use Rattle.std.specs.Prelude.{◌≡◌, Bool, true, false, ◌&&◌, List, [], ◌∷◌, ◌⊎◌, ℕ, zero, suc, ◌-◌, ◌≤◌, ◌<◌, length, take, eqb}
use Rattle.std.proofs.Math.Option.{Option, none, some}
use Rattle.rules.specs.Basic.{least, put, cut, keep, and_then, or_else, is_none}
use Rattle.rules.specs.declared.Kind.{Kind}
use Rattle.rules.specs.declared.Kind.TheVariants.{B, M, E, N}
use Rattle.rules.specs.Row.{before, Node, node}
unfoldable pub use Rattle.rules.specs.Limits.{limits, met, fits, blank_limits, last, limits_at, fits_at, counted}

-- a new net may be put anywhere, and a blank may have any number of wires above; another net stands where the order has it
unfoldable pub stands : Node → List ℕ → ℕ → Bool
stands (node B x) o p = true
stands (node M x) o p = eqb p (suc (before x o))
stands (node E x) o p = eqb p (suc (before x o))
stands (node N x) o p = true

-- the order after a node whose net stands at p; a blank leaves it as it is
unfoldable pub next : Node → List ℕ → ℕ → List ℕ
next (node B x) o p = put (p - 1) x o
next (node M x) o p = o
next (node E x) o p = cut (p - 1) o
next (node N x) o p = o

unfoldable pub kind : Node → Kind
kind (node k x) = k

-- one node at position p: the order after it, or none where a rule is broken
unfoldable pub step : (ku kl : ℕ) → Node → List ℕ → ℕ → Option (List ℕ)
step ku kl n o p = keep (stands n o p && fits_at (kind n) ku kl p (counted (kind n) (length o))) (next n o p)

-- the nodes from the order o on, with a position for each
unfoldable pub run : (ku kl : ℕ) → List Node → List ℕ → List ℕ → Option (List ℕ)
run ku kl [] o [] = some o
run ku kl [] o (p ∷ ps) = none
run ku kl (n ∷ ns) o [] = none
run ku kl (n ∷ ns) o (p ∷ ps) = and_then (step ku kl n o p) (λ o'. run ku kl ns o' ps)

-- a placing, with its positions at every node, blanks too: every rule is met, and the order is empty after the last node
abbrev pub Placing : (ku kl : ℕ) → List Node → List ℕ → Type 0
Placing ku kl ns ps = run ku kl ns [] ps ≡ some []

-- the positions at every node that follow from those at the B nodes: at M and E the net's place in the order, and at a blank the
-- one with the smallest s that the limits allow, b − Kl or 0
unfoldable pub positions : ℕ → List Node → List ℕ → List ℕ → List ℕ
positions kl [] o cs = []
positions kl (node B x ∷ ns) o [] = []
positions kl (node B x ∷ ns) o (p ∷ cs) = p ∷ positions kl ns (put (p - 1) x o) cs
positions kl (node M x ∷ ns) o cs = suc (before x o) ∷ positions kl ns o cs
positions kl (node E x ∷ ns) o cs = suc (before x o) ∷ positions kl ns (cut (before x o) o) cs
positions kl (node N x ∷ ns) o cs = suc (length o - kl) ∷ positions kl ns o cs

-- the positions at the B nodes, of those at every node
unfoldable pub choices : List Node → List ℕ → List ℕ
choices [] ps = []
choices (n ∷ ns) [] = []
choices (node B x ∷ ns) (p ∷ ps) = p ∷ choices ns ps
choices (node M x ∷ ns) (p ∷ ps) = choices ns ps
choices (node E x ∷ ns) (p ∷ ps) = choices ns ps
choices (node N x ∷ ns) (p ∷ ps) = choices ns ps

-- a placing in document 01's words: a choice of p at each B and nowhere else, whose positions meet every rule, with the smallest s
-- at each blank
pub record Choice (ku kl : ℕ) (ns : List Node) (cs : List ℕ) : Type 0 where
  pub each : choices ns (positions kl ns [] cs) ≡ cs
  pub placing : Placing ku kl ns (positions kl ns [] cs)

-- reading order: at the first place where two lists differ, the smaller p comes first
pub data Earlier : List ℕ → List ℕ → Type 0 where
  here : {p q : ℕ} {ps qs : List ℕ} → p < q → Earlier (p ∷ ps) (q ∷ qs)
  there : {p q : ℕ} {ps qs : List ℕ} → p ≡ q → Earlier ps qs → Earlier (p ∷ ps) (q ∷ qs)

-- the first placing: the one that all others come after
pub record IsFirst (ku kl : ℕ) (ns : List Node) (ps : List ℕ) : Type 0 where
  pub placing : Placing ku kl ns ps
  pub others : (qs : List ℕ) → Placing ku kl ns qs → (qs ≡ ps) ⊎ Earlier ps qs

-- nodes have a choice that meets the limits; nets may stay open after them
pub record Passes (ku kl : ℕ) (ns : List Node) : Type 0 where
  pub ps : List ℕ
  pub order : List ℕ
  pub runs : run ku kl ns [] ps ≡ some order

-- the failing node, from 1: nodes 1 to i alone have no choice, and nodes 1 to j have one for every smaller j
pub record StopsAt (ku kl : ℕ) (ns : List Node) (i : ℕ) : Type 0 where
  pub within : i ≤ length ns
  pub stuck : Passes ku kl (take i ns) → ⊥
  pub sooner : (j : ℕ) → j < i → Passes ku kl (take j ns)

-- f p, or where that is none f (p + 1), and so on through k numbers
unfoldable pub first_from {ℓ} : {A : Type ℓ} → (ℕ → Option A) → ℕ → ℕ → Option A
first_from f p zero = none
first_from f p (suc k) = let r = first_from f (suc p) k in or_else (f p) r

-- p before positions, where there are any
unfoldable pub also : ℕ → Option (List ℕ) → Option (List ℕ)
also p none = none
also p (some ps) = some (p ∷ ps)

-- the first positions that take the nodes from the order o to one that is fine, or none: depth first, the smaller p first
unfoldable pub way : (List ℕ → Bool) → (ku kl : ℕ) → List Node → List ℕ → Option (List ℕ)
way fine ku kl [] o = keep (fine o) []
way fine ku kl (n ∷ ns) o =
    first_from (λ p. also p (and_then (step ku kl n o p) (λ o'. way fine ku kl ns o'))) 1 (suc (length o))

unfoldable pub empty : List ℕ → Bool
empty [] = true
empty (x ∷ o) = false

-- the first placing, or none
unfoldable pub first : (ku kl : ℕ) → List Node → Option (List ℕ)
first ku kl ns = way empty ku kl ns []

-- the failing node, from 0: the first i such that nodes 0 to i alone have no choice; the number of nodes where there is none
unfoldable pub failing : (ku kl : ℕ) → List Node → ℕ
failing ku kl ns = least (λ i. is_none (way (λ o. true) ku kl (take (suc i) ns) [])) (length ns)
