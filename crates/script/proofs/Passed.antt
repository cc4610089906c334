-- Where a run gets through a row, the plan holds the kind of each of its nodes.
use mathlib.Core.Path.{ap₂, ◌≡◌, refl}
use mathlib.Core.List.{List, [], ◌∷◌, map}
use mathlib.Core.Option.{some}
use Prim.Native.Nat.{ℕ, suc, ◌+◌, ◌-◌, ◌≤◌, ◌<◌}
use native.Mathlib.Omega.{arith}
use lib.ListN.{length}
use Rattle.rules.specs.declared.Kind.{Kind}
use Rattle.rules.specs.declared.Kind.TheVariants.{B, M, E, N}
use Rattle.rules.specs.Row.{before, Node, node, node_at, nodes}
use Rattle.rules.specs.Street.{kind, counted, last, next, run}
use Rattle.rules.proofs.Lists.{length-put, length_cut}
use Rattle.rules.proofs.Fits.{FitsAt}
use Rattle.rules.proofs.Open.{onto}
use Rattle.steps.specs.Plan.{Step, young, Tells}
use Rattle.script.specs.Told.{kinds}
use Rattle.steps.proofs.Turns.{kind-turn}
use Rattle.script.proofs.Touched.{Kept, kept-none, kept_next, node-open, From, from-nodes}

module _ (row : List ℕ) (ku kl : ℕ) (six : ku + kl ≤ 6) where
  -- youngest first or top to bottom, as many nets are open after a node
  as_many : (i : ℕ) (h : i < length row) (n : Node) (y o : List ℕ) (p : ℕ) → n ≡ node_at row i → Kept row i y → length y ≡ length o
      → FitsAt (kind n) ku kl p (counted (kind n) (length o)) → length (young n y) ≡ length (next n o p)
  unfolding young next kind counted last
  as_many i h (node B x) y o p q kept e f = omega (arith, length-put (p - 1) x o)
  as_many i h (node M x) y o p q kept e f = e
  as_many i h (node E x) y o p q kept e f =
      let there = node-open row i h y kept E x (λ n. n) q in
      omega (arith, length_cut (before x y) y there, length_cut (p - 1) o (omega (arith, f.low, f.high)))
  as_many i h (node N x) y o p q kept e f = e

  same-kinds : {i : ℕ} {ns : List Node} {y : List ℕ} {ss : List Step} → From row i ns → Kept row i y → Tells ns y ss
      → (o ps w : List ℕ) → length y ≡ length o → run ku kl ns o ps ≡ some w → kinds ss ≡ map kind ns
  unfolding run kind counted
  same-kinds From.nil kept Tells.nil o ps w e r = refl
  same-kinds (From.cons h q f) kept (Tells.full n l) o [] w e r = let z : ◌≡◌ {A = ℕ} 0 1 = cc in absurd (omega arith)
  same-kinds (From.cons h q f) kept (Tells.full {x} {ns = ns} n l) o (p ∷ ps) w e r =
      absurd (omega (arith, (onto ku kl (node B x) ns o p ps w r).fitted.sum))
  same-kinds (From.cons h q f) kept (Tells.more room t) o [] w e r = let z : ◌≡◌ {A = ℕ} 0 1 = cc in absurd (omega arith)
  same-kinds (From.cons {i} {n} {ns} h q f) kept (Tells.more {o = y} room t) o (p ∷ ps) w e r =
      let a = onto ku kl n ns o p ps w r in
      let kept' : Kept row (suc i) (young n y) = rw q (kept_next row i h y kept) in
      ap₂ (λ (k : Kind) (l : List Kind). k ∷ l) (kind-turn n y) (same-kinds f kept' t (next n o p) ps w (as_many i h n y o p q kept e a.fitted) a.rest)

  -- the plan's kinds are those of the nodes, if a run gets through them in streets that hold six
  pub plan-kinds : (ss : List Step) (ps w : List ℕ) → Tells (nodes row) [] ss → run ku kl (nodes row) [] ps ≡ some w → kinds ss ≡ map kind (nodes row)
  plan-kinds ss ps w t r = same-kinds (from-nodes row) (kept-none row) t [] ps w refl r
