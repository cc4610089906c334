-- 6 is never given at a blank: once the node before it is passed, some s fits.
use mathlib.Core.Path.{◌≡◌, refl, ap, ◌∙◌}
use mathlib.Core.Bool.{Bool, true, false}
use mathlib.Core.List.{List, [], ◌∷◌, ◌++◌}
use mathlib.Core.Option.{some}
use Prim.Native.Nat.{ℕ, suc, ◌+◌, ◌-◌, ◌≤◌, ◌<◌}
use native.Mathlib.Omega.{arith}
use lib.ListN.{length, take, get_or}
use lib.Seq.{take-suc}
use Rattle.std.specs.declared.result.Result.TheVariants.{Err}
use Rattle.rules.specs.declared.RouteError.TheVariants.{Stuck}
use Rattle.rules.specs.Basic.{and_then}
use Rattle.rules.specs.declared.Kind.TheVariants.{N}
use Rattle.rules.specs.Row.{blank, Node, node, node_at, nodes}
use Rattle.rules.specs.Street.{counted, kind, stands, next, run, Passes, StopsAt}
use Rattle.rules.specs.Answers.{routing}
use Rattle.rules.proofs.Fits.{FitsAt}
use Rattle.rules.proofs.Runs.{Runs, onward-leads, runs-length, run-append}
use Rattle.rules.proofs.Failing.{runs-passes, passes-runs}
use Rattle.rules.proofs.Choices.{lowest-fits}
use Rattle.rules.proofs.Pins.{get_d_tabulate, node-blank}
use Rattle.rules.proofs.Open.{onto}
use Rattle.rules.proofs.Legal.{left_le, length-next}
use Rattle.rules.proofs.Accepted.{length-nodes}
use Rattle.rules.proofs.Demand3.{Checked, six-exactly}

module _ (ku kl : ℕ) where
  -- after a node no more nets are open than both streets have tracks
  pub next_le : (n : Node) (o : List ℕ) (p : ℕ) → FitsAt (kind n) ku kl p (counted (kind n) (length o)) → length (next n o p) ≤ ku + kl
  next_le n o p f = omega (arith, length-next n o p f.low f.high, left_le (kind n) (length o), f.sum)

  -- and so at the end of nodes
  order_le : (ns : List Node) (o ps w : List ℕ) → run ku kl ns o ps ≡ some w → length o ≤ ku + kl → length w ≤ ku + kl
  unfolding run
  order_le [] o [] w e h = let z : o ≡ w = cc in rw z at h
  order_le [] o (p ∷ ps) w e h = let z : ◌≡◌ {A = ℕ} 0 1 = cc in absurd (omega arith)
  order_le (n ∷ ns) o [] w e h = let z : ◌≡◌ {A = ℕ} 0 1 = cc in absurd (omega arith)
  order_le (n ∷ ns) o (p ∷ ps) w e h =
      let a = onto ku kl n ns o p ps w e in
      order_le ns (next n o p) ps w a.rest (next_le n o p a.fitted)

  -- a blank behind nodes that pass is passed
  pub blank-passes : (ns : List Node) (x : ℕ) → Passes ku kl ns → Passes ku kl (ns ++ (node N x ∷ []))
  unfolding stands kind counted next run and_then
  blank-passes ns x h =
      let o : List ℕ = h.order in
      let q : ℕ = suc (length o - kl) in
      let one : Runs ku kl (node N x ∷ []) o (q ∷ []) =
      onward-leads (λ w. true) ku kl (node N x) [] o q []
      (record { stood = tt; fitted = lowest-fits ku kl (length o) (order_le ns [] h.ps o h.runs (omega arith)); rest = tt }) in
      runs-passes ku kl (ns ++ (node N x ∷ [])) (h.ps ++ (q ∷ []))
      (rw (run-append ku kl ns (node N x ∷ []) [] h.ps (q ∷ []) (runs-length ku kl ns [] h.ps (passes-runs ku kl ns h)), h.runs) one)

  pub never-at-blank : (row : List ℕ) (i : ℕ) → StopsAt ku kl (nodes row) (suc i) → blank row i ≡ false
  unfolding nodes
  never-at-blank row i s = go (blank row i) refl
    where
      go : (t : Bool) → blank row i ≡ t → t ≡ false
      go false e = refl
      go true e =
          let h : i < length row = omega (arith, s.within, length-nodes row) in
          let n : get_or (nodes row) i (node N 0) ≡ node N i = get_d_tabulate (node_at row) (length row) i (node N 0) h ∙ node-blank row i e in
          let t : take (suc i) (nodes row) ≡ take i (nodes row) ++ (node N i ∷ []) =
          take-suc (nodes row) i (node N 0) s.within ∙ ap (λ m. take i (nodes row) ++ (m ∷ [])) n in
          absurd (s.stuck (rw t (blank-passes (take i (nodes row)) i (s.sooner i (omega arith)))))

-- the router's 6 names no blank
pub six-no-blank : (row : List ℕ) (ku kl : ℕ) (work out : List ℕ) → Checked row ku kl work out
    → (i : ℕ) → routing row ku kl work out ≡ Err (Stuck (suc i)) → blank row i ≡ false
six-no-blank row ku kl work out c i e = never-at-blank ku kl row i ((six-exactly row ku kl work out c (suc i)).0 e)
