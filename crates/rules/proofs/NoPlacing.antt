-- A row without lone labels has no placing exactly when one of its nodes is the failing node.
use mathlib.Core.Path.{◌≡◌, ap, ◌∙◌}
use mathlib.Core.Bool.{false}
use mathlib.Core.List.{List, []}
use mathlib.Core.Logic.{◌↔◌, ◌⊎◌, inl, inr}
use mathlib.Core.Option.{some}
use Prim.Native.Nat.{ℕ, suc, ◌<◌}
use native.Mathlib.Nat.{eq-or-lt_of_le}
use lib.ListN.{length}
use Rattle.rules.specs.Row.{lone, nodes}
use Rattle.rules.specs.Street.{Placing, Passes, StopsAt, failing}
use Rattle.rules.proofs.Open.{ends-empty}
use Rattle.rules.proofs.Failing.{passes-take, failing-le, failing-stops, failing-passes}

module _ (ku kl : ℕ) (row : List ℕ) (whole : (i : ℕ) → i < length row → lone row i ≡ false) where
  -- nodes that pass to the end are placed
  pub passes-placing : (x : Passes ku kl (nodes row)) → Placing ku kl (nodes row) x.ps
  passes-placing x = x.runs ∙ ap some (ends-empty ku kl row whole x.ps x.order x.runs)

  pub stuck-stops : ((ps : List ℕ) → Placing ku kl (nodes row) ps → ⊥) → StopsAt ku kl (nodes row) (suc (failing ku kl (nodes row)))
  stuck-stops n = go (eq-or-lt_of_le (failing-le ku kl (nodes row)))
    where
      go : (failing ku kl (nodes row) ≡ length (nodes row)) ⊎ (failing ku kl (nodes row) < length (nodes row))
          → StopsAt ku kl (nodes row) (suc (failing ku kl (nodes row)))
      go (inl e) = let x = failing-passes ku kl (nodes row) e in absurd (n x.ps (passes-placing x))
      go (inr l) = failing-stops ku kl (nodes row) l

  pub stops-stuck : (i : ℕ) → StopsAt ku kl (nodes row) i → (ps : List ℕ) → Placing ku kl (nodes row) ps → ⊥
  stops-stuck i s ps p = s.stuck (passes-take ku kl i (nodes row) (record { ps = ps; order = []; runs = p }))

  -- no placing exactly when some node is the failing node
  pub no-placing-stops : ((ps : List ℕ) → Placing ku kl (nodes row) ps → ⊥) ↔ ((i : ℕ) × StopsAt ku kl (nodes row) i)
  no-placing-stops = (λ n. (suc (failing ku kl (nodes row)), stuck-stops n), λ s. stops-stuck s.0 s.1)
