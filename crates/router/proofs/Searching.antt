-- Where the steps can be passed the plan's kinds are those of the row's nodes.
use mathlib.Core.Path.{◌≡◌}
use mathlib.Core.Bool.{true}
use mathlib.Core.List.{List, [], map}
use Prim.Native.Nat.{ℕ, suc}
use native.Mathlib.Omega.{arith}
use Rattle.std.specs.Prelude.{Result, Ok, Err, MatchResult}
use Rattle.std.specs.Result.{is_ok}
use Rattle.rules.specs.declared.Streets.{Streets}
use Rattle.rules.specs.Row.{nodes}
use Rattle.rules.specs.Street.{kind}
use Rattle.steps.specs.Plan.{Step}
use Rattle.orders.specs.Passes.{Given, Passable}
use Rattle.script.specs.Told.{kinds}
use Rattle.script.proofs.Passed.{plan-kinds}
use Rattle.router.specs.Walk.{Planned}
use Rattle.router.proofs.Bridge.{hops-placing}

pub kinds-told : (row : List ℕ) (ss : List Step) (st : Streets) (s : List ℕ) → Given ss s → Planned row ss → Passable st.upper st.lower ss
    → kinds ss ≡ map kind (nodes row)
kinds-told row ss st s g p w =
    plan-kinds row st.upper st.lower (omega (arith, st.upper_few, st.lower_few)) ss (map suc w.way.ps) [] p.tells
    (hops-placing st.upper st.lower st.upper_few st.lower_few row p.whole p.tells g.plan w.way.ps w.end w.way.runs)

-- what is said of an answer that is Ok
pub of-ok : (A P : Type 0) (Q : ℕ → Type 0) (r : Result A ℕ) → MatchResult r (λ x. P) Q → true ≡ is_ok r → P
of-ok A P Q (Ok x) m e = m
of-ok A P Q (Err x) m e = absurd (cc)
