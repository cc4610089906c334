-- `sheet::agreement::begun_after` meets its contract: one more where the node begins a net. Assumes nothing.
use mathlib.Core.Path.{◌≡◌, sym, ◌∙◌}
use mathlib.Core.Bool.{Bool, true, false, not, ◌&&◌}
use Prim.Native.Nat.{ℕ}
use native.Mathlib.Omega.{arith}
use lib.Dec.{eqb}
use borrow.Author.Tests.{eqb-true}
use Rattle.rules.specs.Basic.{pick}
use Rattle.sheet.specs.InTurn.{begins}
use Rattle.sheet.proofs.agreement.begun_after.Goals as goal

-- a net that begins is the next
begins-is : (net n : ℕ) → begins net n ≡ true → net ≡ n
unfolding begins
begins-is net n e = go (eqb net 255) e
  where
    go : (t : Bool) → (not t && eqb net n) ≡ true → net ≡ n
    go true e = let z : ◌≡◌ {A = ℕ} 0 1 = cc in absurd (omega arith)
    go false e = eqb-true net n e

pub overflow_add-result : goal.overflow_add-result
overflow_add-result c =
    let a = c.args in
    omega (arith, begins-is a.net a.begun (sym c.is_next.ensures ∙ c.if-is_next.true))

pub returns-then-is_next : goal.returns-then-is_next
unfolding pick
returns-then-is_next c = simp (sym c.is_next.ensures ∙ c.if-is_next.true) (omega arith)

pub returns-else-is_next : goal.returns-else-is_next
unfolding pick
returns-else-is_next c = simp (sym c.is_next.ensures ∙ c.if-is_next.false) (omega arith)
