-- `sheet::agreement::known` meets its contract: 0 where the node begins its net, else one more than its number. Assumes nothing.
use mathlib.Core.Path.{sym, ◌∙◌}
use native.Mathlib.Omega.{arith}
use Rattle.rules.specs.Basic.{pick}
use Rattle.sheet.proofs.agreement.known.Goals as goal

pub returns-then-is_next : goal.returns-then-is_next
unfolding pick
returns-then-is_next c = simp (sym c.is_next.ensures ∙ c.if-is_next.true) (omega arith)

pub returns-else-is_next : goal.returns-else-is_next
unfolding pick
returns-else-is_next c = simp (sym c.is_next.ensures ∙ c.if-is_next.false) (omega arith)
