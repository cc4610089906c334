-- `sheet::agreement::is_next` meets its contract: the label of blanks is no net's, and else the numbers are compared. Assumes nothing.
use mathlib.Core.Path.{sym}
use borrow.Author.Tests.{ne_eqb}
use Rattle.sheet.specs.InTurn.{begins}
use Rattle.sheet.proofs.Matches.{begins-blank}
use Rattle.sheet.proofs.agreement.is_next.Goals as goal

pub returns-then-net-eq255 : goal.returns-then-net-eq255
returns-then-net-eq255 c = sym (begins-blank c.args.begun c.if-net-eq255.true)

pub returns : goal.returns
unfolding begins
returns c = rw (ne_eqb _ _ c.if-net-eq255.false)
