-- `script::labels::one_node` meets its contract: its tests are those of `alone`.
use Rattle.std.proofs.Common.{◌≡◌, ◌≤◌, Bool, true, false, arith, refl}
use mir.Val.{bool_byte}
use borrow.Author.Tests.{eq-eqb, ne_eqb}
use Rattle.rules.specs.Basic.{pick}
use Rattle.script.specs.Tabled.{alone}
use Rattle.script.proofs.labels.one_node.Goals as goal
use Rattle.script.proofs.labels.one_node.Goals.{then-first-ne0, else-first-ne0}

byte_small : (b : Bool) → bool_byte b ≤ 1
byte_small true = omega arith
byte_small false = omega arith

byte_pick : (b : Bool) → bool_byte b ≡ pick b 1 0
unfolding pick
byte_pick true = refl
byte_pick false = refl

pub returns : goal.returns
unfolding alone pick
returns c = elim c.if-first-ne0.branch [
  | then-first-ne0 w ↦ rw (c.from.ensures, w.from-is, ne_eqb c.args.first 0 w.if-first-ne0.true) (byte_pick _, byte_small _)
  | else-first-ne0 w ↦ rw (c.from.ensures, w.from-is, eq-eqb c.args.first 0 w.if-first-ne0.false) (refl, omega arith)
]
