-- `sheet::layout::unpack` meets its contract, by the invariant of Invariants.antt. Assumes nothing.
use native.Mathlib.Omega.{arith}
use Rattle.sheet.proofs.FieldBytes.{filling-start, filling_step, filling-end}
use Rattle.sheet.proofs.layout.unpack.Goals as goal

pub loop-i-init : goal.loop-i-init
loop-i-init c = filling-start c.requires c.unpack_fours-i.ensures

pub loop-i-preserved : goal.loop-i-preserved
loop-i-preserved c = filling_step (omega arith) c.loop-i.invariant c.get_bits.ensures

pub returns : goal.returns
returns c = filling-end c.loop-i-test.false c.loop-i.invariant
