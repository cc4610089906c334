-- `sheet::layout::unpack_fours` meets its contract, by the invariant of Invariants.antt. Assumes nothing.
use native.Mathlib.Omega.{arith}
use Rattle.sheet.proofs.FieldBytes.{fours-start, fours-step}
use Rattle.sheet.proofs.layout.unpack_fours.Goals as goal

pub loop-k-init : goal.loop-k-init
loop-k-init c = fours-start c.requires

pub loop-k-preserved : goal.loop-k-preserved
loop-k-preserved c = fours-step (λ i. omega (arith, c.type_inv.s i)) (omega arith) c.loop-k.invariant
