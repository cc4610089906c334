-- `sheet::agreement::same_pins` meets its contract. The loop's invariant is `Matched`: on the nodes passed, labels and nets determine each
-- other. The measure is the number of nodes left. Assumes nothing.
use Prim.Native.Nat.{◌-◌}
use Rattle.sheet.proofs.Matches.{Matched}
use Rattle.sheet.proofs.agreement.same_pins.Given as goal

abbrev pub invariant-loop-i : goal.invariant-loop-i
invariant-loop-i l = Matched l.row l.own l.nets l.i l.begun

abbrev pub decreases-loop-i : goal.decreases-loop-i
decreases-loop-i l = l.n - l.i
