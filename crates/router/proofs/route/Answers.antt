-- Checks 1 and 2, then those between the streets.
use Rattle.std.proofs.Common.{arith}
use Rattle.router.proofs.Checking.{routed-few, routed-many, routed-tracks}
use Rattle.router.proofs.route.Goals as goal
use Rattle.router.proofs.route.Goals.{then-row-lt2-via-then-row-lt2, then-row-lt2-via-else-row-lt2+then-row-gt512}

pub returns-then-row-lt2 : goal.returns-then-row-lt2
returns-then-row-lt2 c =
    let g = c.args in
    elim c.then-row-lt2.branch [
      | then-row-lt2-via-then-row-lt2 w ↦ routed-few g.row.now g.ku g.kl g.work.now g.sheet.now w.if-row-lt2.true
      | then-row-lt2-via-else-row-lt2+then-row-gt512 w ↦ routed-many g.row.now g.ku g.kl g.work.now g.sheet.now w.if-row-gt512.true
    ]

pub returns-in_default : goal.returns-in_default
returns-in_default c =
    let g = c.args in
    routed-tracks g.row.now g.ku g.kl g.work.now g.sheet.now (omega arith) (omega arith) c.in_default.ensures
