-- `steps::tables::parted` meets its contract: the others of five have 24 orders, those of six 120.
use Rattle.std.proofs.Common.{◌≡◌, arith, refl}
use Rattle.steps.specs.Ranks.{fact}
use Rattle.steps.proofs.tables.parted.Goals as goal

pub returns-then-b-eq5 : goal.returns-then-b-eq5
unfolding fact
returns-then-b-eq5 c = rw c.if-b-eq5.true (refl, refl)

pub returns-else-b-eq5 : goal.returns-else-b-eq5
unfolding fact
returns-else-b-eq5 c =
    let e : c.args.b ≡ 6 = omega (arith, c.requires.0, c.requires.1, c.if-b-eq5.false) in
    rw e (refl, refl)
