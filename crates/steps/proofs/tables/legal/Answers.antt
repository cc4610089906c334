-- `steps::tables::legal` meets its contract: the table's word is the set.
use native.Mathlib.Omega.{arith}
use Rattle.steps.proofs.FourSets.{legal-set}
use Rattle.steps.proofs.FourTables.{right}
use Rattle.steps.proofs.tables.legal.Goals as goal

pub returns : goal.returns
returns c =
    let g = c.args in
    let h = c.requires in
    let k = g.streets in
    legal-set k.upper k.lower g.b _ (right.legal k.upper k.lower g.b (omega (arith, k.upper_few)) (omega (arith, k.lower_few)) (omega (arith, h)))
