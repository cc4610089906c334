-- `steps::open::places` meets its contract: antt computes each word of the table.
use native.Mathlib.Omega.{arith}
use Rattle.rules.specs.Basic.{pick, every}
use Rattle.rules.specs.Limits.{limits, met, fits}
use Rattle.steps.specs.Ranks.{fact}
use Rattle.steps.specs.Sets.{bit}
use Rattle.steps.proofs.OpeningBits.{same, placed, placed_at, all_placed, places-right}
use Rattle.steps.specs.declared.open.TheConstants.{PLACES}
use Rattle.steps.proofs.open.places.Goals as goal

pub returns : goal.returns
unfolding same placed placed_at all_placed every fact pick bit fits limits met
returns c =
    let g = c.args in
    let k = g.streets in
    places-right PLACES g.b k.upper k.lower tt (omega (arith, c.requires)) (omega (arith, k.upper_few)) (omega (arith, k.lower_few))
