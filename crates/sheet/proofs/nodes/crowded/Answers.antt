-- `sheet::nodes::crowded` meets its contract, by `nets-told`. Assumes nothing.
use borrow.Author.Rules.{rules}
use borrow.Author.Tests.{tests}
use native.Mathlib.Omega.{arith}
use Rattle.std.proofs.lemmas.Iterator.{YieldsList-from_slice, cases_from_all}
use Rattle.sheet.proofs.Nets.{Outer, Inner, nets-short, nets-told}
use Rattle.sheet.proofs.nodes.crowded.Goals as goal

pub returns-then-fields-ge512 : goal.returns-then-fields-ge512
returns-then-fields-ge512 c =
    let fs = c.args.fields.now in
    nets-told fs c.requires.2 (omega arith) c.all.result
    (cases_from_all _ _ c.all.result Outer Inner c.all.ensures.ran (YieldsList-from_slice fs cc) (λ x q k. search (rules, tests)) (λ x q k. search (rules, tests)))

pub returns-else-fields-ge512 : goal.returns-else-fields-ge512
returns-else-fields-ge512 c = nets-short c.args.fields.now c.requires.2 (omega arith)
