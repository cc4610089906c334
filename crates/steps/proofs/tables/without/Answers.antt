-- `steps::tables::without` meets its contract: what is left of all is left of one of the four pieces.
use Rattle.steps.proofs.FourSets.{left-none, left-all}
use borrow.Author.Rules.{rules}
use Rattle.steps.proofs.tables.without.Goals as goal

pub returns-then-x-eq0 : goal.returns-then-x-eq0
returns-then-x-eq0 c = left-none c.args.e c.args.x (search rules)

pub returns : goal.returns
returns c =
    let g = c.args in
    left-all g.e g.x _ _ _ _ c.left_of-a.ensures c.left_of-b.ensures c.left_of-c.ensures
    c.left_of-d.ensures
