-- `orders::pass::enter_sixth` meets its contract: where place 2 makes no marked rank, place 3 does.
use Prim.Native.Nat.{◌%◌}
use Rattle.steps.proofs.Words.{bit-set, bit-unset}
use Rattle.orders.proofs.Entering.{sixth-third, sixth-fourth}
use Rattle.orders.proofs.pass.enter_sixth.Goals as goal

pub returns-then-word-r-eq1 : goal.returns-then-word-r-eq1
returns-then-word-r-eq1 c =
    let a = c.args in
    let w = c.word in
    sixth-third a.work.now a.g a.r c.requires.g_in_bounds.1 c.requires.by_index w.result w.ensures (bit-set w.result (a.r % 24) c.if-word-r-eq1.true)

pub returns : goal.returns
returns c =
    let a = c.args in
    let w = c.word in
    sixth-fourth a.work.now a.g a.r c.requires.g_in_bounds.1 c.requires.by_index w.result w.ensures (bit-unset w.result (a.r % 24) c.if-word-r-eq1.false) c.requires.somewhere
