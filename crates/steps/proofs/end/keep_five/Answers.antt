-- `steps::end::keep_five` meets its contract: three words in a row are cut down.
use Rattle.steps.proofs.EndingGaps.{five-anded}
use Rattle.steps.proofs.end.keep_five.Goals as goal

pub returns : goal.returns
returns c =
    let g = c.args in
    let x = c.keep_word in
    let y = c.keep_word-2 in
    let z = c.keep_word-3 in
    five-anded g.work.now g.g g.k g.five x.new.work y.new.work z.new.work c.requires.1 x.ensures y.ensures z.ensures
