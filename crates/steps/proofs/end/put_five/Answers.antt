-- `steps::end::put_five` meets its contract: three words in a row are put.
use mathlib.Core.Path.{refl}
use Rattle.steps.proofs.EndingGaps.{five-put}
use Rattle.steps.proofs.end.put_five.Goals as goal

pub returns : goal.returns
returns c =
    let g = c.args in
    let x = c.put_word in
    let y = c.put_word-2 in
    let z = c.put_word-3 in record {
      changed = five-put g.work.now g.g g.five x.new.work y.new.work z.new.work x.ensures y.ensures z.ensures;
      value = refl;
    }
