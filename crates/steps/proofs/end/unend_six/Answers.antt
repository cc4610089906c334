-- `steps::end::unend_six` meets its contract: the ten words are cut down to what leads on.
use Rattle.steps.specs.Stops.{ending}
use Rattle.steps.proofs.EndingGaps.{six-loses}
use Rattle.steps.proofs.end.unend_six.Goals as goal

pub returns : goal.returns
returns c =
    let g = c.args in
    let h = c.requires in
    let f = c.six_back-five in
    let a = c.keep_five in
    let b = c.keep_five-2 in
    six-loses (ending g.net) h.count g.work.now g.g f.result a.new.work b.new.work h.given.sources f.ensures a.ensures b.ensures
