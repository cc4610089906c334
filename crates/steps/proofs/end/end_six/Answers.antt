-- `steps::end::end_six` meets its contract: the words that are left are put.
use Rattle.steps.specs.Stops.{ending}
use Rattle.steps.proofs.EndingGaps.{six-exactly, six-bare}
use Rattle.steps.proofs.end.end_six.Goals as goal

pub returns : goal.returns
returns c =
    let g = c.args in
    let h = c.requires in
    let f = c.six_left-five in
    let p = c.put_five in record {
      exactly = six-exactly g.work.now g.g f.result p.new.work p.ensures.changed (ending g.net) h.given.empty f.ensures;
      bare = six-bare g.work.now g.g f.result p.new.work p.ensures.changed h.given.empty p.result p.ensures.value;
    }
