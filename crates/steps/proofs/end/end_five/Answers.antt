-- `steps::end::end_five` meets its contract: what is left of the five words before is put.
use mathlib.Core.Path.{refl}
use native.Mathlib.Omega.{arith}
use Rattle.steps.specs.Stops.{ending}
use Rattle.steps.proofs.EndingSets.{put-bare}
use Rattle.steps.proofs.EndingGaps.{legal-inside, five-exactly}
use Rattle.steps.proofs.end.end_five.Goals as goal

pub five_left-n-requires : goal.five_left-n-requires
five_left-n-requires c =
    let g = c.args in
    let h = c.requires in
    let l = c.legal-l in
    (omega (arith, g.net.among), legal-inside _ _ l.result g.net.streets.upper_few g.net.streets.lower_few l.ensures)

pub returns : goal.returns
returns c =
    let g = c.args in
    let h = c.requires in
    let l = c.legal-l in
    let f = c.five_before-five in
    let n = c.five_left-n in
    let p = c.put_word in record {
      exactly = five-exactly (ending g.net) l.result h.given.sound refl l.ensures h.count g.work.now g.g f.result n.result p.new.work
          f.ensures h.given.sources h.given.empty n.ensures p.ensures;
      bare = put-bare g.work.now g.g 0 n.result p.new.work (omega arith) p.ensures h.given.empty n.ensures.below;
    }
