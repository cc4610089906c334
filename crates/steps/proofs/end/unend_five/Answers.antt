-- `steps::end::unend_five` meets its contract: what leads back is kept of the five words.
use mathlib.Core.Path.{refl}
use native.Mathlib.Omega.{arith}
use Rattle.steps.specs.Stops.{ending}
use Rattle.steps.proofs.EndingSets.{next_word}
use Rattle.steps.proofs.EndingGaps.{legal-inside, five-loses}
use Rattle.steps.proofs.end.unend_five.Goals as goal

pub five_back-requires : goal.five_back-requires
five_back-requires c =
    let g = c.args in
    let h = c.requires in
    let l = c.legal-l in
    (omega (arith, g.net.among), legal-inside _ _ l.result g.net.streets.upper_few g.net.streets.lower_few l.ensures)

pub returns : goal.returns
returns c =
    let g = c.args in
    let h = c.requires in
    let l = c.legal-l in
    let n = c.word-n in
    let z = c.five_back in
    let p = c.keep_five in
    five-loses (ending g.net) l.result h.given.sound refl l.ensures h.count g.work.now g.g z.result n.result p.new.work
    (next_word g.work.now g.g 0 n.result n.ensures) z.ensures h.given.sources p.ensures
