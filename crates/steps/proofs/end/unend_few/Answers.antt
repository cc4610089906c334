-- `steps::end::unend_few` meets its contract: what leads back is kept of the word.
use mathlib.Core.Path.{refl}
use Rattle.steps.specs.Stops.{ending}
use Rattle.steps.proofs.EndingSets.{few-loses, next_word, marks-below}
use Rattle.steps.proofs.end.unend_few.Goals as goal

pub returns : goal.returns
returns c =
    let g = c.args in
    let h = c.requires in
    let l = c.legal-l in
    let n = c.word-n in
    let z = c.few_back in
    let p = c.keep_word in
    few-loses (ending g.net) l.result h.given.sound refl l.ensures h.count g.work.now g.g (marks-below (ending g.net) g.work.now g.g h.given.sources) n.result z.result
    (next_word g.work.now g.g 0 n.result n.ensures) z.ensures p.new.work p.ensures
