-- `steps::end::end_few` meets its contract: what is left of the word before is put.
use mathlib.Core.Path.{refl}
use native.Mathlib.Omega.{arith}
use Rattle.steps.specs.Stops.{ending}
use Rattle.steps.proofs.EndingSets.{few-below, few-source, gone-exactly, put-bare}
use Rattle.steps.proofs.end.end_few.Goals as goal

pub few_left-n-requires : goal.few_left-n-requires
few_left-n-requires c =
    let g = c.args in
    let h = c.requires in record {
      few = (g.net.among, h.count, c.legal-l.ensures.below);
      by_index = few-below g.work.now g.g g.net.count h.count c.before-w.result c.before-w.ensures (λ x l e. (h.given.sources x e).below);
    }

pub returns : goal.returns
returns c =
    let g = c.args in
    let h = c.requires in
    let l = c.legal-l in
    let w = c.before-w in
    let n = c.few_left-n in
    let p = c.put_word in
    let o = few-source g.work.now g.g g.net.count h.count g.net.age l.result w.result n.result w.ensures n.ensures in record {
      exactly = gone-exactly (ending g.net) l.result h.given.sound refl l.ensures (omega arith) g.work.now g.g n.result p.new.work h.given.empty o
          p.ensures;
      bare = put-bare g.work.now g.g 0 n.result p.new.work (omega arith) p.ensures h.given.empty n.ensures.below;
    }
