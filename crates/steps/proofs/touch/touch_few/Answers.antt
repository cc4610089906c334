-- `steps::touch::touch_few` meets its contract: one word under one mask.
use mathlib.Core.Path.{refl}
use Prim.Native.Nat.{◌-◌}
use native.Mathlib.Omega.{arith}
use Rattle.steps.specs.Sets.{word_at}
use Rattle.steps.specs.Stops.{meeting}
use Rattle.steps.proofs.Touching.{few-done, few-exactly, few-bare}
use Rattle.steps.proofs.touch.touch_few.Goals as goal

pub returns : goal.returns
returns c =
    let g = c.args in
    let h = c.requires in
    let l = c.legal-l in
    let m = c.few_at-m in
    let v = c.sift in
    let s = g.work.now in record {
      exactly = few-exactly (meeting g.net) s g.g (g.g - 1) (omega (arith, h.behind)) h.given.sound refl h.given.empty h.given.sources l.result v.new.work
          h.count l.ensures
          (few-done (meeting g.net) l.result s g.g (g.g - 1) m.result v.result v.new.work (omega (arith, h.behind)) h.count
          h.given.sources m.ensures v.ensures.word v.ensures.put);
      bare = few-bare s g.g m.result (word_at s (g.g - 1) 0) v.result v.new.work m.ensures.below v.ensures.word v.ensures.put
          h.given.empty;
    }
