-- `steps::touch::touch_five` meets its contract. The loop's invariant: the words passed are made anew, and their ranks are joined in one.
use mathlib.Core.Path.{refl}
use Prim.Native.Nat.{◌-◌}
use native.Mathlib.Omega.{arith}
use Rattle.steps.specs.Masks.{between}
use Rattle.steps.specs.Stops.{meeting}
use Rattle.steps.proofs.Touching.{Five, sifts-bare, five-start, five-step, five-exactly}
use Rattle.steps.proofs.touch.touch_five.Goals as goal

pub loop-e-init : goal.loop-e-init
loop-e-init c =
    let g = c.args in
    (five-start g.net.age c.legal-l.result g.work.now g.g (g.g - 1), omega arith, omega arith)

pub loop-e-preserved : goal.loop-e-preserved
loop-e-preserved c =
    let a = c.args in
    let l = c.loop-e in
    let t = c.loop-e-test.true in
    let m = c.five_at-m in
    let v = c.sift-any in (
      five-step a.net.age c.legal-l.result a.work.now a.g (a.g - 1) l.e m.result v.result l.any l.work
          v.new.work (omega (arith, c.requires.behind)) l.invariant.1 t l.invariant.0 m.ensures v.ensures.word v.ensures.put,
      omega arith,
      omega (arith, t),
    )

pub returns : goal.returns
returns c =
    let g = c.args in
    let h = c.requires in
    let f = c.legal-l in
    let l = c.loop-e in
    let s = g.work.now in record {
      exactly = five-exactly (meeting g.net) s g.g (g.g - 1) (omega (arith, h.behind)) h.given.sound refl h.given.empty h.given.sources f.result l.e l.any l.work
          h.count f.ensures c.loop-e-test.false l.invariant.2 l.invariant.0;
      bare = sifts-bare s g.g (Five g.net.age f.result s g.g (g.g - 1)) (between 1 l.e) l.work l.any h.given.empty l.invariant.0;
    }
