-- `steps::touch::touch_six` meets its contract. The loop's invariant: the words passed, two by two, are made anew, and their ranks are joined in one.
use mathlib.Core.Path.{refl}
use Prim.Native.Nat.{◌-◌}
use native.Mathlib.Omega.{arith}
use Rattle.steps.specs.Stops.{meeting}
use Rattle.steps.proofs.Touching.{Six, paired, sifts-bare, none-exactly, six-start, six-step, six-exactly}
use Rattle.steps.proofs.touch.touch_six.Goals as goal

pub returns-then-net-lt6 : goal.returns-then-net-lt6
returns-then-net-lt6 c =
    let g = c.args in
    let h = c.requires in record {
      exactly = none-exactly (meeting g.net) g.work.now g.g (g.g - 1) (omega (arith, h.behind)) h.given.sound refl
          (omega (arith, c.if-net-lt6.true, h.count)) h.given.empty;
      bare = h.given.empty;
    }

pub loop-e-init : goal.loop-e-init
loop-e-init c =
    let g = c.args in
    (six-start g.net.age g.work.now g.g (g.g - 1), omega arith, omega arith)

pub loop-e-preserved : goal.loop-e-preserved
loop-e-preserved c =
    let a = c.args in
    let l = c.loop-e in
    let t = c.loop-e-test.true in
    let m = c.six_at-m in
    let v = c.sift-any in
    let w = c.sift-any-in-loop-e in (
      six-step a.net.age a.work.now a.g (a.g - 1) l.e m.result v.result w.result l.any l.work v.new.work w.new.work
          (omega (arith, c.requires.behind)) l.invariant.1 t l.invariant.0 m.ensures v.ensures.word v.ensures.put w.ensures.word w.ensures.put,
      omega arith,
      omega (arith, t),
    )

pub returns : goal.returns
returns c =
    let g = c.args in
    let h = c.requires in
    let l = c.loop-e in
    let s = g.work.now in record {
      exactly = six-exactly (meeting g.net) s g.g (g.g - 1) (omega (arith, h.behind)) h.given.sound refl h.given.empty h.given.sources l.e l.any l.work
          h.count c.if-net-lt6.false c.loop-e-test.false l.invariant.2 l.invariant.0;
      bare = sifts-bare s g.g (Six g.net.age s g.g (g.g - 1)) (paired l.e) l.work l.any h.given.empty l.invariant.0;
    }
