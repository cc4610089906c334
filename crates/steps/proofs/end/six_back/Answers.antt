-- `steps::end::six_back` meets its contract: no place is legal, the youngest ends, or another.
use mathlib.Core.Path.{refl}
use native.Mathlib.Omega.{arith}
use Prim.Native.Nat.{◌-◌}
use Rattle.steps.specs.Stops.{ending}
use Rattle.steps.proofs.EndingSets.{next_word}
use Rattle.steps.proofs.EndingSix.{third-inside, none-back, first_back, other-back, next-words}
use Rattle.steps.proofs.end.six_back.Goals as goal

pub returns-then-net-lt6 : goal.returns-then-net-lt6
returns-then-net-lt6 c =
    let g = c.args in
    let h = c.requires in
    none-back (ending g.net) h.sound.0 refl h.count g.work.now g.g c.third_alone.result c.if-net-lt6.true c.third_alone.ensures

pub returns-then-a-eq0 : goal.returns-then-a-eq0
returns-then-a-eq0 c =
    let g = c.args in
    let h = c.requires in
    let f = c.five_before in
    first_back (ending g.net) h.sound.0 refl h.count g.work.now g.g c.if-net-lt6.false f.result c.if-a-eq0.true (next-words g.work.now g.g f.result f.ensures)

pub five_back-requires : goal.five_back-requires
five_back-requires c =
    let g = c.args in
    let h = c.requires in
    let z = c.if-a-eq0.false in
    let m = g.net.among in
    (omega arith, third-inside)

pub returns : goal.returns
returns c =
    let g = c.args in
    let h = c.requires in
    let z = c.if-a-eq0.false in
    let n = c.word-n in
    let f = c.five_back in
    other-back (ending g.net) h.sound.0 refl h.count g.work.now g.g c.if-net-lt6.false f.result (g.net.age - 1) n.result (omega arith)
    (next_word g.work.now g.g 2 n.result n.ensures) f.ensures
