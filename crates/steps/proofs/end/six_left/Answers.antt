-- `steps::end::six_left` meets its contract: no place is legal, the youngest ends, or another.
use mathlib.Core.Path.{refl}
use native.Mathlib.Omega.{arith}
use Prim.Native.Nat.{◌-◌}
use Rattle.steps.specs.Stops.{ending}
use Rattle.steps.proofs.EndingSix.{third-inside, none_left, first-left, other-left, joined_words}
use Rattle.steps.proofs.end.six_left.Goals as goal

pub returns-then-net-lt6 : goal.returns-then-net-lt6
returns-then-net-lt6 c =
    let g = c.args in
    let h = c.requires in
    none_left (ending g.net) h.sound.0 refl h.count g.work.now g.g c.third_alone.result c.if-net-lt6.true c.third_alone.ensures

pub returns-then-a-eq0 : goal.returns-then-a-eq0
returns-then-a-eq0 c =
    let g = c.args in
    let h = c.requires in
    let v = c.either-five in
    let x = c.five_before-2 in
    let y = c.five_before in
    first-left (ending g.net) h.sound.0 refl h.count g.work.now g.g h.sources c.if-net-lt6.false v.result
    (joined_words g.work.now g.g y.result x.result v.result v.ensures y.ensures x.ensures) c.if-a-eq0.true

pub five_left-requires : goal.five_left-requires
five_left-requires c =
    let g = c.args in
    let h = c.requires in
    let z = c.if-a-eq0.false in
    let m = g.net.among in
    (omega arith, third-inside)

pub returns : goal.returns
returns c =
    let g = c.args in
    let h = c.requires in
    let z = c.if-a-eq0.false in
    let v = c.either-five in
    let x = c.five_before-2 in
    let y = c.five_before in
    let n = c.five_left in
    let k = c.third_alone-2 in
    other-left (ending g.net) h.sound.0 refl h.count g.work.now g.g h.sources c.if-net-lt6.false v.result
    (joined_words g.work.now g.g y.result x.result v.result v.ensures y.ensures x.ensures) (g.net.age - 1) n.result
    k.result (omega arith) n.ensures k.ensures
