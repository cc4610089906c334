-- `slots::runs::Slots::pass` meets its contract: the stub takes the net's next slot. Assumes nothing.
use mathlib.Core.Path.{refl, ap, ◌∙◌}
use Prim.Native.Nat.{ℕ, ◌<◌}
use native.Mathlib.Omega.{arith}
use Rattle.rules.specs.Film.{axis}
use Rattle.wires.specs.Laying.{in_slot}
use Rattle.slots.specs.Stamps.{stamped}
use Rattle.slots.specs.Slots.{vertical}
use Rattle.slots.proofs.NetArrays.{next_there, stub_next, stub_runs}
use Rattle.slots.proofs.runs.Slots.pass.Goals as goal

pub pass-requires : goal.pass-requires
pass-requires c =
    let a = c.args in
    let next = next_there a.self.now.nets a.self.now.whole a.net (omega (arith, c.ranges.net)) c.from-x.result c.from-x.ensures c.index-self-x.result in
    (omega (arith, next, c.requires.0 a.net), c.requires.1)

pub returns : goal.returns
returns c =
    let a = c.args in
    let p = a.self.now in
    let small : a.net < 256 = omega (arith, c.ranges.net) in
    let d = c.index-self-x.result in
    let next = next_there p.nets p.whole a.net small c.from-x.result c.from-x.ensures d in
    record {
      same = refl;
      film = c.pass.ensures.film ∙ ap (λ (k : ℕ). in_slot stamped k (vertical a.net axis a.level a.column) p.film.now) next;
      next = stub_next p.nets p.whole a.net small c.from-x.result c.from-x.ensures d c.pass.result c.pass.ensures.next;
      runs = stub_runs p.nets p.whole a.net small c.from-x.result c.from-x.ensures d c.pass.result c.pass.ensures.run;
    }
