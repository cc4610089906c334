-- `slots::runs::Slots::begin` meets its contract: the stub begins a run (`begin_leads`). Assumes nothing.
use mathlib.Core.Path.{refl}
use native.Mathlib.Omega.{arith}
use Rattle.slots.proofs.NetArrays.{next_there, begin_leads}
use Rattle.slots.proofs.runs.Slots.begin.Goals as goal

pub put_wall-requires : goal.put_wall-requires
put_wall-requires c =
    let a = c.args in
    let next = next_there a.self.now.nets a.self.now.whole a.net (omega (arith, c.ranges.net)) c.from-x.result c.from-x.ensures c.index-self-x.result in
    (omega (arith, c.place.ensures, next, c.requires.0 a.net), c.requires.2)

pub with_run-requires : goal.with_run-requires
with_run-requires c =
    let a = c.args in
    let next = next_there a.self.now.nets a.self.now.whole a.net (omega (arith, c.ranges.net)) c.from-x.result c.from-x.ensures c.index-self-x.result in
    (omega (arith, next, c.requires.0 a.net), c.requires.2)

pub returns : goal.returns
returns c =
    let a = c.args in
    let p = a.self.now in
    let v = c.with_run in
    let wall = rw (c.place.ensures, c.level_of_pins.ensures) at c.put_wall.ensures in (
      refl,
      λ starts k. begin_leads p.nets p.whole a.net (omega (arith, c.ranges.net)) c.from-x.result c.from-x.ensures c.index-self-x.result a.column starts k
          p.film.now _ a.level c.requires.2 v.result v.ensures.next v.ensures.run c.requires.1 wall,
    )
