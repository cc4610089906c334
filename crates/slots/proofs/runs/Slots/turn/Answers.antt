-- `slots::runs::Slots::turn` meets its contract: the run that ended has its slot, and the vertical begins one (`turn_leads`). Assumes nothing.
use mathlib.Core.Path.{refl}
use native.Mathlib.Omega.{arith}
use Rattle.slots.proofs.NetArrays.{next_there, turn_leads}
use Rattle.slots.proofs.runs.Slots.turn.Goals as goal

pub put_wall-requires : goal.put_wall-requires
put_wall-requires c =
    let a = c.args in
    let next = next_there a.self.now.nets a.self.now.whole a.net (omega (arith, c.ranges.net)) c.from-x.result c.from-x.ensures c.index-self-x.result in
    (omega (arith, c.place-2.ensures, next, c.requires.0 a.net), c.requires.2)

pub with_run-requires : goal.with_run-requires
with_run-requires c =
    let a = c.args in
    let next = next_there a.self.now.nets a.self.now.whole a.net (omega (arith, c.ranges.net)) c.from-x.result c.from-x.ensures c.index-self-x.result in
    (omega (arith, next, c.requires.0 a.net), c.requires.2)

pub returns : goal.returns
returns c =
    let a = c.args in
    let p = a.self.now in
    let v = c.with_run in
    let run = rw c.place.ensures at c.put_across.ensures in
    let wall = rw c.place-2.ensures at c.put_wall.ensures in (
      refl,
      λ starts k. turn_leads p.nets p.whole a.net (omega (arith, c.ranges.net)) c.from-x.result c.from-x.ensures c.index-self-x.result a.column starts k
          p.film.now _ a.level c.requires.2 v.result v.ensures.next v.ensures.run a.old c.unwrap-run.ensures run wall,
    )
