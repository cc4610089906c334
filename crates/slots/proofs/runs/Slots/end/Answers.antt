-- `slots::runs::Slots::end` meets its contract: the stub touches the run, which then has its slot (`end_leads`). Assumes nothing.
use mathlib.Core.Path.{refl}
use native.Mathlib.Omega.{arith}
use Rattle.slots.proofs.NetArrays.{end_leads}
use Rattle.slots.proofs.runs.Slots.end.Goals as goal

pub returns : goal.returns
returns c =
    let a = c.args in
    let p = a.self.now in
    let q = c.pass.new.self in
    let run = rw c.place.ensures at c.put_across.ensures in (
      c.pass.ensures.same,
      λ starts k. end_leads p.nets q.nets p.whole q.whole a.net (omega (arith, c.ranges.net)) c.from-x.result c.from-x.ensures c.index-self-x.result c.index-self-x-2.result
          p.film.now q.film.now _ a.level a.column starts k _ c.unwrap-run.ensures c.pass.ensures.next c.pass.ensures.runs refl refl c.pass.ensures.film run,
    )
