-- `slots::records::put_upright` meets its contract: `upright-put`. Assumes nothing.
use native.Mathlib.Omega.{arith}
use Rattle.slots.proofs.Stamping.{upright-put}
use Rattle.slots.proofs.records.put_upright.Goals as goal

pub returns : goal.returns
returns c =
    let a = c.args in
    let h = c.from in
    let k = c.from-2 in
    upright-put a.film.now c.put_record.new.film a.at a.net a.low a.column a.top
    h.result (omega (arith, c.ranges.net)) (omega (arith, h.ensures)) h.ensures.0 k.result k.ensures.0
    c.put_record.ensures
