-- `slots::records::put_across` meets its contract: `across-put`. Assumes nothing.
use native.Mathlib.Omega.{arith}
use Rattle.slots.proofs.Stamping.{across-put}
use Rattle.slots.proofs.records.put_across.Goals as goal

pub returns : goal.returns
returns c =
    let a = c.args in
    let h = c.from in
    across-put a.film.now c.put_record.new.film a.at a.net a.level a.left a.right
    h.result (omega (arith, c.ranges.net)) (omega (arith, h.ensures)) h.ensures.0 c.put_record.ensures
