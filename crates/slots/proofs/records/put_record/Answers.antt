-- `slots::records::put_record` meets its contract: five bytes in the place of the record (`cell-stamped`). Assumes nothing.
use mathlib.Core.List.{◌++◌}
use Prim.Native.Nat.{◌+◌, ◌-◌, ◌*◌}
use native.Mathlib.Omega.{arith}
use Rattle.rules.specs.Bits.{digits}
use Rattle.slots.proofs.Stamping.{stamp-short, three-bytes, cell-stamped}
use Rattle.slots.proofs.records.put_record.Goals as goal

pub returns-then-film-end : goal.returns-then-film-end
returns-then-film-end c =
    let a = c.args in
    stamp-short a.film.now (digits 13 a.first ++ (digits 13 a.second ++ digits 14 a.third)) a.at c.if-film-end.true

pub returns : goal.returns
returns c =
    let a = c.args in
    let l = digits 13 a.first ++ (digits 13 a.second ++ digits 14 a.third) in
    cell-stamped a.film.now c.fill.new.cell l a.at (5 * a.at + 5 - 5 * a.at) c.if-film-end.false (omega arith) (three-bytes a.first a.second a.third) c.fill.ensures
