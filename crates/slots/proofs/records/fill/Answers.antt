-- `slots::records::fill` meets its contract: three fields put one after the other fill the bytes (`cell-three`). Assumes nothing.
use native.Mathlib.Omega.{arith}
use Rattle.slots.proofs.Stamping.{bytes_below, cell-three}
use borrow.Author.Rules.{rules}
use Rattle.slots.proofs.records.fill.Goals as goal

pub returns : goal.returns
returns c =
    let a = c.args in
    cell-three a.cell.now c.put_bits.new.buf c.put_bits-2.new.buf c.put_bits-3.new.buf
    a.first a.second a.third
    (bytes_below a.cell.now (λ i. search rules))
    (bytes_below c.put_bits-3.new.buf (λ i. omega (arith, c.type_inv.cell i)))
    c.requires.0 c.put_bits.ensures c.put_bits-2.ensures c.put_bits-3.ensures
