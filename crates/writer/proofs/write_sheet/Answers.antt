-- `writer::write_sheet` meets its contract: head, entries and padding make the sheet, by `sheet-laid`.
use mathlib.Core.Path.{◌≡◌, ap}
use Prim.Native.Nat.{ℕ, ◌+◌, ◌-◌, ◌*◌}
use native.Mathlib.Omega.{arith}
use lib.ListN.{length}
use lib.Pow.{pow_pos}
use borrow.Author.Rules.{rules}
use Rattle.rules.specs.Sheet.{size, padding}
use Rattle.rules.proofs.Fields.{below-from}
use Rattle.writer.proofs.Laying.{sheet-laid}
use Rattle.writer.proofs.write_sheet.Goals as goal

pub write_head-requires : goal.write_head-requires
unfolding size
write_head-requires c = omega (arith, c.requires.room)

pub write_entries-requires : goal.write_entries-requires
unfolding size
write_entries-requires c = record { few = c.requires.few; room = omega (arith, c.requires.room, c.write_head.ensures.kept) }

pub overflow_mul-sheet_size : goal.overflow_mul-sheet_size
unfolding size
overflow_mul-sheet_size c = omega (arith, c.sheet_size.ensures)

pub overflow_sub-sheet_size : goal.overflow_sub-sheet_size
unfolding size
overflow_sub-sheet_size c = omega (arith, c.sheet_size.ensures)

pub put_bits-requires : goal.put_bits-requires
unfolding size
put_bits-requires c =
    let n : ℕ = length c.args.entries.now in record {
      inside = omega (arith, c.sheet_size.ensures, c.requires.room, c.write_entries.ensures.kept, c.write_head.ensures.kept);
      value_bound = pow_pos (8 * c.sheet_size.result - (16 + 6 * n));
    }

pub returns : goal.returns
unfolding padding
returns c =
    let g = c.args in
    let n : ℕ = length g.entries.now in
    let head = c.write_head in
    let entries = c.write_entries in
    let size = c.sheet_size in
    let put = c.put_bits in
    let pad : 8 * size.result - (16 + 6 * n) ≡ padding n = ap (λ (k : ℕ). 8 * k - (16 + 6 * n)) size.ensures in
    sheet-laid g.buf.now g.entries.now g.streets.upper g.streets.lower c.requires head.new.buf entries.new.buf put.new.buf (8 * size.result - (16 + 6 * n))
    (below-from 256 g.buf.now (λ i h. search rules))
    (below-from 256 put.new.buf (λ i h. search rules))
    head.ensures entries.ensures pad put.ensures
