-- `bits::get_bits` meets its contract: the field is cut out of its window, by `cut_out`.
use mathlib.Core.Path.{◌∙◌, sym}
use Prim.Native.Nat.{ℕ, ◌-◌, ◌%◌}
use native.Mathlib.Omega.{arith}
use Rattle.bits.proofs.Window.{cut_out}
use Rattle.bits.proofs.get_bits.Goals as goal

pub returns : goal.returns
returns c =
    let start = c in
    let g = start.args in
    let seen = c.three in
    let after : ℕ = 24 - g.at % 8 - g.width in
    record {
      is = c.cut.ensures.0 ∙ sym (cut_out g.s.now g.at g.width after seen.result start.requires seen.ensures (omega arith));
      low = c.cut.ensures.1;
    }
