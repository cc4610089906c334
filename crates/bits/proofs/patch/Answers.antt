-- `bits::patch` meets its contract: the parts stand one above the other, so that no sum passes 24 bits.
use Prim.Native.Nat.{ℕ, ◌+◌, ◌-◌, ◌*◌, ◌/◌, ◌%◌, ◌^◌, ◌<◌}
use native.Mathlib.Omega.{arith}
use lib.Bits.{bit_and}
use Rattle.bits.proofs.Window.{shifted, patch-is, patch-fits}
use Rattle.bits.proofs.patch.Goals as goal
use Rattle.bits.proofs.patch.Goals.{After-from}

abbrev shift : ℕ → ℕ
shift n = 1 * 2 ^ n % 4294967296

sum_fits : (c : After-from)
    → c.args.x / 2 ^ (c.args.width + c.args.after) * shift (c.args.width + c.args.after)
    + (c.from.result * shift c.args.after + bit_and c.args.x (shift c.args.after - 1)) < 2 ^ 24
sum_fits c =
    let g = c.args in
    let h = c.requires in
    let low = shifted g.after (omega arith) in
    let high = shifted (g.width + g.after) (omega arith) in
    rw c.from.ensures (patch-fits g.x g.after g.width g.value h.2 (shift g.after) (shift (g.width + g.after)) low high h.0 h.1)

pub overflow_mul-result-2 : goal.overflow_mul-result-2
overflow_mul-result-2 c = omega (arith, sum_fits c)

pub overflow_add-result : goal.overflow_add-result
overflow_add-result c = omega (arith, sum_fits c)

pub overflow_add-result-2 : goal.overflow_add-result-2
overflow_add-result-2 c = omega (arith, sum_fits c)

pub returns : goal.returns
returns c =
    let g = c.args in
    let h = c.requires in
    let low = shifted g.after (omega arith) in
    let high = shifted (g.width + g.after) (omega arith) in
    (rw c.from.ensures (patch-is g.x g.after g.width g.value h.2 (shift g.after) (shift (g.width + g.after)) low high), sum_fits c)
