-- `bits::cut` meets its contract: a mask of ones is a remainder by a power of two.
use Prim.Native.Nat.{◌/◌, ◌^◌}
use native.Mathlib.Omega.{arith}
use Rattle.bits.proofs.Window.{shifted, masked, masked-lt}
use Rattle.bits.proofs.cut.Goals as goal

pub returns : goal.returns
returns c =
    let g = c.args in
    let one = shifted g.width (omega arith) in
    (masked (g.x / 2 ^ g.after) g.width one, masked-lt (g.x / 2 ^ g.after) g.width one)
