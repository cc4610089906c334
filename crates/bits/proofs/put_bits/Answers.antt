-- `bits::put_bits` meets its contract: the field is patched into its window, by `patched_in`.
use mathlib.Core.Path.{◌≡◌, ◌∙◌, ap}
use Prim.Native.Nat.{ℕ, ◌-◌, ◌/◌, ◌%◌}
use native.Mathlib.Omega.{arith}
use lib.ListN.{length}
use lib.Seq.{sets, length-sets}
use Rattle.rules.specs.Bits.{bits}
use Rattle.bits.specs.Window.{patched, bytes_of}
use Rattle.bits.proofs.Window.{patched_in}
use Rattle.bits.proofs.put_bits.Goals as goal

pub returns : goal.returns
returns c =
    let start = c in
    let g = start.args in
    let old = c.three-old in
    let after : ℕ = 24 - g.at % 8 - g.width in
    let new : ℕ = patched old.result after g.width g.value in
    let stored : c.store_three.new.buf ≡ sets g.buf.now (g.at / 8) (bytes_of new) =
    c.store_three.ensures ∙ ap (λ (y : ℕ). sets g.buf.now (g.at / 8) (bytes_of y)) c.patch.ensures.0 in
    record {
      laid = ap bits stored ∙ patched_in g.buf.now g.at g.width after old.result start.requires.inside old.ensures (omega arith) g.value start.requires.value_bound;
      kept = ap length stored ∙ length-sets g.buf.now (g.at / 8) (bytes_of new);
    }
