-- An entry in a byte is that of its two fields.
use mathlib.Core.Path.{◌≡◌, refl}
use Prim.Native.Nat.{ℕ, ◌/◌, ◌%◌}
use Rattle.rules.specs.Sheet.{entry}
use Rattle.sheet.specs.Fields.{entry_in}

pub entry_in-is : (x : ℕ) → entry_in x ≡ entry (x / 16) (x % 16)
unfolding entry_in
entry_in-is x = refl
