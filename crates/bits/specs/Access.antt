-- What reading and writing a field of up to 16 bits asks and gives.
use Rattle.std.specs.Prelude.{◌≡◌, ℕ, ◌+◌, ◌*◌, ◌^◌, ◌≤◌, ◌<◌, List, length}
use Rattle.std.proofs.Math.Seq.{paste}
use Rattle.rules.specs.Bits.{bits, digits, field}

-- a field that can be read or written at once, and lies in the bytes
pub record Inside (s : List ℕ) (at width : ℕ) : Type 0 where
  pub small : width ≤ 16
  pub within : at + width ≤ 8 * length s

-- r was read
pub record Got (s : List ℕ) (at width r : ℕ) : Type 0 where
  pub is : r ≡ field s at width
  pub low : r < 2 ^ width

-- value was written, and every other bit is as it was
pub record Put (s : List ℕ) (at width value : ℕ) (s' : List ℕ) : Type 0 where
  pub laid : bits s' ≡ paste (bits s) at (digits width value) width
  pub kept : length s' ≡ length s
