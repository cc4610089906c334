-- The 24 bits that a field of up to 16 bits lies in: three bytes as one number, most significant first.
use Rattle.std.specs.Prelude.{◌≡◌, ℕ, ◌+◌, ◌*◌, ◌/◌, ◌%◌, ◌^◌, ◌<◌, List, [], ◌∷◌, get_or}

-- x is the three bytes from index i as one number; bytes past the end count as 0
pub record Window (s : List ℕ) (i x : ℕ) : Type 0 where
  pub is : x ≡ get_or s i 0 * 65536 + (get_or s (i + 1) 0 * 256 + get_or s (i + 2) 0)
  pub second : get_or s (i + 1) 0 < 256
  pub third : get_or s (i + 2) 0 < 256
  pub low : x < 2 ^ 24

-- x with value as the width bits that stand above its low bits, of which there are after
abbrev pub patched : ℕ → ℕ → ℕ → ℕ → ℕ
patched x after width value = x / 2 ^ (width + after) * 2 ^ (width + after) + (value * 2 ^ after + x % 2 ^ after)

-- the three bytes of a number below 2 ^ 24
abbrev pub bytes_of : ℕ → List ℕ
bytes_of x = x / 65536 ∷ x / 256 % 256 ∷ x % 256 ∷ []
