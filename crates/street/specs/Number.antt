-- The labels of an order as one number, of which each label is a byte, the first the lowest.
use Rattle.std.specs.Prelude.{◌≡◌, List, [], ◌∷◌, ℕ, ◌+◌, ◌*◌}
use Rattle.rules.specs.Bits.{Below}

-- the number of labels
unfoldable pub number : List ℕ → ℕ
number [] = 0
number (x ∷ l) = x + 256 * number l

-- r is the number of these labels, which are bytes
pub record Numbered (l : List ℕ) (r : ℕ) : Type 0 where
  pub is : r ≡ number l
  pub bytes : Below 256 l
