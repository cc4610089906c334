-- What the reader ensures: its answer, and every byte of the row's buffer.
use Rattle.std.specs.Prelude.{◌≡◌, List, ℕ}
use Rattle.rules.specs.Answers.{Reading}
use Rattle.rules.specs.Answers.{reading, row_after}

pub record GivenBack (s row : List ℕ) (r : Reading) (after : List ℕ) : Type 0 where
  pub answer : r ≡ reading s row
  pub bytes : after ≡ row_after r s row
