-- What a call of the router gives: its answer and every byte of the lent buffers, for all inputs.
use Rattle.std.specs.Prelude.{◌≡◌, List, ℕ}
use Rattle.rules.specs.Answers.{Routing}
use Rattle.rules.specs.Row.{nodes}
use Rattle.rules.specs.Street.{first}
use Rattle.rules.specs.Answers.{routing, outcome, work_after, sheet_after}

-- the router's contract
pub record Routed (row : List ℕ) (ku kl : ℕ) (work out : List ℕ) (r : Routing) (work' out' : List ℕ) : Type 0 where
  pub answer : r ≡ routing row ku kl work out
  pub cleared : work' ≡ work_after r row work
  pub written : out' ≡ sheet_after r row ku kl out

-- what is said and written of a row that passes checks 1 to 5
pub record Laid (row : List ℕ) (ku kl : ℕ) (work out : List ℕ) (r : Routing) (work' out' : List ℕ) : Type 0 where
  pub answer : r ≡ outcome ku kl (nodes row) (first ku kl (nodes row))
  pub cleared : work' ≡ work_after r row work
  pub written : out' ≡ sheet_after r row ku kl out
