-- What the search over the sets of orders gives: the entries of the first way through all nodes, or how many nodes can be passed, and work that is clear again.
use Rattle.std.specs.Prelude.{◌≡◌, List, ℕ, suc, ◌<◌, length, take, Result, MatchResult}
use Rattle.steps.specs.Plan.{Step}
use Rattle.steps.specs.Sets.{Clear}
use Rattle.orders.specs.Passes.{Passable}
use Rattle.writer.specs.Entries.{Entry}
use Rattle.router.specs.Walk.{Entered}

-- so many of the steps can be passed, and no more
pub record Blocked (ku kl : ℕ) (ss : List Step) (passed : ℕ) : Type 0 where
  pub within : passed < length ss
  pub passes : Passable ku kl (take passed ss)
  pub stuck : Passable ku kl (take (suc passed) ss) → ⊥

pub record Searched (ku kl : ℕ) (ss : List Step) (work after : List ℕ) (r : Result (Unit {0}) ℕ) (es : List Entry) : Type 0 where
  pub long : length after ≡ length work
  pub clear : Clear after
  pub found : MatchResult r (λ u. Entered ku kl ss es) (Blocked ku kl ss)
