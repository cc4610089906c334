-- `street::Order::number` meets its contract: the bytes of the number are the cells, of which the free ones are 0, by `numbered`. Assumes nothing.
use borrow.Author.Rules.{rules}
use Rattle.street.proofs.CellNumbers.{numbered}
use Rattle.street.proofs.Order.number.Goals as goal

pub returns : goal.returns
returns c = numbered (record { sound = c.self.invariant; list = c.self.view_is }) (search rules) c.from_le_bytes.ensures
