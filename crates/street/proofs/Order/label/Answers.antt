-- `street::Order::label` meets its contract: the byte of the number at a place is the list's label there, by `get_or-number`. Assumes nothing.
use Rattle.street.proofs.CellNumbers.{get_or-number}
use Rattle.street.proofs.Order.label.Goals as goal

pub returns : goal.returns
returns c = get_or-number c.number.ensures c.args.k c.power.ensures c.requires
