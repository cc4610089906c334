-- `street::Order::remove` meets its contract: the sum is the number of the labels without one, by `cells_cut`. Assumes nothing.
use Rattle.street.proofs.Cells.{few, removed}
use Rattle.street.proofs.CellNumbers.{cells_cut}
use Rattle.street.proofs.Order.remove.Goals as goal

pub invariant_of-result : goal.invariant_of-result
invariant_of-result c =
    (removed (record { sound = c.self.invariant; list = c.self.view_is }) c.args.k c.requires
    (cells_cut c.number-o.ensures c.args.k c.power-unit.ensures c.requires (few (record { sound = c.self.invariant; list = c.self.view_is })) c.to_le_bytes.ensures)).sound

pub returns : goal.returns
returns c =
    (removed (record { sound = c.self.invariant; list = c.self.view_is }) c.args.k c.requires
    (cells_cut c.number-o.ensures c.args.k c.power-unit.ensures c.requires (few (record { sound = c.self.invariant; list = c.self.view_is })) c.to_le_bytes.ensures)).list
