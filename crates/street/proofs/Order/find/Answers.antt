-- `street::Order::find` meets its contract: of an open label the cells say where it stands, by `found`. Assumes nothing.
use Rattle.street.proofs.Cells.{found}
use Rattle.street.proofs.Order.find.Goals as goal

pub returns : goal.returns
returns c =
    found (record { sound = c.self.invariant; list = c.self.view_is }) c.args.x c.requires c.nearer-fifth.ensures c.nearer.ensures c.nearer-third.ensures
    c.nearer-2.ensures c.nearer-3.ensures
