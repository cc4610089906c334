-- `sheet::nodes::Nodes::crowded` meets its contract: its fields have no fault under its streets. Assumes nothing.
use Rattle.sheet.proofs.nodes.Nodes.crowded.Goals as goal

pub crowded-requires : goal.crowded-requires
crowded-requires c = (_, _, c.args.self.clear)
