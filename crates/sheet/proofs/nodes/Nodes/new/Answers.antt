-- `sheet::nodes::Nodes::new` meets its contract: a sheet without a fault has such nodes, by `faultless`. Assumes nothing.
use Rattle.sheet.proofs.Heads.{headed}
use Rattle.sheet.proofs.Readings.{headless}
use Rattle.sheet.proofs.Walks.{faultless}
use Rattle.sheet.proofs.nodes.Nodes.new.Goals as goal

pub count_of-n-requires : goal.count_of-n-requires
count_of-n-requires c = (headed c.args.s.now (headless c.args.s.now c.requires.0)).long

pub streets_of-requires : goal.streets_of-requires
streets_of-requires c = let h = headed c.args.s.now (headless c.args.s.now c.requires.0) in (h.long, h.upper)

pub invariant_of-result : goal.invariant_of-result
invariant_of-result c =
    record { clear = rw (c.streets_of.ensures.0, c.streets_of.ensures.1, c.count_of-n.ensures.0) (faultless c.args.s.now c.requires.0 c.requires.1) }
