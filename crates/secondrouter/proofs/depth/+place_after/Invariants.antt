use Rattle.std.proofs.Common.{length}
use Rattle.secondrouter.proofs.depth.+place_after.Given as goal

abbrev pub decreases-place_after : goal.decreases-place_after
decreases-place_after l = length l.nodes.now
