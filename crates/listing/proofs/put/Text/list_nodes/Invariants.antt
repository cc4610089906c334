-- `listing::put::Text::list_nodes` meets its contract. The loop's invariant: the lines of the first i nodes are put. Assumes nothing.
use Rattle.listing.proofs.Lines.{Through}
use Rattle.listing.proofs.put.Text.list_nodes.Given as goal

abbrev pub invariant-loop-i : goal.invariant-loop-i
invariant-loop-i l = Through l.fields l.initial.self l.i l.nets l.self
