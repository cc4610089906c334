-- `film::moves::Plotter::visit_all` meets its contract. The loop's invariant: the pen has come to node i, and what is drawn from there on leads to all
-- records (`Walking`). Assumes nothing.
use Rattle.film.proofs.Trips.{Walking}
use Rattle.film.proofs.moves.Plotter.visit_all.Given as goal

abbrev pub invariant-loop-i : goal.invariant-loop-i
invariant-loop-i l = Walking l.nodes.fields.now l.initial.self l.nodes.clear l.i l.self
