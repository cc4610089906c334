-- `film::moves::Plotter::sink` meets its contract. The loop's invariant: the wires from q on are moved (`Sinking`). Assumes nothing.
use Rattle.film.specs.Moves.{aim}
use Rattle.film.proofs.Sweeps.{Sinking}
use Rattle.film.proofs.moves.Plotter.sink.Given as goal

abbrev pub invariant-loop-q : goal.invariant-loop-q
invariant-loop-q l = Sinking (aim l.node) l.initial.self l.self l.q
