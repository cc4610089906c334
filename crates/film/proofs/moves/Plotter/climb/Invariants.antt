-- `film::moves::Plotter::climb` meets its contract. The loop's invariant: what is left of the climb leads to the whole (`Climbing`). Assumes nothing.
use Rattle.film.specs.Moves.{aim}
use Rattle.film.proofs.Sweeps.{Climbing}
use Rattle.film.proofs.moves.Plotter.climb.Given as goal

abbrev pub invariant-loop-q : goal.invariant-loop-q
invariant-loop-q l = Climbing (aim l.node) l.initial.self l.self l.q
