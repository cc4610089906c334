-- `film::moves::Plotter::cross` meets its contract: a gap where nothing moves is passed over (`steady-swept`), and another is the climb and then the sink
-- (`cross-swept`). Assumes nothing.
use Rattle.film.specs.Moves.{aim}
use Rattle.film.proofs.Sweeps.{cross-swept}
use Rattle.film.proofs.Steadiness.{steady-swept, steady-reaches}
use Rattle.film.proofs.moves.Plotter.cross.Goals as goal

pub returns-then-is_steady : goal.returns-then-is_steady
returns-then-is_steady c =
    let a = c.args in
    let s = c.is_steady in
    steady-swept a.node a.self.now _ c.requires.2 (steady-reaches a.node a.self.now.pen.wires s.result s.ensures c.if-is_steady.true)

pub returns : goal.returns
returns c =
    let a = c.args in
    cross-swept (aim a.node) a.self.now c.climb.new.self c.sink.new.self c.requires.2 c.climb.ensures c.sink.ensures
