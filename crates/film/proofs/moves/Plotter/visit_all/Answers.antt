-- `film::moves::Plotter::visit_all` meets its contract, by the invariant of Invariants.antt. Assumes nothing.
use native.Mathlib.Omega.{arith}
use Rattle.film.proofs.Trips.{walk_start, walk-above, walk-due, walk_step, walk_end}
use Rattle.film.proofs.moves.Plotter.visit_all.Goals as goal

pub loop-i-init : goal.loop-i-init
loop-i-init c = let g = c.args.nodes in walk_start g.fields.now c.args.self.now g.clear c.requires

pub node_of-requires : goal.node_of-requires
node_of-requires c =
    let g = c.args.nodes in
    let l = c.loop-i in
    (omega (arith, c.from-upper.ensures, g.clear.upper), walk-above g.fields.now c.args.self.now g.clear l.i l.self l.invariant c.loop-i-test.true)

pub visit-requires : goal.visit-requires
visit-requires c =
    let g = c.args.nodes in
    let l = c.loop-i in
    walk-due g.fields.now c.args.self.now g.clear l.i l.self l.invariant c.loop-i-test.true c.node_of.result (rw c.from-upper.ensures at c.node_of.ensures)

pub loop-i-preserved : goal.loop-i-preserved
loop-i-preserved c =
    let g = c.args.nodes in
    let l = c.loop-i in
    walk_step g.fields.now c.args.self.now g.clear l.i l.self l.invariant c.loop-i-test.true c.node_of.result (rw c.from-upper.ensures at c.node_of.ensures) c.visit.new.self c.visit.ensures

pub returns-clause-laid : goal.returns-clause-laid
returns-clause-laid c =
    let g = c.args.nodes in
    let l = c.loop-i in
    walk_end g.fields.now c.args.self.now g.clear l.i l.self l.invariant c.loop-i-test.false
