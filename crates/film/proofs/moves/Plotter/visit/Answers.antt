-- `film::moves::Plotter::visit` meets its contract: the gap and then the node, kind by kind (`visit-visited`). Assumes nothing.
use native.Mathlib.Omega.{arith}
use Rattle.film.proofs.Joints.{goes-on-open, ends_open, joined-goes-on, joined-ends, joined-blank}
use Rattle.film.proofs.Trips.{visit-able, visit-joinable, visit-visited}
use Rattle.film.proofs.moves.Plotter.visit.Goals as goal

pub cross-requires : goal.cross-requires
cross-requires c =
    let a = c.args in
    (visit-able a.node a.i a.self.now c.requires, c.requires.fitting, omega (arith, c.requires.column))

pub begin-requires : goal.begin-requires
begin-requires c =
    let a = c.args in
    (visit-joinable a.node a.i a.self.now c.requires c.cross.new.self c.cross.ensures, c.in-B.is)

pub pass-requires : goal.pass-requires
pass-requires c =
    let a = c.args in
    goes-on-open a.node _ c.cross.new.self (visit-joinable a.node a.i a.self.now c.requires c.cross.new.self c.cross.ensures) c.in-M.is

pub end-requires : goal.end-requires
end-requires c =
    let a = c.args in
    ends_open a.node _ c.cross.new.self (visit-joinable a.node a.i a.self.now c.requires c.cross.new.self c.cross.ensures) c.in-E.is

pub returns-in-B : goal.returns-in-B
returns-in-B c =
    let a = c.args in
    visit-visited a.node a.i a.self.now c.requires c.cross.new.self c.cross.ensures c.begin.new.self c.begin.ensures

pub returns-in-M : goal.returns-in-M
returns-in-M c =
    let a = c.args in
    let j = visit-joinable a.node a.i a.self.now c.requires c.cross.new.self c.cross.ensures in
    visit-visited a.node a.i a.self.now c.requires c.cross.new.self c.cross.ensures c.pass.new.self
    (joined-goes-on a.node _ c.cross.new.self j c.pass.new.self c.in-M.is c.pass.ensures)

pub returns-in-E : goal.returns-in-E
returns-in-E c =
    let a = c.args in
    let j = visit-joinable a.node a.i a.self.now c.requires c.cross.new.self c.cross.ensures in
    visit-visited a.node a.i a.self.now c.requires c.cross.new.self c.cross.ensures c.end.new.self
    (joined-ends a.node _ c.cross.new.self j c.end.new.self c.in-E.is c.end.ensures)

pub returns-in-N : goal.returns-in-N
returns-in-N c =
    let a = c.args in
    let j = visit-joinable a.node a.i a.self.now c.requires c.cross.new.self c.cross.ensures in
    visit-visited a.node a.i a.self.now c.requires c.cross.new.self c.cross.ensures c.skip.new.self
    (joined-blank a.node _ c.cross.new.self j c.skip.new.self c.in-N.is c.skip.ensures)
