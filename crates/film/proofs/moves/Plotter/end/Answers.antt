-- `film::moves::Plotter::end` meets its contract: the stub, and then the last run (`end-drawn`). Assumes nothing.
use mathlib.Core.Path.{ap, ◌∙◌}
use mathlib.Core.List.{List}
use native.Mathlib.Omega.{arith}
use Rattle.rules.specs.Basic.{cut}
use Rattle.rules.specs.Film.{Wire}
use Rattle.film.specs.Wires.{wire_at}
use Rattle.film.proofs.Joints.{end-drawn}
use Rattle.film.proofs.moves.Plotter.end.Goals as goal

pub returns : goal.returns
returns c =
    let a = c.args in
    let p = a.self.now in
    let s = c.pass.ensures in
    let there = c.wire.view_is ∙ c.at-wire.ensures ∙ ap (λ (l : List Wire). wire_at l a.above) s.wires in
    record {
      same = s.same;
      nets = s.nets;
      wires = c.remove.ensures ∙ ap (λ (l : List Wire). cut a.above l) s.wires;
      column = s.column;
      records = omega (arith, s.records);
      bytes = end-drawn p.film.now c.pass.new.self.film.now c.put_across.new.film p.pen.drawn c.pass.new.self.pen.drawn a.x there s.records s.bytes c.put_across.ensures;
    }
