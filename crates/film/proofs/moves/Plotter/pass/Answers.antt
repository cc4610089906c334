-- `film::moves::Plotter::pass` meets its contract: `stub-drawn`. Assumes nothing.
use mathlib.Core.Path.{refl, ◌∙◌}
use native.Mathlib.Numerals.{add-one}
use Rattle.film.proofs.Joints.{stub-drawn}
use Rattle.film.proofs.moves.Plotter.pass.Goals as goal

pub returns : goal.returns
returns c =
    let a = c.args in
    let p = a.self.now in
    record {
      same = refl;
      nets = refl;
      wires = refl;
      column = add-one a.x;
      records = refl;
      bytes = stub-drawn p.film.now c.put_wall.new.film p.pen.drawn a.x c.level_of_pins.ensures (c.wire.view_is ∙ c.at-wire.ensures) c.put_wall.ensures;
    }
