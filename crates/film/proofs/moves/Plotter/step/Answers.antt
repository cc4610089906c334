-- `film::moves::Plotter::step` meets its contract: a run that ends and a vertical (`move-drawn`). Assumes nothing.
use mathlib.Core.Path.{refl, ap, ◌∙◌}
use mathlib.Core.List.{List}
use native.Mathlib.Numerals.{add-one}
use lib.ListN.{length, length-set}
use Rattle.rules.specs.Basic.{pick}
use Rattle.rules.specs.Film.{Wire, drawn}
use Rattle.film.proofs.Sweeps.{move-drawn}
use Rattle.film.proofs.moves.Plotter.step.Goals as goal

pub returns : goal.returns
unfolding pick drawn
returns c =
    let a = c.args in
    let p = a.self.now in
    record {
      same = refl;
      nets = refl;
      count = ap (λ (l : List Wire). length l) c.bend.ensures ∙ length-set p.pen.wires a.q _;
      list = c.bend.ensures;
      column = add-one p.pen.column;
      records = refl;
      bytes = move-drawn p.film.now c.put_across.new.film c.put_wall.new.film p.pen.drawn a.level p.pen.column (c.wire.view_is ∙ c.at-wire.ensures) c.put_across.ensures c.put_wall.ensures;
    }
