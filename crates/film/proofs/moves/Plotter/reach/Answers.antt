-- `film::moves::Plotter::reach` meets its contract: a wire moves where the test says so, and rests elsewhere (`step-rests`). Assumes nothing.
use mathlib.Core.Path.{ap, ◌∙◌}
use Rattle.rules.specs.Film.{Wire}
use Rattle.film.specs.Moves.{aim}
use Rattle.film.proofs.Sweeps.{step-rests}
use Rattle.film.proofs.moves.Plotter.reach.Goals as goal

pub returns : goal.returns
returns g c =
    let a = c.args in
    let old = ap (λ (v : Wire). v.height) (c.from.view_is ∙ c.at.ensures) in
    (c.goes.result, rw (old, c.target-to.ensures) at c.goes.ensures, step-rests a.self.now a.q c.goes.result (aim a.node a.q) c.if-goes.false)
