-- `film::moves::is_steady` meets its contract: where the test passes at each place, every wire has its height (`all_steady`). Assumes nothing.
use mathlib.Core.Path.{◌≡◌, refl}
use borrow.Author.Rules.{rules}
use borrow.Author.Tests.{tests}
use native.Mathlib.Omega.{arith}
use Rattle.std.proofs.lemmas.Iterator.{serves_from_Range, cases_from_all, YieldsList-from_range}
use Rattle.film.specs.Wires.{wire_at}
use Rattle.film.specs.Moves.{aim}
use Rattle.film.proofs.Aims.{fitting-less}
use Rattle.film.proofs.Steadiness.{all_steady}
use Rattle.film.proofs.moves.is_steady.Goals as goal

pub all-requires-clause-callable : goal.all-requires-clause-callable
all-requires-clause-callable c =
    serves_from_Range (λ x q k. search rules) (λ x a b. (omega (arith, b, c.len.ensures), fitting-less c.requires (omega (arith, b, c.len.ensures))))

pub returns : goal.returns
returns c =
    let a = c.args in
    let n = c.len.result in
    all_steady a.node a.wires.now n c.all.result _ (omega (arith, c.len.ensures))
    (cases_from_all _ _ c.all.result (λ q. (wire_at a.wires.now q).height ≡ aim a.node q) (λ q. Unit {0}) c.all.ensures.ran
    (YieldsList-from_range 0 n n refl (omega arith)) (λ x q k. search (rules, tests)) (λ x q k. tt))
