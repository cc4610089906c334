-- `steps::open::unopen` meets its contract: by the number of nets, what its words keep is what leads on.
use mathlib.Core.Path.{◌≡◌, refl}
use native.Mathlib.Omega.{arith}
use Rattle.steps.specs.Sets.{source}
use Rattle.steps.specs.Stops.{opening}
use Rattle.steps.proofs.EndingSets.{marks-below}
use Rattle.steps.proofs.OpeningSteps.{entered-onward, entered_at, none-onward, six-open}
use Rattle.steps.proofs.open.unopen.Goals as goal

pub unopen_few-requires-clause-by_index : goal.unopen_few-requires-clause-by_index
unopen_few-requires-clause-by_index c = marks-below (opening c.args.b c.args.streets) c.args.work.now c.args.g c.requires.given.sources

pub returns-in-0-to-3 : goal.returns-in-0-to-3
returns-in-0-to-3 c =
    let a = c.args in
    let h = c.requires in
    entered-onward (opening a.b a.streets) a.work.now a.g h.given.sound refl _ c.unopen_few.ensures

pub returns-in_default : goal.returns-in_default
returns-in_default c =
    let a = c.args in
    let h = c.requires in
    none-onward (opening a.b a.streets) a.work.now a.g h.given.sound refl (omega (arith, c.if-streets-b.true)) _ c.clear.ensures

pub unopen_fifth-requires-clause-by_index : goal.unopen_fifth-requires-clause-by_index
unopen_fifth-requires-clause-by_index c =
    let e : c.args.b ≡ 4 = omega arith in
    rw (← e) (marks-below (opening c.args.b c.args.streets) c.args.work.now c.args.g c.requires.given.sources)

pub returns-in-4 : goal.returns-in-4
returns-in-4 c =
    let a = c.args in
    let h = c.requires in
    entered_at (opening a.b a.streets) a.work.now a.g h.given.sound refl _ _ 4 refl refl (omega arith) _ c.unopen_fifth.ensures

pub unopen_sixth-requires-clause-by_index : goal.unopen_sixth-requires-clause-by_index
unfolding source
unopen_sixth-requires-clause-by_index c =
    let (u, l, b) = six-open (opening c.args.b c.args.streets) (omega arith) (omega (arith, c.if-streets-b.false)) in
    rw b at c.requires.given.sources

pub returns-in_default-2 : goal.returns-in_default-2
returns-in_default-2 c =
    let a = c.args in
    let h = c.requires in
    let (u, l, b) = six-open (opening a.b a.streets) (omega arith) (omega (arith, c.if-streets-b.false)) in
    entered_at (opening a.b a.streets) a.work.now a.g h.given.sound refl 3 3 5 u l b _ c.unopen_sixth.ensures
