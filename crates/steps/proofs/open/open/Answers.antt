-- `steps::open::open` meets its contract: by the number of nets, what its words mark is what the transition leads to.
use mathlib.Core.Path.{refl}
use native.Mathlib.Omega.{arith}
use Rattle.steps.specs.Stops.{opening}
use Rattle.steps.proofs.OpeningSteps.{opened-exactly, opened-none, opened-at, six-open}
use Rattle.steps.proofs.open.open.Goals as goal

pub returns-in-0-to-3-clause-exactly : goal.returns-in-0-to-3-clause-exactly
returns-in-0-to-3-clause-exactly c =
    let a = c.args in
    let h = c.requires in
    opened-exactly (opening a.b a.streets) a.work.now a.g h.given.sound refl _ c.open_few.ensures.opened

pub returns-in_default-clause-exactly : goal.returns-in_default-clause-exactly
returns-in_default-clause-exactly c =
    let a = c.args in
    let h = c.requires in
    opened-exactly (opening a.b a.streets) a.work.now a.g h.given.sound refl _
    (opened-none (opening a.b a.streets) a.work.now a.g h.given.sound refl (omega (arith, c.if-streets-b.true)) h.given.empty)

pub returns-in-4-clause-exactly : goal.returns-in-4-clause-exactly
returns-in-4-clause-exactly c =
    let a = c.args in
    let h = c.requires in
    opened-at (opening a.b a.streets) a.work.now a.g h.given.sound refl _ _ 4 refl refl (omega arith) _ c.open_fifth.ensures.opened

pub returns-in_default-2-clause-exactly : goal.returns-in_default-2-clause-exactly
returns-in_default-2-clause-exactly c =
    let a = c.args in
    let h = c.requires in
    let (u, l, b) = six-open (opening a.b a.streets) (omega arith) (omega (arith, c.if-streets-b.false)) in
    opened-at (opening a.b a.streets) a.work.now a.g h.given.sound refl 3 3 5 u l b _ c.open_sixth.ensures.opened
