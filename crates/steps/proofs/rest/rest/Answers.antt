-- `steps::rest::rest` meets its contract: by how many nets are open, where the streets have tracks for them.
use mathlib.Core.Path.{refl}
use native.Mathlib.Omega.{arith}
use Rattle.steps.specs.Stops.{resting}
use Rattle.steps.proofs.Resting.{rest-none, rest-few, rest-five, rest-six}
use Rattle.steps.proofs.rest.rest.Goals as goal

pub returns-then-streets-b-clause-exactly : goal.returns-then-streets-b-clause-exactly
returns-then-streets-b-clause-exactly c =
    let a = c.args in
    let h = c.requires in
    rest-none (resting a.b a.streets) a.work.now a.g refl (omega (arith, c.if-streets-b.true)) h.given.empty

pub returns-in-0-to-4-clause-exactly : goal.returns-in-0-to-4-clause-exactly
returns-in-0-to-4-clause-exactly c =
    let a = c.args in
    let h = c.requires in
    let v = c.copy_on-in-0-to-4 in
    rest-few (resting a.b a.streets) a.work.now a.g refl v.new.work h.given.sound (omega (arith, c.if-streets-b.false)) h.given.empty h.given.sources (omega arith) v.ensures.redone

pub returns-in-5-clause-exactly : goal.returns-in-5-clause-exactly
returns-in-5-clause-exactly c =
    let a = c.args in
    let h = c.requires in
    let v = c.copy_on in
    rest-five (resting a.b a.streets) a.work.now a.g refl v.new.work h.given.sound (omega (arith, c.if-streets-b.false)) h.given.empty h.given.sources (omega arith) v.ensures.redone

pub returns-in_default-clause-exactly : goal.returns-in_default-clause-exactly
returns-in_default-clause-exactly c =
    let a = c.args in
    let h = c.requires in
    let v = c.copy_on-in_default in
    rest-six (resting a.b a.streets) a.work.now a.g refl v.new.work h.given.sound (omega (arith, c.if-streets-b.false)) h.given.empty h.given.sources (omega (arith, h.given.sound.few))
    v.ensures.redone
