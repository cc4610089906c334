-- `steps::rest::prune_same` meets its contract, by how many nets are open.
use native.Mathlib.Omega.{arith}
use Rattle.steps.proofs.Resting.{copied-few, copied-five, copied-six}
use Rattle.steps.proofs.rest.prune_same.Goals as goal

pub returns-in-0-to-4 : goal.returns-in-0-to-4
returns-in-0-to-4 c =
    let a = c.args in
    let h = c.requires in
    let v = c.copy_back-in-0-to-4 in
    copied-few a.stop a.work.now a.g v.new.work h.given.sound h.kind h.given.sources h.by_index (omega arith) v.ensures

pub returns-in-5 : goal.returns-in-5
returns-in-5 c =
    let a = c.args in
    let h = c.requires in
    let v = c.copy_back in
    copied-five a.stop a.work.now a.g v.new.work h.given.sound h.kind h.given.sources h.by_index (omega arith) v.ensures

pub returns-in_default : goal.returns-in_default
returns-in_default c =
    let a = c.args in
    let h = c.requires in
    let w = c.copy_back-in_default in
    let v = c.copy_back-in_default-2 in
    copied-six a.stop a.work.now a.g v.new.work h.given.sound h.kind h.given.sources h.by_index (omega (arith, h.given.sound.few)) w.new.work w.ensures v.ensures
