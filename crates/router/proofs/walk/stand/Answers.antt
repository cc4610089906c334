-- By the kind: `entered-stood`, `met-stood`, `ended-stood` and `rested-stood`.
use Rattle.std.proofs.Common.{arith, refl, sym, ◌∙◌}
use Rattle.std.specs.Prelude.{IsTrue}
use Rattle.steps.specs.Plan.{turn_kind, touches}
use Rattle.orders.proofs.Entering.{enters-somewhere, enters-room, enters-ranks}
use Rattle.router.proofs.Turning.{entered-room, entered-stood, located-found, located-within, met-stood, ended-stood, rested-stood}
use Rattle.router.proofs.walk.stand.Goals as goal

pub enter-place-requires-clause-g_in_bounds : goal.enter-place-requires-clause-g_in_bounds
enter-place-requires-clause-g_in_bounds c =
    let a = c.args in
    let w = c.requires in
    rw (c.from.ensures, c.count.ensures) (w.room, enters-room a.stop a.work.now a.g a.rank w.stop (rw (sym c.turn.ensures ∙ c.in-Begins.is) refl) w.rank w.led w.onward, w.rank)

pub enter-place-requires-clause-somewhere : goal.enter-place-requires-clause-somewhere
enter-place-requires-clause-somewhere c =
    let a = c.args in
    let w = c.requires in
    rw (c.from.ensures, c.count.ensures) (enters-somewhere a.stop a.work.now a.g a.rank w.stop (rw (sym c.turn.ensures ∙ c.in-Begins.is) refl) w.rank w.led w.onward)

pub enter-place-requires-clause-by_index : goal.enter-place-requires-clause-by_index
enter-place-requires-clause-by_index c =
    let a = c.args in
    let w = c.requires in
    rw (c.from.ensures, c.count.ensures) (enters-ranks a.stop a.work.now a.g a.rank w.stop (rw (sym c.turn.ensures ∙ c.in-Begins.is) refl) w.rank w.led)

pub insert-requires : goal.insert-requires
insert-requires c =
    let a = c.args in
    let w = c.requires in
    let o = entered-room a.held a.stop a.work.now a.g a.rank a.x w (rw (sym c.turn.ensures ∙ c.in-Begins.is) refl) c.enter-place.result.at c.enter-place.result.rest
    (rw (c.from.ensures, c.count.ensures) at c.enter-place.ensures) in
    (o.0, omega (arith, o.1))

pub remove-requires : goal.remove-requires
remove-requires c =
    let a = c.args in
    let w = c.requires in
    let t : IsTrue (touches (turn_kind a.stop.step.turn)) = rw (sym c.turn.ensures ∙ c.in-Ends.is) refl in
    located-within a.held a.stop a.work.now a.g a.rank a.x w t (rw (sym c.turn.ensures ∙ c.in-Ends.is) (rw (c.from-in-Ends.ensures, c.from-in-Ends-2.ensures, c.count-in-Ends.ensures) at c.locate-place.ensures.at))

pub returns-in-Begins : goal.returns-in-Begins
returns-in-Begins c =
    let a = c.args in
    let w = c.requires in
    let n = c.enter-place in
    entered-stood a.held a.stop a.work.now a.g a.rank a.x w (rw (sym c.turn.ensures ∙ c.in-Begins.is) refl) n.result.at n.result.rest
    (rw (c.from.ensures, c.count.ensures) at n.ensures) c.insert.result c.insert.ensures

pub returns-in-Meets : goal.returns-in-Meets
returns-in-Meets c =
    let a = c.args in
    let w = c.requires in
    let t : IsTrue (touches (turn_kind a.stop.step.turn)) = rw (sym c.turn.ensures ∙ c.in-Meets.is) refl in
    met-stood a.held a.stop a.work.now a.g a.rank a.x w t c.find-at.result c.find-at.ensures (rw (sym c.turn.ensures ∙ c.in-Meets.is) refl)

pub returns-in-Ends : goal.returns-in-Ends
returns-in-Ends c =
    let a = c.args in
    let w = c.requires in
    let t : IsTrue (touches (turn_kind a.stop.step.turn)) = rw (sym c.turn.ensures ∙ c.in-Ends.is) refl in
    let l = c.locate-place in
    let p = located-found a.held a.stop a.work.now a.g a.rank a.x w t {p = l.result.at}
    (rw (sym c.turn.ensures ∙ c.in-Ends.is) (rw (c.from-in-Ends.ensures, c.from-in-Ends-2.ensures, c.count-in-Ends.ensures) at l.ensures.at)) in
    ended-stood a.held a.stop a.work.now a.g a.rank a.x w t l.result.at p
    (rw (sym c.turn.ensures ∙ c.in-Ends.is) refl) l.result.rest (rw (sym c.turn.ensures ∙ c.in-Ends.is) (rw (c.from-in-Ends.ensures, c.from-in-Ends-2.ensures, c.count-in-Ends.ensures) at l.ensures.rest)) c.remove.result c.remove.ensures

pub returns-in-Rests : goal.returns-in-Rests
returns-in-Rests c =
    let a = c.args in
    let w = c.requires in
    rested-stood a.held a.stop a.work.now a.g a.rank a.x w (rw (sym c.turn.ensures ∙ c.in-Rests.is) refl) _ (omega arith)
