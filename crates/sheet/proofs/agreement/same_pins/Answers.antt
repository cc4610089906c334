-- `sheet::agreement::same_pins` meets its contract, by the invariant of Invariants.antt. Assumes nothing.
use mathlib.Core.Path.{sym, ◌∙◌}
use native.Mathlib.Numerals.{add-one}
use native.Mathlib.Omega.{arith}
use lib.ListN.{get_or}
use Rattle.rules.proofs.PinsTest.{same_test, other_test}
use Rattle.sheet.proofs.Matches.{match-start, match-step, match-fails, match-end}
use Rattle.sheet.proofs.agreement.same_pins.Goals as goal

pub returns-then-row-n : goal.returns-then-row-n
returns-then-row-n c =
    let a = c.args in
    sym (other_test a.row.now a.own.now (λ s. c.if-row-n.true s.count))

pub loop-i-init : goal.loop-i-init
loop-i-init c =
    match-start c.args.row.now c.args.own.now c.requires

pub returns-then-nets-label : goal.returns-then-nets-label
returns-then-nets-label c =
    let a = c.args in
    let l = c.loop-i in
    sym (other_test a.row.now a.own.now
    (match-fails a.row.now a.own.now l.nets l.i l.begun (omega arith) l.invariant (omega arith) (λ e. c.if-nets-label.true (e ∙ sym c.known.ensures))))

pub loop-i-preserved : goal.loop-i-preserved
loop-i-preserved c =
    let a = c.args in
    let l = c.loop-i in
    match-step a.row.now a.own.now l.nets l.i l.begun (omega arith) l.invariant (omega arith)
    (c.if-nets-label.false ∙ c.known.ensures) (add-one (get_or a.own.now l.i 0)) c.begun_after-begun.ensures

pub returns : goal.returns
returns c =
    let a = c.args in
    let l = c.loop-i in
    sym (same_test a.row.now a.own.now
    (match-end a.row.now a.own.now l.nets l.begun l.i (omega arith) (omega (arith, l.invariant.within)) l.invariant))
