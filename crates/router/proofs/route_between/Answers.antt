-- Checks 3 to 5 in their order, then what is laid.
use Rattle.std.proofs.Common.{◌≡◌, ◌≤◌, length, true, arith, add-one, sym, refl}
use Rattle.rules.specs.Answers.{first_lone}
use Rattle.rules.specs.declared.Streets.{Streets}
use Rattle.rules.specs.Sheet.{takes}
use Rattle.rules.proofs.Accepted.{le-takes}
use Rattle.router.proofs.Checking.{routed-lone, routed-work, routed-sheet, routed-fit, routed-laid}
use Rattle.router.proofs.route_between.Goals as goal

takes-of : (s : Streets) → takes s.upper s.lower ≡ true
takes-of s = le-takes s.upper s.lower s.upper_few s.lower_few

pub returns-in-Some : goal.returns-in-Some
returns-in-Some c =
    let g = c.args in
    let t = takes-of g.streets in
    let s = rw c.of-labels.ensures at c.in-Some.ensures.some in
    rw (add-one c.in-Some.alone)
    (routed-lone g.row.now g.streets.upper g.streets.lower g.work.now g.sheet.now c.requires.0 c.requires.1 t c.in-Some.alone (sym s.1) s.0)

pub returns-then-work-n : goal.returns-then-work-n
returns-then-work-n c =
    let g = c.args in
    let t = takes-of g.streets in
    let l : length g.row.now ≤ first_lone g.row.now = omega (arith, rw c.of-labels.ensures at (c.in_default.ensures.none refl)) in
    routed-work g.row.now g.streets.upper g.streets.lower g.work.now g.sheet.now c.requires.0 c.requires.1 t l (omega arith)

pub returns-then-sheet-sheet_size : goal.returns-then-sheet-sheet_size
returns-then-sheet-sheet_size c =
    let g = c.args in
    let t = takes-of g.streets in
    let l : length g.row.now ≤ first_lone g.row.now = omega (arith, rw c.of-labels.ensures at (c.in_default.ensures.none refl)) in
    routed-sheet g.row.now g.streets.upper g.streets.lower g.work.now g.sheet.now c.requires.0 c.requires.1 t l (omega (arith, c.if-work-n.false)) (omega (arith, c.sheet_size.ensures))

pub lay-requires-clause-fit : goal.lay-requires-clause-fit
lay-requires-clause-fit c =
    let g = c.args in
    let t = takes-of g.streets in
    let l : length g.row.now ≤ first_lone g.row.now = omega (arith, rw c.of-labels.ensures at (c.in_default.ensures.none refl)) in
    routed-fit g.row.now g.streets.upper g.streets.lower g.work.now g.sheet.now c.requires.0 c.requires.1 t l (omega (arith, c.if-work-n.false)) (omega (arith, c.sheet_size.ensures, c.if-sheet-sheet_size.false))

pub returns : goal.returns
returns c =
    let g = c.args in
    let t = takes-of g.streets in
    let l : length g.row.now ≤ first_lone g.row.now = omega (arith, rw c.of-labels.ensures at (c.in_default.ensures.none refl)) in
    routed-laid g.row.now g.streets.upper g.streets.lower g.work.now g.sheet.now c.requires.0 c.requires.1 t l (omega (arith, c.if-work-n.false)) (omega (arith, c.sheet_size.ensures, c.if-sheet-sheet_size.false)) c.lay.result _ _ c.lay.ensures
