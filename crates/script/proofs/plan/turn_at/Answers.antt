-- Each branch gives the step of its kind, by `turned-rest`, `turned-begun`, `turned-met` and `turned-ended`.
use Rattle.std.proofs.Common.{◌∙◌, ◌<◌, length, sym, arith}
use Rattle.street.specs.Order.{capacity}
use Rattle.script.proofs.ByKind.{rests, begins, ends, meets, not-begun, turned-rest, turned-begun, turned-met, turned-ended}
use Rattle.script.proofs.plan.turn_at.Goals as goal

pub returns-then-x-eq-BLANK : goal.returns-then-x-eq-BLANK
returns-then-x-eq-BLANK c =
    let g = c.args in
    rw (rests g.x g.first g.last g.i c.if-x-eq-BLANK.true, c.new.ensures, c.count-count.ensures.all) (turned-rest g.nets.now g.x)

pub returns-then-from-eq-CAPACITY : goal.returns-then-from-eq-CAPACITY
returns-then-from-eq-CAPACITY c =
    let g = c.args in
    record {
      begins = begins g.x g.first g.last g.i c.if-x-eq-BLANK.false (sym c.from.ensures ∙ c.if-from-i.true);
      six = omega (arith, c.count-count.ensures.all, c.from-then-from-i.ensures, c.if-from-eq-CAPACITY.true);
    }

pub begin-requires-clause-fresh : goal.begin-requires-clause-fresh
begin-requires-clause-fresh c =
    let g = c.args in
    c.requires.fresh (begins g.x g.first g.last g.i c.if-x-eq-BLANK.false (sym c.from.ensures ∙ c.if-from-i.true))

pub returns-then-from-i : goal.returns-then-from-i
returns-then-from-i c =
    let g = c.args in
    let room : length g.nets.now < capacity = omega (arith, c.count-count.ensures.all, c.count-count.ensures.few, c.from-then-from-i.ensures, c.if-from-eq-CAPACITY.false) in
    rw (begins g.x g.first g.last g.i c.if-x-eq-BLANK.false (sym c.from.ensures ∙ c.if-from-i.true), c.new-then-from-i.ensures, c.count-count.ensures.all, c.begin.ensures)
    (turned-begun g.nets.now g.x room)

pub age-age-requires : goal.age-age-requires
age-age-requires c =
    let g = c.args in
    c.requires.there (not-begun g.x g.first g.last g.i c.if-x-eq-BLANK.false (λ e. c.if-from-i.false (c.from.ensures ∙ e)))

pub end-requires : goal.end-requires
end-requires c =
    let g = c.args in
    c.requires.there (not-begun g.x g.first g.last g.i c.if-x-eq-BLANK.false (λ e. c.if-from-i.false (c.from.ensures ∙ e)))

pub returns-then-from-i-2 : goal.returns-then-from-i-2
returns-then-from-i-2 c =
    let g = c.args in
    rw (ends g.x g.first g.last g.i c.if-x-eq-BLANK.false (λ e. c.if-from-i.false (c.from.ensures ∙ e)) (sym c.from-2.ensures ∙ c.if-from-i-2.true), c.new-then-from-i-2.ensures, c.age-age.ensures, c.count-count.ensures.all, c.end.ensures)
    (turned-ended g.nets.now g.x)

pub returns : goal.returns
returns c =
    let g = c.args in
    rw (meets g.x g.first g.last g.i c.if-x-eq-BLANK.false (λ e. c.if-from-i.false (c.from.ensures ∙ e)) (λ e. c.if-from-i-2.false (c.from-2.ensures ∙ e)), c.new-2.ensures, c.age-age.ensures, c.count-count.ensures.all)
    (turned-met g.nets.now g.x)
