-- `script::open::close` meets its contract. The loop's invariant is `Closing`: the younger nets before a cell have moved up.
use native.Mathlib.Numerals.{add-one}
use Rattle.script.proofs.Lining.{closing-none, closing-more, closing_end, mover}
use Rattle.script.proofs.open.close.Goals as goal

pub loop-k-init : goal.loop-k-init
loop-k-init c = let g = c.args in closing-none g.labels.now g.elders.now g.e g.b c.requires.0 c.requires.1

pub loop-k-preserved : goal.loop-k-preserved
loop-k-preserved c =
    let s = c in
    let g = s.args in
    let l = c.loop-k in
    rw (c.from.ensures, add-one l.k)
    (closing-more g.labels.now g.elders.now g.e g.b s.requires.0 s.requires.1 l.labels l.elders l.k l.invariant c.loop-k-test.true _
    (mover g.labels.now g.elders.now g.e g.b s.requires.0 s.requires.1 l.labels l.elders l.k l.invariant c.loop-k-test.true))

pub returns : goal.returns
returns c =
    let s = c in
    let g = s.args in
    let l = c.loop-k in
    closing_end g.labels.now g.elders.now g.e g.b s.requires.0 l.labels l.elders l.k l.invariant c.loop-k-test.false
