-- `steps::tables::five_at` meets its contract: the net is the youngest, or stands where the youngest pushes it to.
use native.Mathlib.Omega.{arith}
use Rattle.steps.proofs.EndingFive.{pushed-lt}
use Rattle.steps.proofs.Masks.{stands-first, stands-older}
use Rattle.steps.proofs.tables.five_at.Goals as goal

pub returns-then-a-eq0 : goal.returns-then-a-eq0
returns-then-a-eq0 c =
    let g = c.args in
    let t = c.taken in
    stands-first g.l g.e g.a t.result (omega arith) t.ensures.0 t.ensures.1

pub standing-requires : goal.standing-requires
standing-requires c =
    let g = c.args in
    let h = c.requires in
    (omega arith, pushed-lt g.l g.e h.1 h.2)

pub returns : goal.returns
returns c =
    let g = c.args in
    let h = c.requires in
    stands-older g.l g.e g.a c.standing.result h.1 h.2 h.0 c.if-a-eq0.false c.standing.ensures
