-- `steps::open::clear` meets its contract: the bytes of its words are 0.
use native.Mathlib.Omega.{arith}
use Rattle.steps.proofs.OpeningBack.{zeroed-cleared, cleared-loses}
use Rattle.steps.proofs.open.clear.Goals as goal

pub returns : goal.returns
returns c =
    let g = c.args in
    let z = c.fill.ensures.after (λ y e. e) in
    cleared-loses g.work.now g.g _ (rw z (zeroed-cleared g.work.now g.g _ _ c.requires (omega arith) (omega arith)))
