-- `steps::word::word` meets its contract: the four bytes tell the number.
use native.Mathlib.Omega.{arith}
use Rattle.steps.proofs.Words.{word_read}
use Rattle.steps.proofs.word.word.Goals as goal

pub returns : goal.returns
returns c =
    let g = c.args in
    omega (arith, word_read g.work.now g.g g.k)
