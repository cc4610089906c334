-- `steps::word::put_word` meets its contract: four bytes are stored in a row.
use native.Mathlib.Omega.{arith}
use Rattle.steps.proofs.Words.{word-written}
use Rattle.steps.proofs.word.put_word.Goals as goal

pub returns : goal.returns
returns c =
    let g = c.args in
    word-written g.work.now g.g g.k g.w c.to_le_bytes.result c.requires.0 c.requires.1 (omega (arith, c.ranges.w.fits)) c.to_le_bytes.ensures
