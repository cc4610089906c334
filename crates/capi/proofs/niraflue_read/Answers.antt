-- `capi::niraflue_read` meets its contract: the entry point's own, and `handed`. Assumes nothing.
use Rattle.rules.specs.Answers.{read_said}
use Rattle.capi.proofs.Places.{read-place}
use Rattle.capi.proofs.Handing.{handed}
use Rattle.capi.proofs.niraflue_read.Goals as goal

pub returns : goal.returns
returns c =
    let call = c.read.ensures in
    handed read_said call.answer c.code.ensures.1 (read-place _ _) call c.code.ensures.2
