-- `capi::niraflue_draw` meets its contract: the entry point's own, and `handed`. Assumes nothing.
use Rattle.rules.specs.Answers.{draw_said}
use Rattle.capi.proofs.Places.{draw-place}
use Rattle.capi.proofs.Handing.{handed}
use Rattle.capi.proofs.niraflue_draw.Goals as goal

pub returns : goal.returns
returns c =
    let call = c.draw.ensures in
    handed draw_said call.answer c.code.ensures.1 (draw-place _ _) call c.code.ensures.2
