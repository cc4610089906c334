-- `capi::niraflue_route` meets its contract: the entry point's own, and `handed`. Assumes nothing.
use Rattle.rules.specs.Answers.{route_said}
use Rattle.capi.proofs.Places.{route-place}
use Rattle.capi.proofs.Handing.{handed}
use Rattle.capi.proofs.niraflue_route.Goals as goal

pub returns : goal.returns
returns c =
    let call = c.route.ensures in
    handed route_said call.answer c.code.ensures.1 (route-place _ _ _ _ _) call c.code.ensures.2
