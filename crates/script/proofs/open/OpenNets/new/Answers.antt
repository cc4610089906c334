use Rattle.std.proofs.Common.{refl}
use Rattle.script.specs.Open.{lined}
use Rattle.script.proofs.open.OpenNets.new.Goals as goal

pub returns : goal.returns
unfolding lined
returns c = refl
