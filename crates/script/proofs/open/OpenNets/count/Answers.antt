use Rattle.std.proofs.Common.{length, ap, sym, ◌∙◌}
use Rattle.script.proofs.Lining.{length-lined}
use Rattle.script.proofs.open.OpenNets.count.Goals as goal

pub returns-clause-all : goal.returns-clause-all
returns-clause-all c = sym (length-lined c.self.inside.labels c.self.inside.count) ∙ ap length c.self.view_is
