-- The net is found by its label: the nets that are no elders, but itself, are younger.
use Rattle.std.proofs.Common.{◌≡◌, ◌∙◌, ℕ, ap, get_or, arith}
use Rattle.script.proofs.Lining.{placed}
use Rattle.script.proofs.open.OpenNets.age.Goals as goal

pub overflow_sub-result : goal.overflow_sub-result
overflow_sub-result c = omega (arith, placed c.self.inside.labels c.self.inside.elders c.self.inside.count c.self.invariant c.args.self.now c.self.view_is c.args.label c.requires)

pub overflow_sub-result-2 : goal.overflow_sub-result-2
overflow_sub-result-2 c =
    let e : c.from-elders.result ≡ get_or c.self.inside.elders c.args.label 0 = c.from-elders.ensures ∙ ap (λ (i : ℕ). get_or c.self.inside.elders i 0) c.from.ensures in
    omega (arith, placed c.self.inside.labels c.self.inside.elders c.self.inside.count c.self.invariant c.args.self.now c.self.view_is c.args.label c.requires)

pub returns : goal.returns
returns c =
    let e : c.from-elders.result ≡ get_or c.self.inside.elders c.args.label 0 = c.from-elders.ensures ∙ ap (λ (i : ℕ). get_or c.self.inside.elders i 0) c.from.ensures in
    omega (arith, placed c.self.inside.labels c.self.inside.elders c.self.inside.count c.self.invariant c.args.self.now c.self.view_is c.args.label c.requires)
