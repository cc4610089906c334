-- The label is taken out of its cell, by `closed`.
use Rattle.std.proofs.Common.{◌≡◌, ◌∙◌, ◌-◌, ℕ, suc, ap, get_or, arith}
use Rattle.script.proofs.Lining.{placed, closed}
use Rattle.script.proofs.open.OpenNets.end.Goals as goal

pub overflow_sub-self : goal.overflow_sub-self
overflow_sub-self c = omega (arith, placed c.self.inside.labels c.self.inside.elders c.self.inside.count c.self.invariant c.args.self.now c.self.view_is c.args.label c.requires)

pub close-requires : goal.close-requires
close-requires c =
    let e : c.from-elders.result ≡ get_or c.self.inside.elders c.args.label 0 = c.from-elders.ensures ∙ ap (λ (i : ℕ). get_or c.self.inside.elders i 0) c.from.ensures in
    let p = placed c.self.inside.labels c.self.inside.elders c.self.inside.count c.self.invariant c.args.self.now c.self.view_is c.args.label c.requires in
    let count : suc (c.self.inside.count - 1) ≡ c.self.inside.count = omega (arith, p) in
    (rw count c.self.invariant, omega (arith, p))

pub returns : goal.returns
returns c =
    let e : c.from-elders.result ≡ get_or c.self.inside.elders c.args.label 0 = c.from-elders.ensures ∙ ap (λ (i : ℕ). get_or c.self.inside.elders i 0) c.from.ensures in
    closed c.self.inside.labels c.self.inside.elders c.self.inside.count c.self.invariant c.args.self.now c.self.view_is c.args.label c.requires c.from-elders.result e c.close.new.labels c.close.new.elders c.close.ensures
