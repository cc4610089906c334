-- The label stands behind those of the open nets, by `opened_lines` and `opened`.
use Rattle.std.proofs.Common.{arith, add-one}
use Rattle.script.proofs.Lining.{below, opened_lines, opened}
use Rattle.script.proofs.open.OpenNets.begin.Goals as goal

pub bounds-self-inside-self-inside : goal.bounds-self-inside-self-inside
bounds-self-inside-self-inside c =
    below c.self.inside.labels c.self.inside.elders c.self.inside.count c.self.invariant c.args.self.now c.self.view_is c.args.label (omega arith) c.requires.room c.requires.fresh

pub invariant_of-self : goal.invariant_of-self
invariant_of-self c =
    rw (c.from.ensures, add-one c.self.inside.count)
    (opened_lines c.self.inside.labels c.self.inside.elders c.self.inside.count c.self.invariant c.args.self.now c.self.view_is c.args.label (omega arith) c.requires.room c.requires.fresh)

pub returns : goal.returns
returns c =
    rw (add-one c.self.inside.count)
    (opened c.self.inside.labels c.self.inside.elders c.self.inside.count c.self.invariant c.args.self.now c.self.view_is c.args.label (omega arith) c.requires.room c.requires.fresh)
