-- Where no label has one node only no node is lone, by `apart_none`; else the first node whose label is such is, by `found-lone`.
use Rattle.script.proofs.Noting.{apart_none, found-lone}
use Rattle.script.proofs.labels.Labels.lone.Goals as goal

pub returns-then-lone_labels-eq0-clause-none : goal.returns-then-lone_labels-eq0-clause-none
returns-then-lone_labels-eq0-clause-none c =
    let s = c.args.self.now in
    λ z. apart_none s.row.now s.first.now s.last.now s.tabled (c.lone_labels.ensures c.if-lone_labels-eq0.true)

pub returns-clause-none : goal.returns-clause-none
returns-clause-none c = let s = c.args.self.now in (found-lone s.row.now s.first.now s.last.now s.tabled c.first_lone.result c.first_lone.ensures).0

pub returns-clause-some : goal.returns-clause-some
returns-clause-some c = let s = c.args.self.now in (found-lone s.row.now s.first.now s.last.now s.tabled c.first_lone.result c.first_lone.ensures).1
