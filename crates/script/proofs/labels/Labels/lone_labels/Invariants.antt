-- While nothing is counted, no label passed has one node only.
use Rattle.std.proofs.Common.{length, take}
use Rattle.script.proofs.Noting.{Counting}
use Rattle.script.proofs.labels.Labels.lone_labels.Given as goal

abbrev pub invariant-loop-first : goal.invariant-loop-first
invariant-loop-first l =
    Counting (take 255 l.self.first.now) (take 255 l.self.last.now) (length l.yielded) l.count l.first-iterator.a.rest.now l.first-iterator.b.rest.now
