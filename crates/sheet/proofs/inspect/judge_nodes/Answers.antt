-- `sheet::inspect::judge_nodes` meets its contract, by the invariant of Invariants.antt. Assumes nothing.
use native.Mathlib.Omega.{arith}
use Rattle.sheet.proofs.Scans.{ends_open, scan_step, scan-stops, scan-fault, scan-end}
use Rattle.sheet.proofs.inspect.judge_nodes.Goals as goal

pub fault_at-requires : goal.fault_at-requires
fault_at-requires c =
    let r = rw c.new-legal.ensures at c.if-not-allows.ensures in
    record {
      few = omega arith;
      fault = scan-stops c.loop-i.invariant (omega arith) c.kind_of-kind.ensures c.above_of.ensures.above r;
    }

pub returns-then-not-allows : goal.returns-then-not-allows
returns-then-not-allows c = scan-fault c.loop-i.invariant (omega arith) c.fault_at.ensures

pub left_open-b-requires : goal.left_open-b-requires
left_open-b-requires c =
    let r = rw c.new-legal.ensures at c.if-not-allows.ensures in
    (omega arith, ends_open c.loop-i.invariant (omega arith) c.kind_of-kind.ensures c.above_of.ensures.above r)

pub loop-i-preserved : goal.loop-i-preserved
loop-i-preserved c =
    let r = rw c.new-legal.ensures at c.if-not-allows.ensures in
    scan_step c.loop-i.invariant (omega arith) c.kind_of-kind.ensures c.above_of.ensures.above r c.left_open-b.ensures

pub returns : goal.returns
returns c = scan-end c.loop-i.invariant (omega arith)
