use Rattle.std.proofs.Common.{◌≡◌, ◌+◌, ◌-◌, ◌*◌, ◌/◌, ◌<◌, ℕ, length, take, drop, length-drop, arith}
use lib.Seq.{take_all}
use native.Mathlib.Nat.{add_assoc}
use Rattle.writer.proofs.Laying.{started-one, next-entry}
use Rattle.writer.proofs.write_entries.Goals as goal

pub loop-i-preserved : goal.loop-i-preserved
loop-i-preserved c = let es = c.args.entries.now in let done : ℕ = length es / 4 * 4 in
    let whole : take (length es - done) (drop done es) ≡ drop done es = take_all (length es - done) (drop done es) (omega (arith, length-drop done es)) in
    let h : done + c.loop-i.i < length es = omega (arith, c.loop-i-test.true, length-drop done es) in
    rw (← add_assoc)
    (started-one es c.args.buf.now (omega (arith, c.requires.room)) (done + c.loop-i.i) c.six_bits.result c.entry-item.result c.loop-i.buf c.put_bits.new.buf h
    (next-entry es done c.loop-i.i c.entry-item.result (rw whole at c.entry-item.is) h) c.six_bits.ensures.0 c.loop-i.invariant c.put_bits.ensures)
