-- `writer::write_head` meets its contract: the three fields are the digits of one number, by `head-digits`.
use Prim.Native.Nat.{◌+◌, ◌*◌}
use native.Mathlib.Omega.{arith}
use Rattle.writer.proofs.Laying.{put-laid, head-digits}
use Rattle.writer.proofs.write_head.Goals as goal

pub returns : goal.returns
returns c =
    let g = c.args in
    let p = c.put_bits in
    rw (head-digits g.streets.upper g.streets.lower g.n g.streets.lower_few (omega arith)) at (put-laid g.buf.now p.new.buf 0 16 (g.streets.upper * 4096 + (g.streets.lower * 1024 + g.n)) (rw (c.from-upper.ensures, c.from-lower.ensures) at p.ensures))
