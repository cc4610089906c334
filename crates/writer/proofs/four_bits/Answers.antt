-- Four numbers of six bits are one of 24, by `four-digits`.
use Rattle.std.proofs.Common.{arith}
use Rattle.writer.proofs.Laying.{four-digits, four-list, entered-four}
use Rattle.writer.proofs.four_bits.Goals as goal

pub returns : goal.returns
returns c =
    let a = c.index-four-0 in
    let b = c.index-four-1 in
    let d = c.index-four-2 in
    let e = c.index-four-3 in
    let x = c.six_bits.ensures in
    let y = c.six_bits-2.ensures in
    let z = c.six_bits-3.ensures in
    let w = c.six_bits-4.ensures in (
      rw (four-list c.args.four.now a.result b.result d.result e.result c.requires a.is b.is d.is e.is, entered-four a.result b.result d.result e.result)
          (four-digits c.six_bits.result c.six_bits-2.result c.six_bits-3.result c.six_bits-4.result y.1 z.1 w.1 x.0 y.0 z.0 w.0),
      omega (arith, x.1, y.1, z.1, w.1),
    )
