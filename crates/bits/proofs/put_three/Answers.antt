-- `bits::put_three` meets its contract: it stores the three low bytes one after the other, by `three-put`.
use Rattle.bits.proofs.Window.{three-put}
use Rattle.bits.proofs.put_three.Goals as goal

pub returns : goal.returns
returns c = rw c.to_be_bytes.ensures (three-put c.args.buf.now c.args.i c.args.x c.requires.i_in_bounds c.requires.x_bound)
