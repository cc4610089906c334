-- `listing::put::Text::list_sheet` meets its contract: heading and the lines of the unpacked nodes make the text. Assumes nothing.
use Prim.Native.Nat.{ℕ}
use native.Mathlib.Omega.{arith}
use lib.ListN.{replicate, length-replicate}
use Rattle.listing.proofs.Writing.{puts-more, room-first, room-second}
use Rattle.listing.proofs.RoutedText.{readable-long, readable-packed, sheet-text}
use Rattle.listing.proofs.put.Text.list_sheet.Goals as goal

pub unpack-requires : goal.unpack-requires
unpack-requires c = readable-packed c.requires.readable (replicate 512 0) (omega (arith, length-replicate {A = ℕ} 512 0))

pub upper_of-requires : goal.upper_of-requires
upper_of-requires c = readable-long c.requires.readable

pub lower_of-requires : goal.lower_of-requires
lower_of-requires c = readable-long c.requires.readable

pub list_head-requires : goal.list_head-requires
list_head-requires c =
    let e = sheet-text c.upper_of.result c.lower_of.result c.requires.readable c.unpack.ensures c.upper_of.ensures.0 c.lower_of.ensures.0 in
    room-first _ _ c.args.self.now (rw e at c.requires.room)

pub list_nodes-requires-clause-room : goal.list_nodes-requires-clause-room
list_nodes-requires-clause-room c =
    let e = sheet-text c.upper_of.result c.lower_of.result c.requires.readable c.unpack.ensures c.upper_of.ensures.0 c.lower_of.ensures.0 in
    room-second _ _ c.args.self.now (rw e at c.requires.room) c.list_head.ensures

pub returns : goal.returns
returns c =
    let e = sheet-text c.upper_of.result c.lower_of.result c.requires.readable c.unpack.ensures c.upper_of.ensures.0 c.lower_of.ensures.0 in
    rw e (puts-more c.list_head.ensures c.list_nodes.ensures)
