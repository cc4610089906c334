-- `listing::put::Text::list_head` meets its contract: four fields make the line. Assumes nothing.
use Rattle.listing.specs.Text.{decimal, sheet_word, head_line}
use Rattle.listing.proofs.Lines.{room-one, room-two, room-three, room-four, puts-line}
use Rattle.listing.proofs.put.Text.list_head.Goals as goal

pub put_word-requires : goal.put_word-requires
unfolding sheet_word head_line
put_word-requires c = room-one sheet_word (decimal c.args.n) (decimal c.args.ku) (decimal c.args.kl) c.requires

pub put_number-requires : goal.put_number-requires
unfolding sheet_word head_line
put_number-requires c = room-two sheet_word (decimal c.args.n) (decimal c.args.ku) (decimal c.args.kl) c.requires c.put_word.ensures

pub put_number-requires-2 : goal.put_number-requires-2
unfolding sheet_word head_line
put_number-requires-2 c = room-three sheet_word (decimal c.args.n) (decimal c.args.ku) (decimal c.args.kl) c.requires c.put_word.ensures c.put_number.ensures

pub put_number-requires-3 : goal.put_number-requires-3
unfolding sheet_word head_line
put_number-requires-3 c = room-four sheet_word (decimal c.args.n) (decimal c.args.ku) (decimal c.args.kl) c.requires c.put_word.ensures c.put_number.ensures c.put_number-2.ensures

pub returns : goal.returns
unfolding sheet_word head_line
returns c = puts-line sheet_word (decimal c.args.n) (decimal c.args.ku) (decimal c.args.kl) c.put_word.ensures c.put_number.ensures c.put_number-2.ensures c.put_number-3.ensures
