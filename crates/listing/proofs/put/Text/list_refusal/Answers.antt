-- `listing::put::Text::list_refusal` meets its contract: four fields make the line. Assumes nothing.
use Rattle.listing.specs.Text.{decimal, refused_word, at_word, refused_line}
use Rattle.listing.proofs.Lines.{room-one, room-two, room-three, room-four, puts-line}
use Rattle.listing.proofs.put.Text.list_refusal.Goals as goal

pub put_word-requires : goal.put_word-requires
unfolding refused_word at_word refused_line
put_word-requires c = room-one refused_word (decimal c.args.said.number) at_word (decimal c.args.said.place) c.requires

pub put_number-requires : goal.put_number-requires
unfolding refused_word at_word refused_line
put_number-requires c = room-two refused_word (decimal c.args.said.number) at_word (decimal c.args.said.place) c.requires c.put_word.ensures

pub put_word-requires-2 : goal.put_word-requires-2
unfolding refused_word at_word refused_line
put_word-requires-2 c = room-three refused_word (decimal c.args.said.number) at_word (decimal c.args.said.place) c.requires c.put_word.ensures c.put_number.ensures

pub put_number-requires-2 : goal.put_number-requires-2
unfolding refused_word at_word refused_line
put_number-requires-2 c = room-four refused_word (decimal c.args.said.number) at_word (decimal c.args.said.place) c.requires c.put_word.ensures c.put_number.ensures c.put_word-2.ensures

pub returns : goal.returns
unfolding refused_word at_word refused_line
returns c = puts-line refused_word (decimal c.args.said.number) at_word (decimal c.args.said.place) c.put_word.ensures c.put_number.ensures c.put_word-2.ensures c.put_number-2.ensures
