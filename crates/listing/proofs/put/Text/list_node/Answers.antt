-- `listing::put::Text::list_node` meets its contract: four fields make the line. Assumes nothing.
use mathlib.Core.List.{[], ◌∷◌}
use Rattle.sheet.specs.Fields.{entry_in}
use Rattle.listing.specs.Text.{decimal}
use Rattle.listing.proofs.Lines.{room-one, room-two, room-three, room-four, puts-line, node-fields}
use Rattle.listing.proofs.put.Text.list_node.Goals as goal

pub put_number-requires : goal.put_number-requires
put_number-requires c =
    let g = c.args in
    let e = node-fields g.number g.nets (entry_in g.fields) c.kind_of-kind.ensures c.above_of.ensures.above c.letter_of.ensures c.place_of-p.ensures c.counted-b.ensures.0 in
    room-one (decimal g.number) (c.letter_of.result ∷ []) (decimal c.place_of-p.result) (decimal c.counted-b.result) (rw e at c.requires.room)

pub put_word-requires : goal.put_word-requires
put_word-requires c =
    let g = c.args in
    let e = node-fields g.number g.nets (entry_in g.fields) c.kind_of-kind.ensures c.above_of.ensures.above c.letter_of.ensures c.place_of-p.ensures c.counted-b.ensures.0 in
    room-two (decimal g.number) (c.letter_of.result ∷ []) (decimal c.place_of-p.result) (decimal c.counted-b.result) (rw e at c.requires.room) c.put_number.ensures

pub put_number-requires-2 : goal.put_number-requires-2
put_number-requires-2 c =
    let g = c.args in
    let e = node-fields g.number g.nets (entry_in g.fields) c.kind_of-kind.ensures c.above_of.ensures.above c.letter_of.ensures c.place_of-p.ensures c.counted-b.ensures.0 in
    room-three (decimal g.number) (c.letter_of.result ∷ []) (decimal c.place_of-p.result) (decimal c.counted-b.result) (rw e at c.requires.room) c.put_number.ensures c.put_word.ensures

pub put_number-requires-3 : goal.put_number-requires-3
put_number-requires-3 c =
    let g = c.args in
    let e = node-fields g.number g.nets (entry_in g.fields) c.kind_of-kind.ensures c.above_of.ensures.above c.letter_of.ensures c.place_of-p.ensures c.counted-b.ensures.0 in
    room-four (decimal g.number) (c.letter_of.result ∷ []) (decimal c.place_of-p.result) (decimal c.counted-b.result) (rw e at c.requires.room) c.put_number.ensures c.put_word.ensures c.put_number-2.ensures

pub returns : goal.returns
returns c =
    let g = c.args in
    let e = node-fields g.number g.nets (entry_in g.fields) c.kind_of-kind.ensures c.above_of.ensures.above c.letter_of.ensures c.place_of-p.ensures c.counted-b.ensures.0 in
    rw e (puts-line (decimal g.number) (c.letter_of.result ∷ []) (decimal c.place_of-p.result) (decimal c.counted-b.result) c.put_number.ensures c.put_word.ensures c.put_number-2.ensures c.put_number-3.ensures)
