-- `listing::put::Text::list` meets its contract: 8256 bytes have room for every text, and a refusal has its number and place. Assumes nothing.
use mathlib.Core.Path.{◌≡◌, ap, ◌∙◌}
use native.Mathlib.Omega.{arith}
use Rattle.std.specs.declared.result.Result.TheVariants.{Err}
use Rattle.rules.specs.Answers.{route_said, says}
use Rattle.listing.specs.Text.{listed, refused_line}
use Rattle.listing.proofs.Writing.{room-start, puts-listing}
use Rattle.listing.proofs.Lengths.{sheet-short, refusal-short}
use Rattle.listing.proofs.put.Text.list.Goals as goal

pub list_sheet-requires-clause-readable : goal.list_sheet-requires-clause-readable
list_sheet-requires-clause-readable c = c.requires.listable c.in-Ok.n c.in-Ok.is

pub list_sheet-requires-clause-room : goal.list_sheet-requires-clause-room
list_sheet-requires-clause-room c = room-start c.requires.start c.requires.in_bounds (sheet-short (c.requires.listable c.in-Ok.n c.in-Ok.is))

pub list_refusal-requires : goal.list_refusal-requires
list_refusal-requires c =
    room-start c.requires.start c.requires.in_bounds (refusal-short c.from.result.number c.from.result.place (omega arith) (omega arith))

pub returns-in-Ok-clause-listing : goal.returns-in-Ok-clause-listing
returns-in-Ok-clause-listing c =
    let room = room-start c.requires.start c.requires.in_bounds (sheet-short (c.requires.listable c.in-Ok.n c.in-Ok.is)) in
    rw c.in-Ok.is (puts-listing c.requires.start room c.list_sheet.ensures)

pub returns-in-Err-clause-listing : goal.returns-in-Err-clause-listing
unfolding listed
returns-in-Err-clause-listing c =
    let room = room-start c.requires.start c.requires.in_bounds (refusal-short c.from.result.number c.from.result.place (omega arith) (omega arith)) in
    let e : refused_line (says c.from.result.number c.from.result.place) ≡ refused_line (route_said (Err c.in-Err.field-0)) = ap refused_line (c.from.ensures ∙ ap route_said c.in-Err.is) in
    rw c.in-Err.is (rw e at (puts-listing c.requires.start room c.list_refusal.ensures))
