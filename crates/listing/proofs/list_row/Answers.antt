-- `listing::list_row` meets its contract: the row and its track counts are those of the input. Assumes nothing.
use native.Mathlib.Omega.{arith}
use Rattle.listing.proofs.Writing.{prefix_len_of_le}
use Rattle.listing.proofs.RoutedText.{text-listing}
use Rattle.listing.proofs.InputText.{short-input, long-input}
use Rattle.listing.proofs.list_row.Goals as goal

pub returns-in_default : goal.returns-in_default
returns-in_default c = let g = c.args in record {
  listing = text-listing (short-input g.input.now (omega arith)) c.route_and_list.ensures;
  prefix_len = prefix_len_of_le _ _ c.route_and_list.ensures.within;
}

pub returns-in-len2-up : goal.returns-in-len2-up
returns-in-len2-up c = let g = c.args in record {
  listing = text-listing (long-input g.input.now (omega arith)) c.route_and_list-in-len2-up.ensures;
  prefix_len = prefix_len_of_le _ _ c.route_and_list-in-len2-up.ensures.within;
}
