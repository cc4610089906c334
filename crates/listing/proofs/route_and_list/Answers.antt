-- `listing::route_and_list` meets its contract: what the router gives can be listed, and its text is the row's. Assumes nothing.
use Prim.Native.Nat.{ℕ}
use borrow.Author.Rules.{rules}
use lib.ListN.{length-replicate}
use Rattle.listing.proofs.RoutedText.{listable, routed-listing}
use Rattle.listing.proofs.route_and_list.Goals as goal

pub list_answer-requires : goal.list_answer-requires
list_answer-requires c = record {
  listable = listable c.route-answer.ensures;
  in_bounds = search rules;
}

pub returns : goal.returns
returns c =
    routed-listing c.route-answer.ensures (length-replicate {A = ℕ} 46080 0) (length-replicate {A = ℕ} 386 0) c.list_answer.ensures
