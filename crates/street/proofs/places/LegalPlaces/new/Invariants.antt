-- `street::places::LegalPlaces::new` meets its contract. The loop's invariant: in each row b cells are set (`Filled`). Assumes nothing.
use Rattle.street.proofs.PlaceTable.{Filled}
use Rattle.street.proofs.places.LegalPlaces.new.Given as goal

abbrev pub invariant-loop-b : goal.invariant-loop-b
invariant-loop-b l = Filled l.streets.upper l.streets.lower l.b l.rows
