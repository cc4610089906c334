-- `street::places::LegalPlaces::new` meets its contract, by the invariant of Invariants.antt. Assumes nothing.
use mathlib.Core.Path.{refl}
use native.Mathlib.Omega.{arith}
use Rattle.street.proofs.PlaceTable.{filled-start, filled_next, filled-end}
use Rattle.street.proofs.places.LegalPlaces.new.Goals as goal

pub loop-b-init : goal.loop-b-init
loop-b-init c = filled-start c.args.streets.upper c.args.streets.lower

pub loop-b-preserved : goal.loop-b-preserved
loop-b-preserved c =
    let f = c.loop-b.invariant in
    filled_next c.places_among-places.result f (omega arith) c.places_among-places.ensures (rw f.is refl)

pub invariant_of-result : goal.invariant_of-result
invariant_of-result c =
    let f = c.loop-b.invariant in
    record { places = filled-end c.places_among.result f (omega arith) (omega arith) c.places_among.ensures (rw f.is refl) }
