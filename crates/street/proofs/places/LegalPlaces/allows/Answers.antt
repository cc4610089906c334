-- `street::places::LegalPlaces::allows` meets its contract: the table's cells are what its type says. Assumes nothing.
use mathlib.Core.Path.{◌∙◌}
use Rattle.street.proofs.places.LegalPlaces.allows.Goals as goal

pub returns : goal.returns
returns c = c.is_legal.ensures ∙ c.args.self.now.places.places c.args.kind c.args.above c.args.b c.requires.1
