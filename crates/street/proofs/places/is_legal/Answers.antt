-- `street::places::is_legal` meets its contract: the code's test of a bit is the definition's. Assumes nothing.
use mathlib.Core.Path.{◌≡◌, refl}
use Rattle.rules.specs.declared.Kind.{Kind}
use Rattle.rules.specs.declared.Kind.TheVariants.{B, M, E, N}
use Rattle.rules.specs.contracts.Kind.{the_type}
use Rattle.rules.specs.Sheet.{code}
use Rattle.street.specs.Places.{marked}
use Rattle.street.proofs.places.is_legal.Goals as goal
use denote.Enum.Declared.{tag_of}

-- the kinds stand in the order of their kind fields
tag-code : (k : Kind) → tag_of the_type k ≡ code k
unfolding code
tag-code B = refl
tag-code M = refl
tag-code E = refl
tag-code N = refl

pub returns : goal.returns
unfolding marked
returns c = rw (tag-code c.args.kind) refl
