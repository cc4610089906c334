-- The code's level as contracts see it: as its height.
use Rattle.std.specs.Prelude.{◌≡◌, ℕ, ℤ}
use Rattle.std.proofs.Common.{ap}
use Rattle.slots.specs.declared.levels.Level.TheInside.{Inside}
use Rattle.slots.specs.Heights.{high, Level, level, level-high}

abbrev pub height_of : Inside → ℕ
height_of a = high a.0

abbrev pub OnTrack : Inside → Type 0
OnTrack a = Level a.0

abbrev pub of_height : ℕ → Inside
of_height h = record { 0 = level h }

pub of_height_ok : (a : Inside) → OnTrack a → of_height (height_of a) ≡ a
of_height_ok a h = ap (λ (z : ℤ). record { 0 = z }) (level-high a.0 h)
