-- Records laid on a film, five bytes each, as far as the film reaches.
use Rattle.std.specs.Prelude.{List, [], ◌∷◌, ℕ, suc}
use Rattle.rules.specs.Film.{Rec, rec_bits}
use Rattle.slots.specs.Stamps.{stamp}

-- no more records can stand for one node: its stub, its last run, and two for each of twelve moves before it
abbrev pub each : ℕ
each = 26

-- more records than 512 nodes can have
abbrev pub most : ℕ
most = 16384

-- the film with records from record i on
unfoldable pub laid : List ℕ → ℕ → List Rec → List ℕ
laid film i [] = film
laid film i (r ∷ rs) = laid (stamp film i (rec_bits r)) (suc i) rs
