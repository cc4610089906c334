-- The open wires as the list of wires that the film's definition speaks of.
use Rattle.std.specs.Prelude.{◌≡◌, List, ◌++◌, ℕ, ◌-◌, ◌≤◌, length, take, replicate, get_or}
use Rattle.rules.specs.Film.{axis, Wire}
use Rattle.street.specs.Order.{capacity}

-- what stands past the end of a list of wires, and in a free cell: nothing is drawn of it
abbrev pub missing : Wire
missing = record { net = 0; height = axis; since = 0 }

abbrev pub wire_at : List Wire → ℕ → Wire
wire_at ws k = get_or ws k missing

-- the cells that hold these wires
abbrev pub cells_with : List Wire → List Wire
cells_with ws = ws ++ replicate (capacity - length ws) missing

-- a cell for each wire that can be open, no more counted, and the others free
pub record Sound (cells : List Wire) (count : ℕ) : Type 0 where
  pub long : length cells ≡ capacity
  pub few : count ≤ capacity
  pub free : cells ≡ cells_with (take count cells)
