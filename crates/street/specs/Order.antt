-- The cells of an order: the labels of the open nets, from top to bottom, and 0 in each cell that is free.
use Rattle.std.specs.Prelude.{◌≡◌, List, ◌++◌, ℕ, ◌-◌, ◌≤◌, length, take, replicate}

-- the most nets that can be open, which the code calls CAPACITY
abbrev pub capacity : ℕ
capacity = 6

-- the cells, which the code calls CELLS
abbrev pub cells : ℕ
cells = 8

-- a cell for each label, and the free ones behind them
abbrev pub cells_with : List ℕ → List ℕ
cells_with l = l ++ replicate (cells - length l) 0

-- no more nets than can be open are counted, and the cells behind them are free
pub record Sound (nets : List ℕ) (count : ℕ) : Type 0 where
  pub long : length nets ≡ cells
  pub few : count ≤ capacity
  pub free : nets ≡ cells_with (take count nets)
