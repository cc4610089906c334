-- The open nets of a row: their labels in cells, oldest first, and by label how many are older.
use Rattle.std.specs.Prelude.{◌≡◌, List, [], ◌∷◌, ℕ, zero, suc, ◌-◌, ◌≤◌, ◌<◌, length, get_or}
use Rattle.rules.specs.Basic.{cut}
use Rattle.street.specs.Order.{capacity}

-- what the first b cells hold, the last of them first: labels of open nets that stand there oldest first are so listed youngest first
unfoldable pub lined : List ℕ → ℕ → List ℕ
lined nets zero = []
lined nets (suc b) = get_or nets b 0 ∷ lined nets b

-- the labels of b open nets stand in cells, oldest first, and by label a table tells how many are older
pub record Lined (nets elders : List ℕ) (b : ℕ) : Type 0 where
  pub cells : length nets ≡ capacity
  pub entries : length elders ≡ 256
  pub few : b ≤ capacity
  pub labels : (k : ℕ) → k < b → get_or nets k 0 < 256
  pub known : (k : ℕ) → k < b → get_or elders (get_or nets k 0) 0 ≡ k

-- one of them is gone, with e older, and b are left
pub record Closed (nets : List ℕ) (e b : ℕ) (nets' elders' : List ℕ) : Type 0 where
  pub lines : Lined nets' elders' b
  pub list : lined nets' b ≡ cut (b - e) (lined nets (suc b))
