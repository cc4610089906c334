-- One node of a walk over a sheet's entries, with an order of labels and the number of nets begun.
use Rattle.std.specs.Prelude.{ℕ, suc, ◌≤◌, ◌<◌, length}
use Rattle.rules.specs.Row.{node}
use Rattle.rules.specs.Street.{last, counted, next}
use Rattle.rules.specs.Sheet.{Entry, begun, net_at, label}
use Rattle.street.specs.Order.{capacity}
use Rattle.sheet.specs.declared.reader.Walk.{Walk}
use Rattle.sheet.specs.Told.{kind_at, above_at}

-- the entry can follow on a walk: it has a position, and its net a number below 256
pub record Ready (e : Entry) (w : Walk) : Type 0 where
  pub stands : above_at e < last (kind_at e) (counted (kind_at e) (length w.order))
  pub few : counted (kind_at e) (length w.order) ≤ capacity
  pub small : begun (kind_at e) w.begun ≤ 256

-- the label of the entry's net, or a blank's
unfoldable pub label_on : Walk → Entry → ℕ
label_on w e = label (net_at (kind_at e) (above_at e) w.begun w.order)

-- the walk after the entry
unfoldable pub after : Walk → Entry → Walk
after w e = record { order = next (node (kind_at e) w.begun) w.order (suc (above_at e)); begun = begun (kind_at e) w.begun }
