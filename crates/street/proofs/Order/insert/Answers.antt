-- `street::Order::insert` meets its contract: the sum is the number of the labels with x put in, by `cells-put`. Assumes nothing.
use mathlib.Core.Path.{ap, ◌∙◌}
use Prim.Native.Nat.{ℕ}
use native.Mathlib.Omega.{arith}
use Rattle.rules.specs.Basic.{put}
use Rattle.street.proofs.Cells.{inserted}
use Rattle.street.proofs.CellNumbers.{cells-put, put-lt}
use Rattle.street.proofs.Order.insert.Goals as goal

pub overflow_add-after : goal.overflow_add-after
overflow_add-after c =
    omega (arith, put-lt c.number-o.ensures c.args.k c.power-unit.ensures c.requires.1 {x = c.from.result} (omega arith) c.requires.0)

pub overflow_mul-after : goal.overflow_mul-after
overflow_mul-after c = omega (arith, overflow_add-after c)

pub overflow_add-after-2 : goal.overflow_add-after-2
overflow_add-after-2 c =
    omega (arith, put-lt c.number-o.ensures c.args.k c.power-unit.ensures c.requires.1 {x = c.from.result} (omega arith) c.requires.0)

pub overflow_mul-after-2 : goal.overflow_mul-after-2
overflow_mul-after-2 c = omega (arith, overflow_add-after-2 c)

pub invariant_of-result : goal.invariant_of-result
invariant_of-result c =
    let bytes = cells-put c.number-o.ensures c.args.k c.power-unit.ensures c.requires.1 {x = c.from.result} (omega arith) c.requires.0 c.to_le_bytes.ensures in
    (inserted (record { sound = c.self.invariant; list = c.self.view_is }) c.args.k c.from.result c.requires.0 bytes).sound

pub returns : goal.returns
returns c =
    let bytes = cells-put c.number-o.ensures c.args.k c.power-unit.ensures c.requires.1 {x = c.from.result} (omega arith) c.requires.0 c.to_le_bytes.ensures in
    (inserted (record { sound = c.self.invariant; list = c.self.view_is }) c.args.k c.from.result c.requires.0 bytes).list
    ∙ ap (λ (x : ℕ). put c.args.k x c.args.self) c.from.ensures
