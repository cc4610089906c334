-- `film::open_wires::Wires::remove` meets its contract: the wires behind it stand one nearer (`cut-cells`). Assumes nothing.
use mathlib.Core.Path.{ap, ◌∙◌}
use Prim.Native.Nat.{◌-◌}
use native.Mathlib.Omega.{arith}
use Rattle.std.proofs.lemmas.List.{take-set}
use Rattle.rules.specs.Basic.{cut}
use Rattle.film.proofs.Cells.{count_seen, cut-cells, cut-sound}
use Rattle.film.proofs.open_wires.Wires.remove.Goals as goal

pub invariant_of-self : goal.invariant_of-self
invariant_of-self c =
    let w = c.self in
    let n = count_seen w.invariant w.view_is in
    rw c.free.ensures (cut-sound w.invariant _ c.copy_within.new.self (omega (arith, n, c.requires)) c.copy_within.ensures.len c.copy_within.ensures.after)

pub returns : goal.returns
returns c =
    let a = c.args in
    let w = c.self in
    let n = count_seen w.invariant w.view_is in
    take-set c.copy_within.new.self (w.inside.count - 1) c.free.result
    ∙ cut-cells a.k w.inside.count w.inside.cells c.copy_within.new.self (omega (arith, n, c.requires)) (omega (arith, w.invariant.long, w.invariant.few))
    c.copy_within.ensures.after
    ∙ ap (cut a.k) w.view_is
