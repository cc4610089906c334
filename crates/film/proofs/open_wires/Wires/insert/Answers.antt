-- `film::open_wires::Wires::insert` meets its contract: the wires from k on stand one further (`put-cells`). Assumes nothing.
use mathlib.Core.Path.{ap, ◌∙◌}
use native.Mathlib.Omega.{arith}
use Rattle.rules.specs.Basic.{put}
use Rattle.film.proofs.Cells.{count_seen, put-cells, put-sound}
use Rattle.film.proofs.open_wires.Wires.insert.Goals as goal

pub invariant_of-self : goal.invariant_of-self
invariant_of-self c =
    let w = c.self in
    let n = count_seen w.invariant w.view_is in
    put-sound w.invariant _ _ c.copy_within.new.self (omega (arith, n, c.requires)) (omega (arith, n, c.requires)) c.copy_within.ensures.len c.copy_within.ensures.after

pub returns : goal.returns
returns c =
    let a = c.args in
    let w = c.self in
    let n = count_seen w.invariant w.view_is in
    put-cells a.k w.inside.count a.wire w.inside.cells c.copy_within.new.self (omega (arith, n, c.requires)) (omega (arith, n, c.requires, w.invariant.long))
    c.copy_within.ensures.after
    ∙ ap (put a.k a.wire) w.view_is
