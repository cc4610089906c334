-- `film::open_wires::Wires::bend` meets its contract: a cell that is counted is stored. Assumes nothing.
use mathlib.Core.Path.{ap, ◌∙◌}
use mathlib.Core.List.{List}
use Prim.Native.Nat.{ℕ}
use native.Mathlib.Omega.{arith}
use lib.ListN.{set}
use lib.Seq.{take-set-lt}
use Rattle.rules.specs.Film.{Wire, bent}
use Rattle.film.proofs.Cells.{count_seen, set-sound}
use Rattle.film.proofs.open_wires.Wires.bend.Goals as goal

pub invariant_of-self-2 : goal.invariant_of-self-2
invariant_of-self-2 c =
    let w = c.self in
    let n = count_seen w.invariant w.view_is in
    set-sound w.invariant _ _ (omega (arith, n, c.requires))

pub returns : goal.returns
unfolding bent
returns c =
    let a = c.args in
    let w = c.self in
    let n = count_seen w.invariant w.view_is in
    let net = ap (λ (v : Wire). v.net) (c.net.view_is ∙ c.at.ensures) in
    take-set-lt w.inside.count w.inside.cells a.k (record { net = c.net.inside.net; height = a.level; since = a.start }) (omega (arith, n, c.requires))
    ∙ ap (λ (l : List Wire). set l a.k (record { net = c.net.inside.net; height = a.level; since = a.start })) w.view_is
    ∙ ap (λ (m : ℕ). set a.self.now a.k (record { net = m; height = a.level; since = a.start })) net
