-- `film::moves::Plotter::begin` meets its contract: `joined-begins`. Assumes nothing.
use mathlib.Core.Path.{refl, ap, ◌∙◌}
use Prim.Native.Nat.{ℕ}
use native.Mathlib.Numerals.{add-one}
use native.Mathlib.Omega.{arith}
use lib.ListN.{length}
use mathlib.Core.List.{List}
use Rattle.rules.specs.Basic.{put}
use Rattle.rules.specs.Film.{height_at, Wire}
use Rattle.rules.proofs.Lists.{length-put}
use Rattle.film.proofs.Joints.{begins-few, begins-near, joined-begins}
use Rattle.film.proofs.moves.Plotter.begin.Goals as goal

pub overflow_add-node : goal.overflow_add-node
overflow_add-node c =
    let a = c.args in
    omega (arith, begins-near a.node a.x a.self.now c.requires.0 c.requires.1, a.node.upper_few)

pub level_at-level-requires : goal.level_at-level-requires
level_at-level-requires c =
    let a = c.args in
    omega (arith, begins-near a.node a.x a.self.now c.requires.0 c.requires.1, a.node.upper_few)

pub overflow_cast-wire : goal.overflow_cast-wire
overflow_cast-wire c =
    let a = c.args in
    let f = begins-few a.node a.x a.self.now c.requires.0 c.requires.1 in
    omega (arith, f)

pub overflow_add-self : goal.overflow_add-self
overflow_add-self c =
    let a = c.args in
    let f = begins-few a.node a.x a.self.now c.requires.0 c.requires.1 in
    omega (arith, f)

pub insert-requires : goal.insert-requires
insert-requires c =
    let a = c.args in
    let f = begins-few a.node a.x a.self.now c.requires.0 c.requires.1 in
    (f.0, f.1)

pub pass-requires : goal.pass-requires
pass-requires c =
    let a = c.args in
    let f = begins-few a.node a.x a.self.now c.requires.0 c.requires.1 in
    let n = ap (λ (l : List Wire). length l) c.insert.ensures in
    record { stands = omega (arith, n, length-put {A = Wire}, f); column = c.requires.0.column; room = c.requires.0.room }

pub returns : goal.returns
returns c =
    let a = c.args in
    let p = a.self.now in
    let h = c.level_at-level.ensures ∙ ap (height_at a.node.upper) (add-one a.node.above) in
    let list = c.insert.ensures ∙ ap (λ (z : ℕ). put a.node.above (record { net = a.self.now.pen.begun; height = z; since = a.x }) p.pen.wires) h in
    joined-begins a.node a.x p c.requires.0 c.pass.new.self c.requires.1 _ list refl refl refl (add-one p.pen.begun) c.pass.ensures
