-- `film::moves::target` meets its contract: at a B a wire below the new one stands one place lower (`aim-below`). Assumes nothing.
use mathlib.Core.Path.{◌≡◌, ◌∙◌}
use Prim.Native.Nat.{◌<◌}
use native.Mathlib.Omega.{arith}
use Rattle.rules.specs.declared.Kind.TheVariants.{B}
use Rattle.film.proofs.Aims.{aim_near, aim-far, aim-above, aim-below}
use Rattle.film.proofs.moves.target.Goals as goal
use Rattle.film.proofs.moves.target.Goals.{in_default-via-in-B+else-node-q, in_default-via-in_default}

pub overflow_add-q : goal.overflow_add-q
overflow_add-q c = omega (arith, aim-far c.args.node c.args.q c.requires c.in-B.is, c.args.node.upper_few)

pub level_at-requires : goal.level_at-requires
level_at-requires c = omega (arith, aim-far c.args.node c.args.q c.requires c.in-B.is, c.args.node.upper_few)

pub returns-in-B : goal.returns-in-B
returns-in-B c = c.level_at.ensures ∙ aim-below c.args.node c.args.q c.in-B.is c.if-node-q.true

pub overflow_add-q-in_default : goal.overflow_add-q-in_default
overflow_add-q-in_default c = omega (arith, aim_near c.args.node c.args.q c.requires, c.args.node.upper_few)

pub level_at-requires-in_default : goal.level_at-requires-in_default
level_at-requires-in_default c = omega (arith, aim_near c.args.node c.args.q c.requires, c.args.node.upper_few)

pub returns-in_default : goal.returns-in_default
returns-in_default c =
    let a = c.args in
    let over : a.node.kind ≡ B → a.q < a.node.above =
    λ e. elim c.in_default.branch [ in_default-via-in-B+else-node-q w ↦ omega (arith, w.if-node-q.false) | in_default-via-in_default w ↦ absurd (w.in_default.not-B e) ] in
    c.level_at-in_default.ensures ∙ aim-above a.node a.q over
