-- `film::drawer::node_of` meets its contract: of Ku tracks at most 3 are taken (`upper-few`). Assumes nothing.
use native.Mathlib.Omega.{arith}
use Prim.Native.Nat.{◌≤◌}
use Rattle.film.proofs.Aims.{upper-few}
use Rattle.film.proofs.drawer.node_of.Goals as goal

pub invariant_of-result : goal.invariant_of-result
invariant_of-result c =
    let few : c.upper_at.result ≤ 3 = rw c.upper_at.ensures (upper-few _ _ _ (omega arith) (omega (arith, c.from-above.ensures, c.above_of.ensures.above, c.requires))) in
    record { upper_few = omega (arith, few) }

pub upper_at-requires : goal.upper_at-requires
upper_at-requires c = omega (arith, c.from-above.ensures, c.above_of.ensures.above, c.requires)
