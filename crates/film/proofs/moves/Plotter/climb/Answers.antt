-- `film::moves::Plotter::climb` meets its contract, by the invariant of Invariants.antt. Assumes nothing.
use mathlib.Core.Path.{refl}
use borrow.Author.Rules.{rules}
use Prim.Native.Nat.{◌<◌}
use native.Mathlib.Omega.{arith}
use lib.ListN.{length}
use Rattle.film.specs.Moves.{aim}
use Rattle.film.proofs.Aims.{fitting-less}
use Rattle.film.proofs.Sweeps.{step-as, climb-step, climb-end}
use Rattle.film.proofs.moves.Plotter.climb.Goals as goal

pub reach-requires : goal.reach-requires
reach-requires c =
    let l = c.loop-q in
    let within : l.q < length c.args.self.now.pen.wires = omega (arith, c.loop-q-test.true, c.len-q-end.ensures) in (
      record { across = omega (arith, c.requires.0.across, l.invariant.across, within); room = omega (arith, c.requires.0.room, l.invariant.room, within) },
      fitting-less c.requires.1 within,
      omega (arith, within, l.invariant.count),
      search rules,
    )

pub loop-q-preserved : goal.loop-q-preserved
loop-q-preserved c =
    let l = c.loop-q in
    let within : l.q < length l.self.pen.wires = omega (arith, c.loop-q-test.true, c.len-q-end.ensures, l.invariant.count) in
    let r = c.reach.ensures in
    climb-step (aim c.args.node) c.args.self.now l.self c.reach.new.self l.q l.invariant within (step-as l.self l.q r.1.2 refl r.2)

pub returns : goal.returns
returns c =
    let l = c.loop-q in
    climb-end (aim c.args.node) c.args.self.now l.self l.q l.invariant (omega (arith, c.loop-q-test.false, c.len-q-end.ensures))
