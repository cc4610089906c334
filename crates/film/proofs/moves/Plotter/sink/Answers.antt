-- `film::moves::Plotter::sink` meets its contract, by the invariant of Invariants.antt. Assumes nothing.
use mathlib.Core.Path.{◌≡◌, refl}
use borrow.Author.Rules.{rules}
use Prim.Native.Nat.{suc, ◌-◌}
use native.Mathlib.Omega.{arith}
use Rattle.film.specs.Moves.{aim}
use Rattle.film.proofs.Aims.{fitting-less}
use Rattle.film.proofs.Sweeps.{step-as, sink-start, sink-step}
use Rattle.film.proofs.moves.Plotter.sink.Goals as goal

pub loop-q-init : goal.loop-q-init
loop-q-init c = rw c.len-q.ensures (sink-start (aim c.args.node) c.args.self.now)

pub reach-requires : goal.reach-requires
reach-requires c =
    let l = c.loop-q in
    let i = l.invariant in (
      record {
        across = omega (arith, c.requires.0.across, i.across, c.loop-q-test.true);
        room = omega (arith, c.requires.0.room, i.room, c.loop-q-test.true);
      },
      fitting-less c.requires.1 (omega (arith, c.loop-q-test.true, i.within)),
      omega (arith, c.loop-q-test.true, i.within, i.count),
      search rules,
    )

pub loop-q-preserved : goal.loop-q-preserved
loop-q-preserved c =
    let l = c.loop-q in
    let i : l.q ≡ suc (l.q - 1) = omega (arith, c.loop-q-test.true) in
    let r = c.reach.ensures in
    sink-step (aim c.args.node) c.args.self.now l.self c.reach.new.self l.q (l.q - 1) i l.invariant (step-as l.self (l.q - 1) r.1.2 refl r.2)
