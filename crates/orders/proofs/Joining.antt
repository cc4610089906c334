-- What a pass ensures is what the next one requires.
use mathlib.Core.Path.{◌≡◌}
use mathlib.Core.List.{List}
use Prim.Native.Nat.{ℕ, suc}
use native.Mathlib.Omega.{arith}
use lib.ListN.{length}
use lib.Seq.{take_all}
use Rattle.rules.specs.declared.Streets.{Streets}
use Rattle.steps.specs.Plan.{Step}
use Rattle.orders.specs.Passes.{Given, Filled, Passable, Forward, Pruned, Kept}
use Rattle.orders.proofs.Nodes.{rank_below}

module _ (ss : List Step) (st : Streets) (s t : List ℕ) where
  pub given-same : length t ≡ length s → Given ss s → Given ss t
  given-same e g =
      record {
        room = omega (arith, g.room);
        plan = g.plan;
      }

  -- all nodes are passed
  module _ (f : Forward st.upper st.lower ss s t (length ss)) where
    pub forward-filled : Filled st.upper st.lower ss (length ss) t
    forward-filled = f.filled

    pub forward-passes : Passable st.upper st.lower ss
    forward-passes = rw (take_all (length ss) ss (omega arith)) at f.passes

  pub pruned-kept : Given ss s → Filled st.upper st.lower ss (length ss) s → Pruned st.upper st.lower ss s t →
      Kept st.upper st.lower ss t
  pruned-kept g f p =
      record {
        ways = λ i x l h m. f.sound i x (omega arith) h (p.was i x l h m);
        sound = p.sound;
        full = λ i x l w a. p.full i x l (rank_below ss st (suc i) s x g w) (f.full i x (omega arith) w) a;
      }
