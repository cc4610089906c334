-- What the code's stops, hops and places say of ranks.
use Rattle.std.specs.Prelude.{◌≡◌, IsTrue, ℕ, ◌+◌, ◌*◌, ◌<◌, ◌≤◌}
use Rattle.std.proofs.Math.Option.{Option}
use Rattle.rules.specs.declared.Streets.{Streets}
use Rattle.steps.specs.declared.net.Net.{Net}
use Rattle.steps.specs.declared.plan.Turn.TheVariants.{Begins, Meets, Ends, Rests}
use Rattle.steps.specs.declared.plan.Stop.{Stop}
use Rattle.steps.specs.declared.rank.Place.{Place}
use Rattle.steps.specs.Plan.{step, turn_kind, turn_age, touches}
use Rattle.steps.specs.Sets.{ranks}
use Rattle.steps.specs.Ranks.{capacity, fact, under, spared, at_of, less_of, hop_of}

-- the transition at a stop
abbrev pub hop_at : Stop → (r p : ℕ) → Option ℕ
hop_at t r p = hop_of t.streets.upper t.streets.lower t.step r p

-- a stop that ranks can be led past: not too many nets are open, and a touched net is one of them
pub record Sound (t : Stop) : Type 0 where
  pub few : t.step.count ≤ capacity
  pub touched : IsTrue (touches (turn_kind t.step.turn)) → turn_age t.step.turn < t.step.count

-- the stops at which a net is met, or ends, a net begins among b others, and a blank rests
abbrev pub meeting : Net → Stop
meeting n = record { step = step (Meets n.age) n.count; streets = n.streets }

abbrev pub ending : Net → Stop
ending n = record { step = step (Ends n.age) n.count; streets = n.streets }

abbrev pub opening : ℕ → Streets → Stop
opening b st = record { step = step Begins b; streets = st }

abbrev pub resting : ℕ → Streets → Stop
resting b st = record { step = step Rests b; streets = st }

-- the net of age a in the order of rank r of b nets
pub record Located (a b r : ℕ) (p : Place) : Type 0 where
  pub at : p.at ≡ at_of a b r
  pub rest : p.rest ≡ less_of a b r

-- a net among older ones and the youngest, which has q above it, where o is the net's place among the older and u the orders of one fewer
pub record Beside (q u : ℕ) (o p : Place) : Type 0 where
  pub at : p.at ≡ under q o.at
  pub rest : p.rest ≡ spared q o.at * u + o.rest

pub record Factorial (n f : ℕ) : Type 0 where
  pub value : f ≡ fact n
  pub pos : 0 < f
  pub most : f ≤ ranks
