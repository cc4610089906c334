-- The code's step, as contracts see it, and the fields that hold it: the node's kind field, the age of its net, and how many nets are open before it.
use Rattle.std.specs.Prelude.{◌≡◌, ℕ, zero, suc}
use Rattle.rules.specs.Sheet.{code}
use Rattle.steps.specs.declared.plan.Turn.{Turn}
use Rattle.steps.specs.declared.plan.Turn.TheVariants.{Begins, Meets, Ends, Rests}
use Rattle.steps.specs.declared.plan.Step.TheInside.{Inside}
use Rattle.steps.specs.Plan.{Step, step, turn_kind, turn_age}

-- the turn of a node with this kind field, whose net has this age
abbrev pub turn_in : (kind age : ℕ) → Turn
turn_in zero a = Begins
turn_in (suc zero) a = Meets a
turn_in (suc (suc zero)) a = Ends a
turn_in (suc (suc (suc k))) a = Rests

abbrev pub step_seen : Inside → Step
step_seen a = step (turn_in a.kind a.age) a.count

abbrev pub of_step : Step → Inside
of_step s = record { kind = code (turn_kind s.turn); age = turn_age s.turn; count = s.count }

-- the kind field is at most 3, and the age is 0 where no net is met or ends
abbrev pub IsOfTurn : Inside → Type 0
IsOfTurn a = of_step (step_seen a) ≡ a

pub of_step_ok : (a : Inside) → IsOfTurn a → of_step (step_seen a) ≡ a
of_step_ok a h = h
