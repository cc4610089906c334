-- What the last pass is given and what each node does in it: the rank and the order before it, and after.
use Rattle.std.specs.Prelude.{◌≡◌, true, false, IsTrue, List, [], map, ℕ, suc, ◌*◌, ◌<◌, ◌≤◌, length, take}
use Rattle.std.proofs.Math.Option.{some}
use Rattle.rules.specs.declared.Kind.{Kind}
use Rattle.rules.specs.declared.Kind.TheVariants.{B}
use Rattle.rules.specs.Row.{before, lone, node, nodes}
use Rattle.rules.specs.Street.{kind, next}
use Rattle.street.specs.Order.{capacity}
use Rattle.steps.specs.declared.plan.Stop.{Stop}
use Rattle.steps.specs.Plan.{Step, turn_kind, touches, Tells}
use Rattle.steps.specs.Ranks.{fact}
use Rattle.steps.specs.Sets.{stretch, marked}
use Rattle.steps.specs.Stops.{hop_at, Sound}
use Rattle.steps.specs.Leading.{Onward, Led, Least}
use Rattle.script.specs.Told.{kinds}
use Rattle.orders.specs.Passes.{Given, Kept, Passable, First}
use Rattle.writer.specs.Entries.{Entry}

-- steps tell the nodes of a row that has no lone label
pub record Planned (row : List ℕ) (ss : List Step) : Type 0 where
  pub few : length row ≤ 512
  pub whole : (i : ℕ) → i < length row → lone row i ≡ false
  pub tells : Tells (nodes row) [] ss

-- what the last pass is given: a row and its plan, whose nodes can all be passed, and the marks of the ranks through which they are
pub record ToWalk (row : List ℕ) (ku kl : ℕ) (ss : List Step) (work : List ℕ) : Type 0 where
  pub given : Given ss work
  pub kept : Kept ku kl ss work
  pub passable : Passable ku kl ss
  pub planned : Planned row ss
  pub told : kinds ss ≡ map kind (nodes row)

-- at a node of this kind the net with label x can stand below p others of the order; nothing is asked of a blank
pub record Placed (held : List ℕ) (k : Kind) (x p : ℕ) : Type 0 where
  pub opens : k ≡ B → (length held < capacity) × (p ≤ length held)
  pub stands : IsTrue (touches k) → (p ≡ before x held) × (p < length held)

-- a stop before gap g with rank r and an order: some position leads on, a hop made each mark, and where a hop goes the order has room for label x
pub record Standing (held : List ℕ) (t : Stop) (work : List ℕ) (g r x : ℕ) : Type 0 where
  pub stop : Sound t
  pub room : stretch * suc g ≤ length work
  pub rank : r < fact t.step.count
  pub onward : Onward t work g r
  pub led : (y : ℕ) → marked work g y ≡ true → Led t y
  pub placed : (p y : ℕ) → hop_at t r p ≡ some y → Placed held (turn_kind t.step.turn) x p

-- the least place that leads on and the rank there, and the order after the node
pub record Stood (held : List ℕ) (t : Stop) (work : List ℕ) (g r x place rank : ℕ) (after : List ℕ) : Type 0 where
  pub least : Least t work g r place rank
  pub list : after ≡ next (node (turn_kind t.step.turn) x) held (suc place)

-- the nets above each of these nodes
abbrev pub aboves : List Entry → List ℕ
aboves es = map (λ (e : Entry). e.above) es

-- the first entries are those of steps, with the first positions in reading order that lead through them
pub record Entered (ku kl : ℕ) (ss : List Step) (es : List Entry) : Type 0 where
  pub cells : length es ≡ 512
  pub told : map (λ (e : Entry). e.kind) (take (length ss) es) ≡ kinds ss
  pub first : First ku kl ss 0 (aboves (take (length ss) es))
