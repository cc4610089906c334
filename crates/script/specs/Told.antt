-- The plan that is told of a row, and what a node does to the labels of the open nets that it is told from, youngest first.
use Rattle.std.specs.Prelude.{◌≡◌, not, List, [], map, ℕ, ◌≤◌, ◌<◌, length, take, eqb, Option, MatchOption, IsTrue}
use Rattle.rules.specs.Basic.{pick}
use Rattle.rules.specs.declared.Kind.{Kind}
use Rattle.rules.specs.declared.Kind.TheVariants.{B, N}
use Rattle.rules.specs.Row.{before, node, nodes, kind_of}
use Rattle.street.specs.Order.{capacity}
use Rattle.steps.specs.Plan.{Step, step, turn_kind, touches, young, turn, Tells}

-- the kind of node i with label x, by the first and the last node that carry it
unfoldable pub kind_by : (x first last i : ℕ) → Kind
kind_by x first last i = pick (eqb x 255) N (kind_of (eqb first i) (not (eqb last i)))

-- a node that begins a net finds its label among those of no open net, and one that goes on with a net or ends it finds its own there
pub record Turning (o : List ℕ) (k : Kind) (x : ℕ) : Type 0 where
  pub fresh : k ≡ B → length o ≤ before x o
  pub there : IsTrue (touches k) → before x o < length o

-- a node begins a net where no more can be open
pub record Full (o : List ℕ) (k : Kind) : Type 0 where
  pub begins : k ≡ B
  pub six : length o ≡ capacity

-- the step of a node with this kind and label, and the open nets after it
pub record Turned (o : List ℕ) (k : Kind) (x : ℕ) (s : Step) (next : List ℕ) : Type 0 where
  pub is : s ≡ step (turn (node k x) o) (length o)
  pub list : next ≡ young (node k x) o
  pub room : k ≡ B → length o < capacity

-- a node's step, if it begins no net where no more can be open
abbrev pub Turns : (o : List ℕ) (k : Kind) (x : ℕ) → Option Step → (next : List ℕ) → Type 0
Turns o k x r next = MatchOption r (Full o k) (λ s. Turned o k x s next)

-- cells hold the plan of a row
pub record Told (row : List ℕ) (plan : List Step) : Type 0 where
  pub cells : length plan ≡ 512
  pub tells : Tells (nodes row) [] (take (length row) plan)

-- the kinds of steps
abbrev pub kinds : List Step → List Kind
kinds ss = map (λ (s : Step). turn_kind s.turn) ss
