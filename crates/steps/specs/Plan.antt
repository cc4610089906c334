-- What the router's passes read of a row: a step for each node, with its turn, which is what it is to the open nets, and how many nets are open before it.
--
-- The open nets are listed youngest first. A net's age is how many of them are younger.
use Rattle.std.specs.Prelude.{◌≡◌, Bool, true, false, List, [], ◌∷◌, ℕ, suc, ◌-◌, ◌<◌, ◌≤◌, length}
use Rattle.rules.specs.Basic.{cut}
use Rattle.rules.specs.declared.Kind.{Kind}
use Rattle.rules.specs.declared.Kind.TheVariants.{B, M, E, N}
use Rattle.rules.specs.Row.{before, Node, node}
use Rattle.rules.specs.Street.{kind}
use Rattle.steps.specs.declared.plan.Turn.{Turn}
use Rattle.steps.specs.declared.plan.Turn.TheVariants.{Begins, Meets, Ends, Rests}

-- a node as the passes see it: its turn, and how many nets are open before it
pub record Step : Type 0 where
  pub turn : Turn
  pub count : ℕ

abbrev pub step : (turn : Turn) (count : ℕ) → Step
step t b = record { turn = t; count = b }

-- the kind of a node with this turn
abbrev pub turn_kind : Turn → Kind
turn_kind Begins = B
turn_kind (Meets a) = M
turn_kind (Ends a) = E
turn_kind Rests = N

-- the age of the net that is met or ends; nothing goes by it at another turn
abbrev pub turn_age : Turn → ℕ
turn_age Begins = 0
turn_age (Meets a) = a
turn_age (Ends a) = a
turn_age Rests = 0

-- a net that is open before the node is touched there
abbrev pub touches : Kind → Bool
touches B = false
touches M = true
touches E = true
touches N = false

-- no net begins or ends at the node: the open nets stay as they are
abbrev pub stays : Kind → Bool
stays B = false
stays M = true
stays E = false
stays N = true

-- the open nets after a node, youngest first
unfoldable pub young : Node → List ℕ → List ℕ
young (node B x) o = x ∷ o
young (node M x) o = o
young (node E x) o = cut (before x o) o
young (node N x) o = o

-- what a node is to the open nets
unfoldable pub turn : Node → List ℕ → Turn
turn (node B x) o = Begins
turn (node M x) o = Meets (before x o)
turn (node E x) o = Ends (before x o)
turn (node N x) o = Rests

-- steps that the passes can follow from b open nets on: at most six are open, and a net that is touched is one of them.
-- No order gets past a B that finds six open, so anything may stand behind it.
pub data Steps : ℕ → List Step → Type 0 where
  nil : {b : ℕ} → b ≤ 6 → Steps b []
  full : {ss : List Step} → Steps 6 (step Begins 6 ∷ ss)
  begins : {b : ℕ} {ss : List Step} → b < 6 → Steps (suc b) ss → Steps b (step Begins b ∷ ss)
  meets : {a b : ℕ} {ss : List Step} → a < b → b ≤ 6 → Steps b ss → Steps b (step (Meets a) b ∷ ss)
  ends : {a b : ℕ} {ss : List Step} → a < b → b ≤ 6 → Steps (b - 1) ss → Steps b (step (Ends a) b ∷ ss)
  rests : {b : ℕ} {ss : List Step} → b ≤ 6 → Steps b ss → Steps b (step Rests b ∷ ss)

-- steps tell nodes, from the open nets o on, up to a B that finds six open
pub data Tells : List Node → List ℕ → List Step → Type 0 where
  nil : {o : List ℕ} → Tells [] o []
  full : {x : ℕ} {o : List ℕ} {ns : List Node} {ss : List Step} → length o ≡ 6 → length ns ≡ length ss
      → Tells (node B x ∷ ns) o (step Begins 6 ∷ ss)
  more : {n : Node} {o : List ℕ} {ns : List Node} {ss : List Step} → (kind n ≡ B → length o < 6) → Tells ns (young n o) ss
      → Tells (n ∷ ns) o (step (turn n o) (length o) ∷ ss)
