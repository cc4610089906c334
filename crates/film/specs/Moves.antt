-- What the moves of a gap ask of the pen and the node, and what they do to wires, columns and film.
use Rattle.std.specs.Prelude.{◌≡◌, Bool, true, false, List, [], ℕ, suc, ◌+◌, ◌*◌, ◌≤◌, ◌<◌, length, set}
use Rattle.rules.specs.Basic.{pick}
use Rattle.rules.specs.Street.{counted}
use Rattle.rules.specs.Film.{target, bent, drawn, Sweep, Wire}
use Rattle.slots.specs.Stamps.{columns}
use Rattle.film.specs.declared.moves.Pen.{Pen}
use Rattle.film.specs.declared.moves.Plotter.{Plotter}
use Rattle.film.specs.declared.node.Node.{Node}
use Rattle.film.specs.Stamps.{most, laid}
use Rattle.film.specs.Wires.{wire_at}

-- the height that the wire with q wires above it has to reach at a node
abbrev pub aim : Node → ℕ → ℕ
aim n q = target n.kind n.upper n.above q

-- the wires at a node, of which b were open before it, are on no level under −3
pub record Fitting (n : Node) (b : ℕ) : Type 0 where
  pub deep : counted n.kind b ≤ n.upper + 3

-- k more moves can be drawn
pub record Able (p : Pen) (k : ℕ) : Type 0 where
  pub across : p.column + k < columns
  pub room : p.drawn + 2 * k < most

-- no wire is open, no record drawn, and no net begun
pub record Started (p : Pen) : Type 0 where
  pub wires : p.wires ≡ []
  pub column : p.column ≡ 1
  pub drawn : p.drawn ≡ 0
  pub nets : p.begun ≡ 0

-- each wire has the height that it has to reach
abbrev pub Reaches : Node → List Wire → Type 0
Reaches n ws = (q : ℕ) → q < length ws → (wire_at ws q).height ≡ aim n q

-- the answer yes says that every wire has
abbrev pub Steady : Node → List Wire → Bool → Type 0
Steady n ws true = Reaches n ws
Steady n ws false = Unit {0}

-- the film is lent as before
abbrev pub SameFilm : (p r : Plotter) → Type 0
SameFilm p r = r.film.ghost_name ≡ p.film.ghost_name

-- the wire with q above it was moved to height h at the pen's column, where the test passed
pub record Stepped (b : Bool) (h q : ℕ) (p r : Plotter) : Type 0 where
  pub same : SameFilm p r
  pub count : length r.pen.wires ≡ length p.pen.wires
  pub list : r.pen.wires ≡ set p.pen.wires q (bent b h p.pen.column (wire_at p.pen.wires q))
  pub column : r.pen.column ≡ pick b (suc p.pen.column) p.pen.column
  pub nets : r.pen.begun ≡ p.pen.begun
  pub records : r.pen.drawn ≡ p.pen.drawn + length (drawn b h p.pen.column (wire_at p.pen.wires q))
  pub bytes : r.film.now ≡ laid p.film.now p.pen.drawn (drawn b h p.pen.column (wire_at p.pen.wires q))

-- the wires were swept, with at most k moves
pub record Swept (w : Sweep) (k : ℕ) (p r : Plotter) : Type 0 where
  pub same : SameFilm p r
  pub count : length r.pen.wires ≡ length p.pen.wires
  pub list : r.pen.wires ≡ w.wires
  pub column : r.pen.column ≡ w.column
  pub nets : r.pen.begun ≡ p.pen.begun
  pub records : r.pen.drawn ≡ p.pen.drawn + length w.film
  pub bytes : r.film.now ≡ laid p.film.now p.pen.drawn w.film
  pub across : r.pen.column ≤ p.pen.column + k
  pub room : r.pen.drawn ≤ p.pen.drawn + 2 * k
