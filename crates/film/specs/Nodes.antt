-- What a node asks of the pen, and what it does to wires and film.
use Rattle.std.specs.Prelude.{◌≡◌, List, [], ◌∷◌, ℕ, suc, ◌+◌, ◌≤◌, ◌<◌, length, get_or}
use Rattle.rules.specs.Basic.{cut}
use Rattle.rules.specs.Street.{last, counted}
use Rattle.rules.specs.Sheet.{begun}
use Rattle.rules.specs.Judgement.{left}
use Rattle.rules.specs.Film.{axis, height_at, Rec, Wire, ran, wall, opened, closed, marks}
use Rattle.street.specs.Order.{capacity}
use Rattle.slots.specs.Stamps.{columns}
use Rattle.film.specs.declared.moves.Pen.{Pen}
use Rattle.film.specs.declared.moves.Plotter.{Plotter}
use Rattle.film.specs.declared.node.Node.{Node}
use Rattle.film.specs.Stamps.{most, laid}
use Rattle.film.specs.Wires.{wire_at}
use Rattle.film.specs.Moves.{Fitting, SameFilm}

-- the wires at a node at column x with b nets begun before it, its own wire, what is drawn of it, and the wires after it
abbrev pub standing : Node → (b x : ℕ) → List Wire → List Wire
standing n b x ws = opened n.kind b (height_at n.upper (suc n.above)) x n.above ws

abbrev pub own : Node → (b x : ℕ) → List Wire → Wire
own n b x ws = get_or (standing n b x ws) n.above (record { net = b; height = axis; since = x })

abbrev pub shown : Node → (b x : ℕ) → List Wire → List Rec
shown n b x ws = marks n.kind x (own n b x ws)

abbrev pub going : Node → (b x : ℕ) → List Wire → List Wire
going n b x ws = closed n.kind n.above (standing n b x ws)

-- the node has a place, its wire a level and a net number below 256, and its records have room
pub record Joinable (p : Pen) (n : Node) (x : ℕ) : Type 0 where
  pub stands : n.above < last n.kind (counted n.kind (length p.wires))
  pub few : counted n.kind (length p.wires) ≤ capacity
  pub fitting : Fitting n (length p.wires)
  pub small : begun n.kind p.begun ≤ 256
  pub column : x < columns
  pub room : p.drawn + 2 < most

-- the node was drawn
pub record Joined (n : Node) (x : ℕ) (p r : Plotter) : Type 0 where
  pub same : SameFilm p r
  pub count : length r.pen.wires ≡ left n.kind (length p.pen.wires)
  pub list : r.pen.wires ≡ going n p.pen.begun x p.pen.wires
  pub column : r.pen.column ≡ suc x
  pub nets : r.pen.begun ≡ begun n.kind p.pen.begun
  pub records : r.pen.drawn ≡ p.pen.drawn + length (shown n p.pen.begun x p.pen.wires)
  pub bytes : r.film.now ≡ laid p.film.now p.pen.drawn (shown n p.pen.begun x p.pen.wires)

-- there is a wire with so many above it, and room for its records
pub record Open (p : Pen) (above x : ℕ) : Type 0 where
  pub stands : above < length p.wires
  pub column : x < columns
  pub room : p.drawn + 2 < most

-- the wire's stub was drawn
pub record Stubbed (above x : ℕ) (p r : Plotter) : Type 0 where
  pub same : SameFilm p r
  pub wires : r.pen.wires ≡ p.pen.wires
  pub column : r.pen.column ≡ suc x
  pub nets : r.pen.begun ≡ p.pen.begun
  pub records : r.pen.drawn ≡ p.pen.drawn + 1
  pub bytes : r.film.now ≡ laid p.film.now p.pen.drawn (wall x axis (wire_at p.pen.wires above) ∷ [])

-- the wire's stub and last run were drawn, and it was taken out
pub record Ended (above x : ℕ) (p r : Plotter) : Type 0 where
  pub same : SameFilm p r
  pub wires : r.pen.wires ≡ cut above p.pen.wires
  pub column : r.pen.column ≡ suc x
  pub nets : r.pen.begun ≡ p.pen.begun
  pub records : r.pen.drawn ≡ p.pen.drawn + 2
  pub bytes : r.film.now ≡ laid p.film.now p.pen.drawn (wall x axis (wire_at p.pen.wires above) ∷ ran x (wire_at p.pen.wires above) ∷ [])

-- nothing was drawn, and the wires stay
pub record Skipped (x : ℕ) (p r : Plotter) : Type 0 where
  pub same : SameFilm p r
  pub wires : r.pen.wires ≡ p.pen.wires
  pub column : r.pen.column ≡ suc x
  pub nets : r.pen.begun ≡ p.pen.begun
  pub records : r.pen.drawn ≡ p.pen.drawn
  pub bytes : r.film.now ≡ p.film.now
