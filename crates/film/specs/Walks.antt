-- The walk over a sheet's nodes, and what the drawer ensures.
use Rattle.std.specs.Prelude.{◌≡◌, List, [], ◌++◌, ℕ, suc, ◌+◌, ◌-◌, ◌*◌, ◌≤◌, ◌<◌, length}
use Rattle.rules.specs.Answers.{Drawing}
use Rattle.rules.specs.Street.{last, counted}
use Rattle.rules.specs.Sheet.{Entry, begun}
use Rattle.rules.specs.Judgement.{left}
use Rattle.rules.specs.Film.{upper_at, Rec, Sweep, gap, draw}
use Rattle.rules.specs.Answers.{drawing, FilmAfter}
use Rattle.street.specs.Order.{capacity}
use Rattle.sheet.specs.Fields.{entries_in}
use Rattle.sheet.specs.Told.{kind_at, above_at}
use Rattle.film.specs.declared.node.Node.{Node}
use Rattle.film.specs.declared.moves.Pen.{Pen}
use Rattle.film.specs.declared.moves.Plotter.{Plotter}
use Rattle.film.specs.Stamps.{each, laid}
use Rattle.film.specs.Moves.{aim, Fitting, SameFilm}
use Rattle.film.specs.Nodes.{shown, going}

-- the columns from one node to the next, which the code calls PITCH
abbrev pub pitch : ℕ
pitch = 16

-- n is the node of an entry, under Ku upper tracks
pub record NodeOf (e : Entry) (ku : ℕ) (n : Node) : Type 0 where
  pub kind : n.kind ≡ kind_at e
  pub above : n.above ≡ above_at e
  pub upper : n.upper ≡ upper_at n.kind ku n.above

-- node n comes next as node i: it has a place, its wire a level and a number, and its records have room
pub record Due (p : Pen) (n : Node) (i : ℕ) : Type 0 where
  pub stands : n.above < last n.kind (counted n.kind (length p.wires))
  pub few : counted n.kind (length p.wires) ≤ capacity
  pub fitting : Fitting n (length p.wires)
  pub small : begun n.kind p.begun ≤ 256
  pub near : i < 512
  pub column : p.column ≡ suc (pitch * (i - 1))
  pub room : p.drawn ≤ each * i

-- the gap before node i, and all that is drawn for it
abbrev pub crossing : Pen → Node → ℕ → Sweep
crossing p n i = gap (aim n) (pitch * (i - 1)) p.wires

abbrev pub strokes : Pen → Node → ℕ → List Rec
strokes p n i = (crossing p n i).film ++ shown n p.begun (pitch * i) (crossing p n i).wires

-- node n was drawn as node i
pub record Visited (n : Node) (i : ℕ) (p r : Plotter) : Type 0 where
  pub same : SameFilm p r
  pub count : length r.pen.wires ≡ left n.kind (length p.pen.wires)
  pub list : r.pen.wires ≡ going n p.pen.begun (pitch * i) (crossing p.pen n i).wires
  pub column : r.pen.column ≡ suc (pitch * i)
  pub nets : r.pen.begun ≡ begun n.kind p.pen.begun
  pub records : r.pen.drawn ≡ p.pen.drawn + length (strokes p.pen n i)
  pub bytes : r.film.now ≡ laid p.film.now p.pen.drawn (strokes p.pen n i)
  pub room : r.pen.drawn ≤ each * suc i

-- the records of nodes with these fields, under Ku upper tracks
abbrev pub records_in : ℕ → List ℕ → List Rec
records_in ku fs = draw pitch ku 0 0 [] (entries_in fs)

-- they were laid on a film, as far as it reaches, and counted
pub record Lain (ku : ℕ) (fs film : List ℕ) (r : ℕ) (after : List ℕ) : Type 0 where
  pub count : r ≡ length (records_in ku fs)
  pub few : r ≤ each * 512
  pub bytes : after ≡ laid film 0 (records_in ku fs)

-- the drawer's answer, and every byte of the film's buffer
pub record Drawn (s film : List ℕ) (r : Drawing) (after : List ℕ) : Type 0 where
  pub answer : r ≡ drawing s film
  pub bytes : FilmAfter r s film after
