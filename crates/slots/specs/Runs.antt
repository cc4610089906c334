-- A net's next slot and open run as the numbers that the laying speaks of, and what the functions on one net's records leave.
use Rattle.std.specs.Prelude.{◌≡◌, List, ℕ, ◌+◌, ◌<◌, get_or, set, map, length, Option}
use Rattle.std.specs.Option.{IfSome}
use Rattle.std.specs.declared.option.Option.TheVariants.{Some, None}
use Rattle.rules.specs.Film.{axis}
use Rattle.wires.specs.Laying.{in_slot}
use Rattle.slots.specs.declared.runs.Run.{Run}
use Rattle.slots.specs.declared.runs.Net.{Net}
use Rattle.slots.specs.declared.runs.Slots.{Slots}
use Rattle.slots.specs.Stamps.{columns, stamped}
use Rattle.slots.specs.Slots.{Lent, lent, read, vertical}

-- by net the slot of its next record, and its open run
abbrev pub nexts : List Net → List ℕ
nexts ns = map (λ a. a.next) ns

abbrev pub runs : List Net → List (Option Run)
runs ns = map (λ a. a.run) ns

abbrev pub run_at : List Net → ℕ → Option Run
run_at ns n = get_or (runs ns) n None

-- the slot that a run holds, 0 where none is open
unfoldable pub slot_of : Option Run → ℕ
slot_of None = 0
slot_of (Some r) = r.slot

-- the column where it began, 0 where none is open
unfoldable pub start_of : Option Run → ℕ
start_of None = 0
start_of (Some r) = r.start

abbrev pub helds : List Net → List ℕ
helds ns = map slot_of (runs ns)

-- a column for each net: where its run is open, the one where it began
pub record Columns (ns : List Net) (starts : List ℕ) : Type 0 where
  pub long : length starts ≡ 256
  pub small : (n : ℕ) → read starts n < columns
  pub began : (n : ℕ) → IfSome (run_at ns n) (λ r. read starts n ≡ r.start)

-- the film and the arrays by net, with such columns
abbrev pub lends : Slots → List ℕ → Lent
lends p starts = lent p.film.now (nexts p.nets) (helds p.nets) starts

-- from whatever columns the nets have before, P leads to columns that they have after; they always have some (`has_columns`)
abbrev pub Leads : (Lent → Lent → Type 0) → (p r : Slots) → Type 0
Leads P p r = (starts : List ℕ) → Columns p.nets starts → (after : List ℕ) × Columns r.nets after × P (lends p starts) (lends r after)

-- the film is lent as before
abbrev pub SameFilm : (p r : Slots) → Type 0
SameFilm p r = r.film.ghost_name ≡ p.film.ghost_name

-- the stub of a net on height h was put in its next slot, on the film f
pub record Stub (net h x : ℕ) (f : List ℕ) (a : Net) (f' : List ℕ) (a' : Net) : Type 0 where
  pub film : f' ≡ in_slot stamped a.next (vertical net axis h x) f
  pub next : a'.next ≡ a.next + 1
  pub run : a'.run ≡ a.run

-- the stub of a net on height h was put in its next slot, and the runs stay as they were
pub record Stubbed (net h x : ℕ) (p r : Slots) : Type 0 where
  pub same : SameFilm p r
  pub film : r.film.now ≡ in_slot stamped (read (nexts p.nets) net) (vertical net axis h x) p.film.now
  pub next : nexts r.nets ≡ set (nexts p.nets) net (read (nexts p.nets) net + 1)
  pub runs : runs r.nets ≡ runs p.nets
