-- Functions in the entry points' places, when one meets its contract, and document 01's impostors: none of them does.
use Rattle.std.specs.Prelude.{◌≡◌, Bool, List, ◌≢◌, ℕ, ◌*◌, ◌≤◌, ◌<◌, length, take}
use Rattle.std.proofs.Math.Option.{none}
use Rattle.std.specs.declared.result.Result.TheVariants.{Ok, Err}
use Rattle.rules.specs.Answers.{Routing}
use Rattle.rules.specs.declared.RouteError.TheVariants.{Stuck}
use Rattle.rules.specs.Answers.{Reading}
use Rattle.rules.specs.Answers.{Drawing}
use Rattle.rules.specs.declared.DrawError.TheVariants.{FilmShort}
use Rattle.rules.specs.Row.{nodes}
use Rattle.rules.specs.Street.{Passes}
use Rattle.rules.specs.Bits.{Below}
use Rattle.rules.specs.Sheet.{nets_of}
use Rattle.rules.specs.Film.{records}
use Rattle.rules.specs.Judgement.{judge}
use Rattle.rules.specs.Answers.{written, agrees}
use Rattle.router.specs.Routed.{Routed}
use Rattle.sheet.specs.GivenBack.{GivenBack}
use Rattle.film.specs.Walks.{Drawn}
use Rattle.demands.specs.Demands.{Checked}

-- what is lent to a router
pub record Lent : Type 0 where
  pub row : List ℕ
  pub ku : ℕ
  pub kl : ℕ
  pub work : List ℕ
  pub sheet : List ℕ

-- bytes, and track counts of a byte each
pub record Bytes (l : Lent) : Type 0 where
  pub row : Below 256 l.row
  pub upper : l.ku < 256
  pub lower : l.kl < 256
  pub work : Below 256 l.work
  pub sheet : Below 256 l.sheet

-- a function in the router's place: its answer, and work and sheet afterwards
pub record Router : Type 0 where
  pub answer : Lent → Routing
  pub work : Lent → List ℕ
  pub sheet : Lent → List ℕ

abbrev pub MeetsRouter : Router → Type 0
MeetsRouter f = (l : Lent) → Bytes l → Routed l.row l.ku l.kl l.work l.sheet (f.answer l) (f.work l) (f.sheet l)

-- the row passes checks 1 to 5
abbrev pub Fair : Lent → Type 0
Fair l = Bytes l × Checked l.row l.ku l.kl l.work l.sheet

-- always says 6
abbrev pub AlwaysSix : Router → Type 0
AlwaysSix f = (l : Lent) → Fair l → (i : ℕ) × (f.answer l ≡ Err (Stuck i))

-- says 6, or anything else, before looking at the row: rows of one length under the same tracks get one answer
abbrev pub BeforeLooking : Router → Type 0
BeforeLooking f = (l m : Lent) → Fair l → Fair m → length l.row ≡ length m.row → l.ku ≡ m.ku → l.kl ≡ m.kl → f.answer l ≡ f.answer m

-- returns a fixed sheet
abbrev pub FixedSheet : Router → Type 0
FixedSheet f = (s : List ℕ) × ((l : Lent) → Fair l → f.answer l ≡ Ok (length l.row) → f.sheet l ≡ written s l.sheet)

-- returns without writing
abbrev pub NothingWritten : Router → Type 0
NothingWritten f = (l : Lent) → Fair l → f.sheet l ≡ l.sheet

-- routes the first k nodes and fills in the others
abbrev pub FirstNodesAlone : ℕ → Router → Type 0
FirstNodesAlone k f = (l : Lent) → Fair l → Passes l.ku l.kl (take k (nodes l.row)) → f.answer l ≡ Ok (length l.row)

-- a function in the reader's place: its answer, and the row afterwards
pub record Reader : Type 0 where
  pub answer : (s row : List ℕ) → Reading
  pub row : (s row : List ℕ) → List ℕ

abbrev pub MeetsReader : Reader → Type 0
MeetsReader f = (s row : List ℕ) → Below 256 s → Below 256 row → GivenBack s row (f.answer s row) (f.row s row)

-- turns every sheet down
abbrev pub TurnsDown : Reader → Type 0
TurnsDown f = (s row : List ℕ) (n : ℕ) → f.answer s row ≡ Ok n → ⊥

-- a function in the agreement test's place
abbrev pub MeetsAgreement : (List ℕ → List ℕ → Bool) → Type 0
MeetsAgreement f = (row s : List ℕ) → Below 256 row → Below 256 s → f row s ≡ agrees row s

-- a function in the drawer's place: its answer, and the film afterwards
pub record Drawer : Type 0 where
  pub answer : (s film : List ℕ) → Drawing
  pub film : (s film : List ℕ) → List ℕ

abbrev pub MeetsDrawer : Drawer → Type 0
MeetsDrawer f = (s film : List ℕ) → Below 256 s → Below 256 film → Drawn s film (f.answer s film) (f.film s film)

-- draws empty films: it writes nothing
abbrev pub NothingDrawn : Drawer → Type 0
NothingDrawn f = (s film : List ℕ) → f.film s film ≡ film

-- or says of some sheet with a net that it has no records
pub record SaysEmpty (f : Drawer) : Type 0 where
  pub s : List ℕ
  pub film : List ℕ
  pub bytes : Below 256 s × Below 256 film
  pub net : 0 < nets_of s
  pub says : f.answer s film ≡ Ok 0

-- invents a record count
pub record Invented (f : Drawer) : Type 0 where
  pub s : List ℕ
  pub film : List ℕ
  pub k : ℕ
  pub bytes : Below 256 s × Below 256 film
  pub says : f.answer s film ≡ Ok k
  pub other : k ≢ length (records 16 s)

-- says 21 hastily: of a sheet without a fault whose records have room
pub record Hasty (f : Drawer) : Type 0 where
  pub s : List ℕ
  pub film : List ℕ
  pub bytes : Below 256 s × Below 256 film
  pub faultless : judge s ≡ none
  pub room : 5 * length (records 16 s) ≤ length film
  pub says : f.answer s film ≡ Err FilmShort
