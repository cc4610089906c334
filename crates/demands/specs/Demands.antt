-- The letter's three demands, and what holds from end to end, of every call that meets its entry point's contract.
--
-- `Routed`, `GivenBack` and `Drawn` are the contracts of router, reader and drawer: of a call they say what was lent, its answer, and what stands in the
-- buffers afterwards. Nothing else is known of a call here, so the demands hold of any code under these contracts. What is lent are bytes.
use Rattle.std.specs.Prelude.{◌≡◌, true, false, ◌↔◌, ◌≢◌, ◌⊎◌, ℕ, suc, ◌*◌, ◌≤◌, ◌<◌, length, take}
use mathlib.Core.List.{List, [], Memᴰ}
use Rattle.std.proofs.Math.Option.{none}
use Rattle.std.specs.declared.result.Result.TheVariants.{Ok, Err}
use Rattle.rules.specs.Answers.{Routing}
use Rattle.rules.specs.declared.RouteError.TheVariants.{Stuck}
use Rattle.rules.specs.Answers.{Reading}
use Rattle.rules.specs.Answers.{Drawing}
use Rattle.rules.specs.Row.{blank, joined, nodes, SamePins}
use Rattle.rules.specs.Street.{Placing, positions, choices, Choice, Earlier, IsFirst, StopsAt}
use Rattle.rules.specs.Bits.{Below}
use Rattle.rules.specs.Sheet.{size, sheet, SheetOf, upper_of, lower_of, count_of, nets_of, pins_of, row_of}
use Rattle.rules.specs.Film.{Rec, axis, records, film_bytes}
use Rattle.rules.specs.WireRules.{On, Linked, WireRules, Tidy}
use Rattle.rules.specs.Answers.{says, route_said, read_said, draw_said, first_lone, refusal, written, cleared, first_sheet, agrees, Reordered}
use Rattle.router.specs.Routed.{Routed}
use Rattle.sheet.specs.GivenBack.{GivenBack}
use Rattle.film.specs.Walks.{Drawn}
use Rattle.demands.specs.Causes.{first_cause, router_causes, reader_causes, drawer_causes}

-- the row passes checks 1 to 5
abbrev pub Checked : (row : List ℕ) (ku kl : ℕ) (work out : List ℕ) → Type 0
Checked row ku kl work out = refusal (length row) (first_lone row) ku kl (length work) (length out) ≡ none

-- a call of the router: what was lent, what was answered, and what stands in the buffers afterwards
pub record RouterCall (row : List ℕ) (ku kl : ℕ) : Type 0 where
  pub work : List ℕ
  pub out : List ℕ
  pub answer : Routing
  pub work' : List ℕ
  pub out' : List ℕ
  pub bytes : Below 256 row
  pub meets : Routed row ku kl work out answer work' out'

-- a call of the reader on the sheet s, and one of the drawer
pub record ReaderCall (s : List ℕ) : Type 0 where
  pub row : List ℕ
  pub answer : Reading
  pub row' : List ℕ
  pub bytes : Below 256 s
  pub meets : GivenBack s row answer row'

pub record DrawerCall (s : List ℕ) : Type 0 where
  pub film : List ℕ
  pub answer : Drawing
  pub film' : List ℕ
  pub bytes : Below 256 s
  pub meets : Drawn s film answer film'

-- records were put to the start of a film, in some order, and the rest of it is as it was
pub record Filmed (rs : List Rec) (film film' : List ℕ) : Type 0 where
  pub order : List Rec
  pub same : Reordered order rs
  pub bytes : film' ≡ written (film_bytes order) film

-- Demand 1. "The row, the work space and the output buffers that we lend are in a stated condition after every call, whatever was in them. Entry points
-- test their input themselves, refuse by a fixed number and in a fixed order, and a refusal leaves the output buffers untouched." The row, and the sheet
-- of reader and drawer, are lent read-only.
pub record RouterStated {row : List ℕ} {ku kl : ℕ} (c : RouterCall row ku kl) : Type 0 where
  pub said : route_said c.answer ≡ first_cause (router_causes row ku kl c.work c.out) (says 0 (length row))
  pub sheet-kept : (route_said c.answer).number ≢ 0 → c.out' ≡ c.out
  pub sheet-written : (route_said c.answer).number ≡ 0 → c.out' ≡ written (first_sheet row ku kl) c.out
  pub work-kept : (route_said c.answer).number ≢ 0 → (route_said c.answer).number ≢ 6 → c.work' ≡ c.work
  pub work-cleared : ((route_said c.answer).number ≡ 0) ⊎ ((route_said c.answer).number ≡ 6) → c.work' ≡ cleared row c.work

pub record ReaderStated {s : List ℕ} (c : ReaderCall s) : Type 0 where
  pub said : read_said c.answer ≡ first_cause (reader_causes s c.row) (says 0 (count_of s))
  pub row_kept : (read_said c.answer).number ≢ 0 → c.row' ≡ c.row
  pub row_written : (read_said c.answer).number ≡ 0 → c.row' ≡ written (row_of s) c.row

pub record DrawerStated {s : List ℕ} (c : DrawerCall s) : Type 0 where
  pub said : draw_said c.answer ≡ first_cause (drawer_causes s c.film) (says 0 (length (records 16 s)))
  pub film-kept : (draw_said c.answer).number ≢ 0 → c.film' ≡ c.film
  pub film-written : (draw_said c.answer).number ≡ 0 → Filmed (records 16 s) c.film c.film'

pub record Demand1 : Type 0 where
  pub router : {row : List ℕ} {ku kl : ℕ} (c : RouterCall row ku kl) → RouterStated c
  pub reader : {s : List ℕ} (c : ReaderCall s) → ReaderStated c
  pub drawer : {s : List ℕ} (c : DrawerCall s) → DrawerStated c

-- the records of a film, under the sheet's tracks and with the nets at its pins, obey the wire rules
pub record Obeying (s film film' : List ℕ) (k : ℕ) : Type 0 where
  pub rs : List Rec
  pub bytes : film' ≡ written (film_bytes rs) film
  pub count : length rs ≡ k
  pub rules : WireRules 16 (upper_of s) (lower_of s) (pins_of s) rs
  pub tidy : Tidy (upper_of s) (lower_of s) rs

-- Demand 2. "A sheet in document 01's layout, with space lent for its row, is accepted by the reader exactly when it meets the street rules there, and gives
-- back the joined pins. The wires drawn from it obey the published wire rules: separate nets never touch, each net joins its pins, no track is overfilled."
-- With request 1 the reader asks for at most 255 nets too, the blanks are given back, and no wire touches one.
pub record Demand2 : Type 0 where
  pub accepted : {s : List ℕ} (c : ReaderCall s) → count_of s ≤ length c.row → c.answer ≡ Ok (count_of s) ↔ (SheetOf s × (nets_of s ≤ 255))
  pub given_back : {s : List ℕ} (c : ReaderCall s) (n : ℕ) → c.answer ≡ Ok n → (x : SheetOf s) → SamePins x.row (take n c.row')
  pub drawn : {s : List ℕ} (c : DrawerCall s) (k : ℕ) → c.answer ≡ Ok k → Obeying s c.film c.film' k

-- Demand 3. "Whatever labels a row carries, and whatever stood in the work space and the sheet buffer: a row that passes checks 1 to 5 gets a sheet exactly
-- when some placing of its wires meets the street rules at every pin, and the answer 6 otherwise. The sheet is, byte for byte, that of the first such
-- placing: every other placing of the row that meets the rules comes later in document 01's reading order. Two rows that get sheets get equal ones exactly
-- when they join the same pins under the same track counts."
-- With request 1 the same pins are the same joins and the same blanks; the first placing has the smallest s at every blank, b − Kl or 0, as `positions` says,
-- and its choices at the B nodes come first of all choices; and 6 names no blank.
pub record Demand3 : Type 0 where
  pub sheet-exactly : {row : List ℕ} {ku kl : ℕ} (c : RouterCall row ku kl) → Checked row ku kl c.work c.out
      → c.answer ≡ Ok (length row) ↔ ((ps : List ℕ) × Placing ku kl (nodes row) ps)
  pub six-exactly : {row : List ℕ} {ku kl : ℕ} (c : RouterCall row ku kl) → Checked row ku kl c.work c.out
      → ((i : ℕ) × (c.answer ≡ Err (Stuck i))) ↔ ((ps : List ℕ) → Placing ku kl (nodes row) ps → ⊥)
  pub failing-node : {row : List ℕ} {ku kl : ℕ} (c : RouterCall row ku kl) → Checked row ku kl c.work c.out
      → (i : ℕ) → c.answer ≡ Err (Stuck i) ↔ StopsAt ku kl (nodes row) i
  pub first-bytes : {row : List ℕ} {ku kl : ℕ} (c : RouterCall row ku kl) → c.answer ≡ Ok (length row)
      → (ps : List ℕ) × IsFirst ku kl (nodes row) ps × (c.out' ≡ written (sheet ku kl (nodes row) ps) c.out)
  pub first-chosen : (row : List ℕ) (ku kl : ℕ) (ps : List ℕ) → IsFirst ku kl (nodes row) ps
      → (ps ≡ positions kl (nodes row) [] (choices (nodes row) ps))
      × ((cs : List ℕ) → Choice ku kl (nodes row) cs → (cs ≡ choices (nodes row) ps) ⊎ Earlier (choices (nodes row) ps) cs)
  pub six-no-blank : {row : List ℕ} {ku kl : ℕ} (c : RouterCall row ku kl) → Checked row ku kl c.work c.out
      → (i : ℕ) → c.answer ≡ Err (Stuck (suc i)) → blank row i ≡ false
  pub equal-exactly : {row row₂ : List ℕ} {ku kl ku₂ kl₂ : ℕ} (c : RouterCall row ku kl) (c₂ : RouterCall row₂ ku₂ kl₂)
      → c.answer ≡ Ok (length row) → c₂.answer ≡ Ok (length row₂)
      → take (size (length row)) c.out' ≡ take (size (length row₂)) c₂.out' ↔ (SamePins row row₂ × (ku ≡ ku₂) × (kl ≡ kl₂))

-- From end to end: a row that the router took, its sheet as it stands at the start of the lent buffer, and calls on that sheet.
abbrev pub sheet_of : {row : List ℕ} {ku kl : ℕ} → RouterCall row ku kl → List ℕ
sheet_of {row} c = take (size (length row)) c.out'

pub record EndToEnd : Type 0 where
  -- the reader takes it and gives back the row's pins, and the agreement test says yes
  pub read_back : {row : List ℕ} {ku kl : ℕ} (c : RouterCall row ku kl) → c.answer ≡ Ok (length row) → (d : ReaderCall (sheet_of c))
      → length row ≤ length d.row → (d.answer ≡ Ok (length row)) × SamePins row (take (length row) d.row')
  pub agreed : {row : List ℕ} {ku kl : ℕ} (c : RouterCall row ku kl) → c.answer ≡ Ok (length row) → agrees row (sheet_of c) ≡ true
  -- 14 records a node are room enough for its film
  pub drawable : {row : List ℕ} {ku kl : ℕ} (c : RouterCall row ku kl) → c.answer ≡ Ok (length row) → (d : DrawerCall (sheet_of c))
      → 5 * (14 * length row) ≤ length d.film → (k : ℕ) × (d.answer ≡ Ok k)
  -- the film joins two pins exactly where the row joins them, and touches no blank
  pub joins : {row : List ℕ} {ku kl : ℕ} (c : RouterCall row ku kl) → c.answer ≡ Ok (length row) → (d : DrawerCall (sheet_of c))
      → (k : ℕ) → d.answer ≡ Ok k
      → (rs : List Rec)
      × (d.film' ≡ written (film_bytes rs) d.film)
      × ((i j : ℕ) → i < length row → j < length row → joined row i j ≡ true ↔ ((net : ℕ) × Linked net rs (16 * i) axis (16 * j) axis))
      × ((i : ℕ) → i < length row → blank row i ≡ true → (r : Rec) → Memᴰ r rs → On r (16 * i) axis → ⊥)
  -- the same pins under the same tracks get the same answer, the same sheet, and films of the same records
  pub same_answer : {row row₂ : List ℕ} {ku kl : ℕ} (c : RouterCall row ku kl) (c₂ : RouterCall row₂ ku kl) → SamePins row row₂
      → Checked row ku kl c.work c.out → Checked row₂ ku kl c₂.work c₂.out → c.answer ≡ c₂.answer
  pub same-sheet : {row row₂ : List ℕ} {ku kl : ℕ} (c : RouterCall row ku kl) (c₂ : RouterCall row₂ ku kl) → SamePins row row₂
      → c.answer ≡ Ok (length row) → c₂.answer ≡ Ok (length row₂) → sheet_of c ≡ sheet_of c₂
  pub same-records : {s : List ℕ} (c c₂ : DrawerCall s) (k k₂ : ℕ) → c.answer ≡ Ok k → c₂.answer ≡ Ok k₂
      → (rs : List Rec) × Filmed rs c.film c.film' × Filmed rs c₂.film c₂.film'
