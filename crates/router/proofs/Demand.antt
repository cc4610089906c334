-- Demand 3 in the letter's words, of any call that meets the router's contract.
use mathlib.Core.Path.{◌≡◌, sym, ap, ◌∙◌}
use mathlib.Core.Bool.{true}
use mathlib.Core.List.{List}
use mathlib.Core.Logic.{◌↔◌}
use mathlib.Core.Option.{none}
use Prim.Native.Nat.{ℕ}
use lib.ListN.{length}
use Rattle.std.specs.declared.result.Result.TheVariants.{Ok, Err}
use Rattle.rules.specs.Answers.{Routing}
use Rattle.rules.specs.declared.RouteError.TheVariants.{Stuck}
use Rattle.rules.specs.Row.{nodes, SamePins}
use Rattle.rules.specs.Street.{Placing, IsFirst, StopsAt, first}
use Rattle.rules.specs.Bits.{Below}
use Rattle.rules.specs.Sheet.{sheet, row_of}
use Rattle.rules.specs.Judgement.{readable}
use Rattle.rules.specs.Answers.{written, outcome, routing, first_sheet, sheet_after, agrees}
use Rattle.rules.proofs.Pins.{same_nodes}
use Rattle.rules.proofs.Demand3.{Checked, routing-outcome, sheet-exactly, six-exactly, first-bytes, equal-sheets}
use Rattle.rules.proofs.Demand2.{routed-pins, routed-agrees}
use Rattle.router.specs.Routed.{Routed}

-- a call on a row that passes checks 1 to 5
module _ (row : List ℕ) (ku kl : ℕ) (work out : List ℕ) (r : Routing) (work' out' : List ℕ) (call : Routed row ku kl work out r work' out')
    (checked : Checked row ku kl work out) where
  -- it gets a sheet exactly when some placing of its wires meets the street rules at every pin
  pub sheet-when-placed : r ≡ Ok (length row) ↔ ((ps : List ℕ) × Placing ku kl (nodes row) ps)
  sheet-when-placed =
      (λ e. (sheet-exactly row ku kl work out checked).0 (sym call.answer ∙ e), λ p. call.answer ∙ (sheet-exactly row ku kl work out checked).1 p)

  -- and the answer 6 otherwise and only then, at the failing node
  pub six-when-stuck : (i : ℕ) → r ≡ Err (Stuck i) ↔ StopsAt ku kl (nodes row) i
  six-when-stuck i =
      (λ e. (six-exactly row ku kl work out checked i).0 (sym call.answer ∙ e), λ s. call.answer ∙ (six-exactly row ku kl work out checked i).1 s)

  -- the sheet is, byte for byte, that of the first placing, and the rest of its buffer is as it was
  pub first-placing-bytes : (ps : List ℕ) → IsFirst ku kl (nodes row) ps → out' ≡ written (sheet ku kl (nodes row) ps) out
  first-placing-bytes ps f = call.written ∙ ap (λ a. sheet_after a row ku kl out) call.answer ∙ first-bytes row ku kl work out checked ps f

  -- reading the router's sheet gives back the row's pins, and the agreement test says yes of the row and its sheet
  pub reads-back : Below 256 row → r ≡ Ok (length row) → (readable (first_sheet row ku kl) ≡ none) × SamePins row (row_of (first_sheet row ku kl))
  reads-back b e = routed-pins row ku kl work out b checked (sym call.answer ∙ e)

  pub agrees-with-it : Below 256 row → r ≡ Ok (length row) → agrees row (first_sheet row ku kl) ≡ true
  agrees-with-it b e = routed-agrees row ku kl work out b checked (sym call.answer ∙ e)

-- two calls that pass the checks
module _ (row row₂ : List ℕ) (ku kl : ℕ) (work out work₂ out₂ : List ℕ) (r r₂ : Routing) (work' out' work₂' out₂' : List ℕ)
    (call : Routed row ku kl work out r work' out') (call₂ : Routed row₂ ku kl work₂ out₂ r₂ work₂' out₂')
    (checked : Checked row ku kl work out) (checked₂ : Checked row₂ ku kl work₂ out₂) where
  -- whatever labels the rows carry, and whatever stood in the buffers: the same pins get the same answer
  pub same_answer : SamePins row row₂ → r ≡ r₂
  same_answer s =
      call.answer
      ∙ routing-outcome row ku kl work out checked
      ∙ ap (λ ns. outcome ku kl ns (first ku kl ns)) (same_nodes row row₂ s)
      ∙ sym (call₂.answer ∙ routing-outcome row₂ ku kl work₂ out₂ checked₂)

-- two rows that get sheets get equal ones exactly when they join the same pins and have the same blanks under the same track counts
pub sheets-equal : (row row₂ : List ℕ) (ku kl ku₂ kl₂ : ℕ) (work out work₂ out₂ : List ℕ)
    → Checked row ku kl work out → Checked row₂ ku₂ kl₂ work₂ out₂
    → routing row ku kl work out ≡ Ok (length row) → routing row₂ ku₂ kl₂ work₂ out₂ ≡ Ok (length row₂)
    → first_sheet row ku kl ≡ first_sheet row₂ ku₂ kl₂ ↔ (SamePins row row₂ × (ku ≡ ku₂) × (kl ≡ kl₂))
sheets-equal row row₂ ku kl ku₂ kl₂ work out work₂ out₂ c c₂ g g₂ =
    equal-sheets row row₂ ku kl ku₂ kl₂ work out work₂ out₂ c c₂ g g₂
