-- Demand 3 of the letter, on the router's answer: a row that passes checks 1 to 5 gets the first placing's sheet, or 6 where it has no placing.
use mathlib.Core.Path.{◌≡◌, refl, sym, ap, ap₂, ◌∙◌}
use mathlib.Core.Bool.{false, not}
use mathlib.Core.List.{List}
use mathlib.Core.Logic.{◌↔◌}
use mathlib.Core.Option.{Option, none, some}
use Prim.Native.Nat.{ℕ, suc, ◌*◌, ◌≤◌, ◌<◌}
use native.Mathlib.Omega.{arith}
use lib.ListN.{length}
use lib.Dec.{ltb}
use borrow.Author.Tests.{not-false, ltb-false}
use Rattle.std.specs.declared.result.Result.TheVariants.{Ok, Err}
use Rattle.rules.specs.declared.RouteError.TheVariants.{RowLength, Tracks, Lone, WorkShort, SheetShort, Stuck}
use Rattle.rules.specs.Basic.{least, keep, settle}
use Rattle.rules.specs.Row.{lone, nodes, SamePins}
use Rattle.rules.specs.Street.{Placing, IsFirst, StopsAt, first, failing}
use Rattle.rules.specs.Sheet.{takes, size, sheet, Placed}
use Rattle.rules.specs.Judgement.{wrong_count}
use Rattle.rules.specs.Answers.{first_lone, refusal, outcome, routing, first_sheet, written, sheet_after}
use Rattle.rules.proofs.Least.{least-before}
use Rattle.rules.proofs.Search.{first_some, first-none, first-unique}
use Rattle.rules.proofs.Failing.{stops-unique}
use Rattle.rules.proofs.Pins.{same-sheet}
use Rattle.rules.proofs.NoPlacing.{stuck-stops, stops-stuck}
use Rattle.rules.proofs.Accepted.{keep-none, or_else-none, takes-le, count-within, length-nodes, sheets-fields, same-sheet-pins}

-- a row passes checks 1 to 5 under Ku and Kl, with buffers of these lengths
abbrev pub Checked : (row : List ℕ) (ku kl : ℕ) (work out : List ℕ) → Type 0
Checked row ku kl work out = refusal (length row) (first_lone row) ku kl (length work) (length out) ≡ none

-- what the checks say
pub record Fit (row : List ℕ) (ku kl : ℕ) (work out : List ℕ) : Type 0 where
  pub least : 2 ≤ length row
  pub most : length row ≤ 512
  pub upper : ku ≤ 3
  pub lower : kl ≤ 3
  pub whole : (i : ℕ) → i < length row → lone row i ≡ false
  pub work-long : 90 * length row ≤ length work
  pub sheet-long : size (length row) ≤ length out

module _ (row : List ℕ) (ku kl : ℕ) (work out : List ℕ) where
  pub checked-fit : Checked row ku kl work out → Fit row ku kl work out
  unfolding refusal first_lone
  checked-fit e =
      let n : ℕ = length row in
      let i : ℕ = least (lone row) n in
      let h₁ = or_else-none (keep (wrong_count n) (Err RowLength)) _ e in
      let h₂ = or_else-none (keep (not (takes ku kl)) (Err Tracks)) _ h₁.1 in
      let h₃ = or_else-none (keep (ltb i n) (Err (Lone (suc i)))) _ h₂.1 in
      let h₄ = or_else-none (keep (ltb (length work) (90 * n)) (Err WorkShort)) _ h₃.1 in
      let c = count-within n (keep-none _ (Err RowLength) h₁.0) in
      let t = takes-le ku kl (not-false (takes ku kl) (keep-none _ (Err Tracks) h₂.0)) in
      let l : n ≤ i = ltb-false i n (keep-none _ (Err (Lone (suc i))) h₃.0) in
      record {
        least = c.0;
        most = c.1;
        upper = t.0;
        lower = t.1;
        whole = λ j h. least-before (lone row) n j (omega arith);
        work-long = ltb-false (length work) (90 * n) (keep-none _ (Err WorkShort) h₄.0);
        sheet-long = ltb-false (length out) (size n) (keep-none _ (Err SheetShort) h₄.1);
      }

  module _ (checked : Checked row ku kl work out) where
    pub routing-outcome : routing row ku kl work out ≡ outcome ku kl (nodes row) (first ku kl (nodes row))
    unfolding routing settle
    routing-outcome = rw checked

    whole : (i : ℕ) → i < length row → lone row i ≡ false
    whole = (checked-fit checked).whole

    -- what the router says and writes, with the reason
    pub data Answered : Type 0 where
      placed : (ps : List ℕ) → IsFirst ku kl (nodes row) ps → routing row ku kl work out ≡ Ok (length row)
          → first_sheet row ku kl ≡ sheet ku kl (nodes row) ps → Answered
      stuck : (i : ℕ) → ((ps : List ℕ) → Placing ku kl (nodes row) ps → ⊥) → StopsAt ku kl (nodes row) i → routing row ku kl work out ≡ Err (Stuck i)
          → Answered

    pub answered : Answered
    unfolding outcome first_sheet settle
    answered = go (first ku kl (nodes row)) refl
      where
        go : (r : Option (List ℕ)) → first ku kl (nodes row) ≡ r → Answered
        go (some ps) e =
            placed ps (first_some ku kl (nodes row) ps e) (routing-outcome ∙ ap (outcome ku kl (nodes row)) e ∙ ap Ok (length-nodes row)) (rw e)
        go none e =
            let n = first-none ku kl (nodes row) e in
            stuck (suc (failing ku kl (nodes row))) n (stuck-stops ku kl row whole n) (routing-outcome ∙ ap (outcome ku kl (nodes row)) e)

    -- a sheet exactly when some placing meets the street rules at every pin
    pub sheet-exactly : routing row ku kl work out ≡ Ok (length row) ↔ ((ps : List ℕ) × Placing ku kl (nodes row) ps)
    sheet-exactly = (to answered, from answered)
      where
        to : Answered → routing row ku kl work out ≡ Ok (length row) → (ps : List ℕ) × Placing ku kl (nodes row) ps
        to (placed ps f a s) e = (ps, f.placing)
        to (stuck i n s a) e = let z : ◌≡◌ {A = ℕ} 0 1 = cc in absurd (omega arith)

        from : Answered → (ps : List ℕ) × Placing ku kl (nodes row) ps → routing row ku kl work out ≡ Ok (length row)
        from (placed ps f a s) p = a
        from (stuck i n s a) p = absurd (n p.0 p.1)

    -- 6 otherwise and only then, at the failing node
    pub six-exactly : (i : ℕ) → routing row ku kl work out ≡ Err (Stuck i) ↔ StopsAt ku kl (nodes row) i
    six-exactly i = (to answered, from answered)
      where
        to : Answered → routing row ku kl work out ≡ Err (Stuck i) → StopsAt ku kl (nodes row) i
        to (placed ps f a s) e = let z : ◌≡◌ {A = ℕ} 0 1 = cc in absurd (omega arith)
        to (stuck j n s a) e = let z : j ≡ i = cc in rw z at s

        from : Answered → StopsAt ku kl (nodes row) i → routing row ku kl work out ≡ Err (Stuck i)
        from (placed ps f a s) t = absurd (stops-stuck ku kl row whole i t ps f.placing)
        from (stuck j n s a) t = a ∙ ap (λ k. Err (Stuck k)) (stops-unique ku kl (nodes row) j i s t)

    -- the sheet is, byte for byte, that of the first placing
    pub first-bytes : (ps : List ℕ) → IsFirst ku kl (nodes row) ps
        → sheet_after (routing row ku kl work out) row ku kl out ≡ written (sheet ku kl (nodes row) ps) out
    unfolding sheet_after first_sheet settle
    first-bytes ps f =
        ap (λ a. sheet_after a row ku kl out) (sheet-exactly.1 (ps, f.placing))
        ∙ rw (first-unique ku kl (nodes row) ps f)

-- a row that gets a sheet is placed, and the sheet is that of its first placing
pub first-placed : (row : List ℕ) (ku kl : ℕ) (work out : List ℕ) → Checked row ku kl work out → routing row ku kl work out ≡ Ok (length row)
    → (ps : List ℕ) × Placed row ku kl ps × (first_sheet row ku kl ≡ sheet ku kl (nodes row) ps)
first-placed row ku kl work out c e = go (answered row ku kl work out c)
  where
    go : Answered row ku kl work out c → (ps : List ℕ) × Placed row ku kl ps × (first_sheet row ku kl ≡ sheet ku kl (nodes row) ps)
    go (placed ps f a s) =
        let h = checked-fit row ku kl work out c in
        (ps, record { least = h.least; most = h.most; whole = h.whole; upper = h.upper; lower = h.lower; placing = f.placing }, s)
    go (stuck i n s a) = let z : ◌≡◌ {A = ℕ} 0 1 = cc in absurd (omega arith)

-- two rows that get sheets get equal ones exactly when they have equal joins and equal blanks under the same track counts
module _ (row row' : List ℕ) (ku kl ku' kl' : ℕ) (work out work' out' : List ℕ)
    (checked : Checked row ku kl work out) (checked' : Checked row' ku' kl' work' out')
    (got : routing row ku kl work out ≡ Ok (length row)) (got' : routing row' ku' kl' work' out' ≡ Ok (length row')) where
  pub equal-sheets : first_sheet row ku kl ≡ first_sheet row' ku' kl' ↔ (SamePins row row' × (ku ≡ ku') × (kl ≡ kl'))
  unfolding first_sheet
  equal-sheets = (to, from)
    where
      to : first_sheet row ku kl ≡ first_sheet row' ku' kl' → SamePins row row' × (ku ≡ ku') × (kl ≡ kl')
      to e =
          let p = first-placed row ku kl work out checked got in
          let q = first-placed row' ku' kl' work' out' checked' got' in
          let s : sheet ku kl (nodes row) p.0 ≡ sheet ku' kl' (nodes row') q.0 = sym p.2 ∙ e ∙ q.2 in
          let f = sheets-fields row row' ku kl ku' kl' p.0 q.0 p.1 q.1 s in
          (same-sheet-pins row row' ku kl ku' kl' p.0 q.0 p.1 q.1 s, f.upper, f.lower)

      from : SamePins row row' × (ku ≡ ku') × (kl ≡ kl') → first_sheet row ku kl ≡ first_sheet row' ku' kl'
      from h = same-sheet row row' h.0 ku kl ∙ ap₂ (first_sheet row') h.1 h.2
