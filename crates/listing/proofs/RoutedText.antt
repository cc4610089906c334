-- What the router gives can be listed, and its text is that of the row: of the first placing's sheet, or of the refusal.
use mathlib.Core.Path.{◌≡◌, refl, sym, ap, ap₂, ◌∙◌}
use mathlib.Core.Bool.{Bool, true, false, not}
use mathlib.Core.List.{List, [], ◌++◌}
use mathlib.Core.Option.{Option, none}
use Prim.Native.Nat.{ℕ, suc, ◌*◌, ◌≤◌}
use native.Mathlib.Omega.{arith}
use lib.ListN.{length, take, drop, replicate, length-append, length-replicate}
use lib.Dec.{ltb}
use Rattle.std.specs.declared.result.Result.TheVariants.{Ok, Err}
use Rattle.rules.specs.Answers.{Routing}
use Rattle.rules.specs.declared.RouteError.TheVariants.{RowLength, Tracks, Lone, WorkShort, SheetShort, Stuck}
use Rattle.rules.specs.Basic.{keep, or_else, settle}
use Rattle.rules.specs.Row.{nodes}
use Rattle.rules.specs.Street.{first, IsFirst}
use Rattle.rules.specs.Sheet.{takes, size, sheet, Entry, entries, upper_of, lower_of, count_of, entries_of}
use Rattle.rules.specs.Judgement.{wrong_count}
use Rattle.rules.specs.Answers.{first_lone, refusal, outcome, routing, first_sheet, written, sheet_after}
use Rattle.rules.proofs.SheetFields.{LaidOut}
use Rattle.rules.proofs.Accepted.{length-entries, length-nodes, placed-laid}
use Rattle.rules.proofs.Demand3.{Checked, checked-fit, Answered, placed, stuck, answered}
use Rattle.router.specs.Routed.{Routed}
use Rattle.sheet.specs.Fields.{entries_in, Packed, Unpacked}
use Rattle.listing.specs.Text.{head_line, node_lines, listed, answer, row_text}
use Rattle.listing.specs.Wrote.{Readable, Listable, Listing}
use Rattle.listing.proofs.FrontFields.{front-count, front-listed}

-- ---- a sheet

-- a sheet whose nodes can be listed has its head, and its nodes can be unpacked to 512 bytes
pub readable-long : {s : List ℕ} {n : ℕ} → Readable s n → 2 ≤ length s
unfolding size
readable-long r = omega (arith, r.whole)

pub readable-packed : {s : List ℕ} {n : ℕ} → Readable s n → (fields : List ℕ) → 512 ≤ length fields → Packed s n fields
unfolding size
readable-packed r fields h = record { count = sym r.count; within = omega (arith, r.whole); room = omega (arith, r.few) }

-- heading and the lines of its unpacked nodes are the sheet's text
pub sheet-text : {s fields : List ℕ} {n : ℕ} (ku kl : ℕ) → Readable s n → Unpacked s fields → ku ≡ upper_of s → kl ≡ lower_of s
    → listed (Ok n) s ≡ head_line n ku kl ++ node_lines 1 0 (entries_in (take n fields))
unfolding listed
sheet-text {s} {fields} {n} ku kl r u eu el =
    let e : entries_in (take n fields) ≡ entries_of s = ap (λ (k : ℕ). entries_in (take k fields)) (sym r.count) ∙ u.entries in
    rw (eu, el, e) refl

-- ---- the router's answer

-- a sheet is given only after checks 1 to 5
module _ (row : List ℕ) (ku kl : ℕ) (work out : List ℕ) where
  sheet-checked : (n : ℕ) → routing row ku kl work out ≡ Ok n → Checked row ku kl work out
  unfolding routing refusal settle or_else keep
  sheet-checked n e =
      go (wrong_count (length row)) (not (takes ku kl)) (ltb (first_lone row) (length row)) (ltb (length work) (90 * length row))
      (ltb (length out) (size (length row))) e
    where
      late : Routing
      late = outcome ku kl (nodes row) (first ku kl (nodes row))

      checks : (t₁ t₂ t₃ t₄ t₅ : Bool) → Option Routing
      checks t₁ t₂ t₃ t₄ t₅ =
          or_else (keep t₁ (Err RowLength)) (or_else (keep t₂ (Err Tracks)) (or_else (keep t₃ (Err (Lone (suc (first_lone row))))) (or_else (keep t₄ (Err WorkShort)) (keep t₅ (Err SheetShort)))))

      go : (t₁ t₂ t₃ t₄ t₅ : Bool) → settle (checks t₁ t₂ t₃ t₄ t₅) late ≡ Ok n → checks t₁ t₂ t₃ t₄ t₅ ≡ none
      go true t₂ t₃ t₄ t₅ e = let z : ◌≡◌ {A = ℕ} 0 1 = cc in absurd (omega arith)
      go false true t₃ t₄ t₅ e = let z : ◌≡◌ {A = ℕ} 0 1 = cc in absurd (omega arith)
      go false false true t₄ t₅ e = let z : ◌≡◌ {A = ℕ} 0 1 = cc in absurd (omega arith)
      go false false false true t₅ e = let z : ◌≡◌ {A = ℕ} 0 1 = cc in absurd (omega arith)
      go false false false false true e = let z : ◌≡◌ {A = ℕ} 0 1 = cc in absurd (omega arith)
      go false false false false false e = refl

  -- the fields of the first placing's sheet
  first-laid : Checked row ku kl work out → (ps : List ℕ) → IsFirst ku kl (nodes row) ps → LaidOut ku kl (entries (nodes row) ps) (sheet ku kl (nodes row) ps)
  first-laid c ps f =
      let h = checked-fit row ku kl work out c in
      placed-laid row ku kl ps
      (record { least = h.least; most = h.most; whole = h.whole; upper = h.upper; lower = h.lower; placing = f.placing })

  -- the sheet that is given has n nodes, its size, and the text of the first placing
  record Given (n : ℕ) : Type 0 where
    few : n ≤ 512
    count : count_of (first_sheet row ku kl) ≡ n
    sized : length (first_sheet row ku kl) ≡ size n
    ps : List ℕ
    first : IsFirst ku kl (nodes row) ps
    text : listed (Ok n) (first_sheet row ku kl) ≡ head_line n ku kl ++ node_lines 1 0 (entries (nodes row) ps)

  sheet-given : (n : ℕ) → routing row ku kl work out ≡ Ok n → Given n
  unfolding listed
  sheet-given n e = go (answered row ku kl work out (sheet-checked n e))
    where
      go : Answered row ku kl work out (sheet-checked n e) → Given n
      go (stuck i x s a) = let z : ◌≡◌ {A = ℕ} 0 1 = cc in absurd (omega arith)
      go (placed ps f a s) =
          let is : length row ≡ n = cc in
          let l = first-laid (sheet-checked n e) ps f in
          let k : length (entries (nodes row) ps) ≡ n = length-entries ku kl (nodes row) [] ps [] f.placing ∙ length-nodes row ∙ is in
          record {
            few = omega (arith, (checked-fit row ku kl work out (sheet-checked n e)).most);
            count = ap count_of s ∙ l.count ∙ k;
            sized = ap length s ∙ l.sized ∙ ap size k;
            ps = ps;
            first = f;
            text =
                ap (listed (Ok n)) s
                ∙ ap₂ (λ (u v : ℕ). head_line n u v ++ node_lines 1 0 (entries_of (sheet ku kl (nodes row) ps))) l.upper l.lower
                ∙ ap (λ (es : List Entry). head_line n ku kl ++ node_lines 1 0 es) l.nodes;
          }

  module _ (r : Routing) (work' out' : List ℕ) (c : Routed row ku kl work out r work' out') where
    abbrev S : List ℕ
    S = first_sheet row ku kl

    behind : (n : ℕ) → r ≡ Ok n → out' ≡ S ++ drop (length S) out
    unfolding sheet_after written
    behind n e = c.written ∙ ap (λ (q : Routing). sheet_after q row ku kl out) e

    long : (n : ℕ) → r ≡ Ok n → 2 ≤ length S
    unfolding size
    long n e = omega (arith, (sheet-given n (sym c.answer ∙ e)).sized)

    routed-listable : Listable r out'
    routed-listable n e =
        let g = sheet-given n (sym c.answer ∙ e) in
        let t : List ℕ = drop (length S) out in
        record {
          few = g.few;
          count = ap count_of (behind n e) ∙ front-count S t (long n e) ∙ g.count;
          whole = omega (arith, ap length (behind n e), length-append S t, g.sized);
        }

    same_text : (q : Routing) → r ≡ q → listed q out' ≡ listed q S
    unfolding listed
    same_text (Ok n) e =
        let g = sheet-given n (sym c.answer ∙ e) in
        ap (listed (Ok n)) (behind n e) ∙ front-listed S (drop (length S) out) (omega (arith, g.sized, ap size g.count)) n
    same_text (Err RowLength) e = refl
    same_text (Err Tracks) e = refl
    same_text (Err (Lone i)) e = refl
    same_text (Err WorkShort) e = refl
    same_text (Err SheetShort) e = refl
    same_text (Err (Stuck i)) e = refl

    -- only the lengths of the buffers matter
    same_answer : length work ≡ 46080 → length out ≡ 386 → r ≡ answer row ku kl
    unfolding answer routing size
    same_answer w o =
        c.answer
        ∙ ap₂ (λ (k l : ℕ). settle (refusal (length row) (first_lone row) ku kl k l) (outcome ku kl (nodes row) (first ku kl (nodes row))))
        (w ∙ sym (length-replicate {A = ℕ} 46080 0)) (o ∙ sym (length-replicate {A = ℕ} 386 0))

    routed-text : length work ≡ 46080 → length out ≡ 386 → listed r out' ≡ row_text row ku kl
    unfolding row_text
    routed-text w o = same_text r refl ∙ ap (λ (q : Routing). listed q S) (same_answer w o)

pub text-listing : {new new' text text' : List ℕ} {end : ℕ} → new ≡ new' → Listing new text text' end → Listing new' text text' end
text-listing e l = rw e at l

module _ {row : List ℕ} {ku kl : ℕ} {work out : List ℕ} {r : Routing} {work' out' : List ℕ} (c : Routed row ku kl work out r work' out') where
  pub listable : Listable r out'
  listable = routed-listable row ku kl work out r work' out' c

  pub routed-listing : length work ≡ 46080 → length out ≡ 386 → {text text' : List ℕ} {end : ℕ} → Listing (listed r out') text text' end
      → Listing (row_text row ku kl) text text' end
  routed-listing w o = text-listing (routed-text row ku kl work out r work' out' c w o)

-- an accepted row is listed with the kinds and positions of its first placing
pub accepted-text : (row : List ℕ) (ku kl n : ℕ) → answer row ku kl ≡ Ok n
    → (ps : List ℕ) × IsFirst ku kl (nodes row) ps × (row_text row ku kl ≡ head_line n ku kl ++ node_lines 1 0 (entries (nodes row) ps))
unfolding answer row_text
accepted-text row ku kl n e =
    let g = sheet-given row ku kl (replicate (90 * 512) 0) (replicate (size 512) 0) n e in
    (g.ps, g.first, ap (λ (q : Routing). listed q (first_sheet row ku kl)) e ∙ g.text)
