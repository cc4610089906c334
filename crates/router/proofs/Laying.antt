-- From what the search finds to the router's answer: the failing node, or the first placing's sheet, with work cleared.
use mathlib.Core.Path.{◌≡◌, refl, sym, ap, ap₂, ◌∙◌}
use mathlib.Core.List.{List, [], ◌∷◌, ◌++◌, map}
use mathlib.Core.Option.{none}
use Prim.Native.Nat.{ℕ, suc, ◌+◌, ◌-◌, ◌*◌}
use native.Mathlib.Numerals.{add-one}
use native.Mathlib.Omega.{arith}
use lib.ListN.{length, take, drop, replicate, length-replicate, get_or-replicate}
use lib.Seq.{length-take-le, ext_get_or}
use Rattle.std.specs.declared.result.Result.TheVariants.{Ok, Err}
use Rattle.rules.specs.declared.RouteError.TheVariants.{Stuck}
use Rattle.rules.specs.Basic.{settle}
use Rattle.rules.specs.Row.{Node, nodes}
use Rattle.rules.specs.Street.{kind, IsFirst, StopsAt, first}
use Rattle.rules.specs.Bits.{bytes}
use Rattle.rules.specs.declared.Streets.{Streets}
use Rattle.rules.specs.Sheet.{Entry as SheetEntry, entry, code, entries, sheet_bits, sheet}
use Rattle.rules.specs.Answers.{written, outcome, cleared, work_after, first_sheet, sheet_after}
use Rattle.rules.proofs.Search.{first-unique, no-placing}
use Rattle.rules.proofs.Failing.{stops-failing}
use Rattle.rules.proofs.NoPlacing.{stops-stuck}
use Rattle.rules.proofs.Accepted.{length-nodes}
use Rattle.rules.proofs.Demand3.{Fit}
use Rattle.steps.specs.Plan.{Step, Steps, Tells}
use Rattle.steps.specs.Sets.{Clear}
use Rattle.orders.specs.Passes.{Given, First}
use Rattle.script.proofs.Touched.{tells-steps}
use Rattle.script.proofs.Passed.{plan-kinds}
use Rattle.writer.specs.Entries.{Entry}
use Rattle.writer.specs.Entered.{Writing, listed}
use Rattle.router.specs.Walk.{Planned, Entered, aboves}
use Rattle.router.specs.Search.{Blocked}
use Rattle.router.specs.Routed.{Laid}
use Rattle.router.proofs.Bridge.{hops-first, hops-stops, length-told}

-- cleared bytes are zeros
clear-zeros : (s : List ℕ) → Clear s → s ≡ replicate (length s) 0
clear-zeros s c = ext_get_or 0 s (replicate (length s) 0) (sym (length-replicate (length s) 0)) (λ i h. c i ∙ sym (get_or-replicate (length s) i 0 0 h))

-- entries of nodes' kinds are those of the nodes, with one less than each position
listed-entries : (es : List Entry) (ns : List Node) → map (λ (e : Entry). e.kind) es ≡ map kind ns → listed es ≡ entries ns (map suc (aboves es))
unfolding listed entries
listed-entries [] [] q = refl
listed-entries [] (n ∷ ns) q = let z : ◌≡◌ {A = ℕ} 0 1 = cc in absurd (omega arith)
listed-entries (e ∷ es) [] q = let z : ◌≡◌ {A = ℕ} 0 1 = cc in absurd (omega arith)
listed-entries (e ∷ es) (n ∷ ns) q =
    let k : e.kind ≡ kind n = cc in
    let r : map (λ (x : Entry). x.kind) es ≡ map kind ns = cc in
    ap₂ {C = List SheetEntry} (λ x l. x ∷ l) (ap₂ entry (ap code k) (less e.above)) (listed-entries es ns r)
  where
    less : (p : ℕ) → p ≡ suc p - 1
    less p = omega arith

module _ (row : List ℕ) (ss : List Step) (st : Streets) (work out : List ℕ) (fit : Fit row st.upper st.lower work out) (told : Tells (nodes row) [] ss) where
  abbrev n : ℕ
  n = length row

  pub work-cut : 90 * n ≡ length (take (90 * n) work)
  work-cut = sym (length-take-le (90 * n) work fit.work-long)

  plan : Steps 0 ss
  plan = tells-steps row ss told

  steps-count : length ss ≡ n
  steps-count = sym (length-told st.upper st.lower fit.upper fit.lower row fit.whole told plan told) ∙ length-nodes row

  pub lay-given : Given ss (take (90 * n) work)
  lay-given = record { room = omega (arith, steps-count, work-cut); plan = plan }

  pub lay-planned : Planned row ss
  lay-planned = record { few = fit.most; whole = fit.whole; tells = told }

  module _ (after : List ℕ) (long : length after ≡ length (take (90 * n) work)) (clear : Clear after) where
    after-zeros : after ++ drop (90 * n) work ≡ cleared row work
    unfolding cleared written
    after-zeros =
        let e : length after ≡ 90 * n = long ∙ sym work-cut in
        ap₂ (λ a k. a ++ drop k work) (clear-zeros after clear ∙ ap (λ k. replicate k 0) e) (sym (length-replicate (90 * n) 0))

    -- 6 at the node that is not passed
    pub lay-stuck : (passed : ℕ) → Blocked st.upper st.lower ss passed → Laid row st.upper st.lower work out (Err (Stuck (passed + 1))) (after ++ drop (90 * n) work) out
    unfolding outcome work_after sheet_after
    lay-stuck passed f =
        let w = f.passes.way in
        let s : StopsAt st.upper st.lower (nodes row) (suc passed) =
        hops-stops st.upper st.lower fit.upper fit.lower row fit.whole told plan passed (omega (arith, length-nodes row, steps-count, f.within)) w.ps f.passes.end w.runs
        (λ qs y e. f.stuck (record { end = y; way = record { ps = qs; runs = e } })) in
        let none_found : first st.upper st.lower (nodes row) ≡ none = no-placing st.upper st.lower (nodes row) (stops-stuck st.upper st.lower row fit.whole (suc passed) s) in
        record {
          answer = ap (λ k. Err (Stuck k)) (add-one passed ∙ stops-failing st.upper st.lower (nodes row) (suc passed) s) ∙ sym (ap (outcome st.upper st.lower (nodes row)) none_found);
          cleared = after-zeros;
          written = refl;
        }

    -- all nodes are passed: the places are those of the first placing
    module _ (es : List Entry) (found : Entered st.upper st.lower ss es) where
      abbrev done : List Entry
      done = take n es

      ways : First st.upper st.lower ss 0 (aboves done)
      ways = rw steps-count at found.first

      is-first : IsFirst st.upper st.lower (nodes row) (map suc (aboves done))
      is-first = hops-first st.upper st.lower fit.upper fit.lower row fit.whole told plan (aboves done) ways.end ways.runs ways.others

      kinds-told : map (λ (e : Entry). e.kind) done ≡ map kind (nodes row)
      kinds-told =
          rw steps-count at found.told
          ∙ plan-kinds row st.upper st.lower (omega (arith, fit.upper, fit.lower)) ss (map suc (aboves done)) [] told is-first.placing

      pub done-count : n ≡ length done
      done-count = sym (length-take-le n es (omega (arith, found.cells, fit.most)))

      pub lay-writing : Writing out done
      lay-writing = record { few = omega (arith, done-count, fit.most); room = rw (← done-count) fit.sheet-long }

      sheet-bytes : bytes (sheet_bits st.upper st.lower (listed done)) ≡ first_sheet row st.upper st.lower
      unfolding first_sheet sheet settle
      sheet-bytes =
          ap (λ es. bytes (sheet_bits st.upper st.lower es)) (listed-entries done (nodes row) kinds-told)
          ∙ rw (first-unique st.upper st.lower (nodes row) (map suc (aboves done)) is-first)

      -- the first placing's sheet is written
      pub lay-sheet : (out' : List ℕ) → out' ≡ written (bytes (sheet_bits st.upper st.lower (listed done))) out
          → Laid row st.upper st.lower work out (Ok n) (after ++ drop (90 * n) work) out'
      unfolding outcome work_after sheet_after
      lay-sheet out' e =
          record {
            answer = sym (ap (outcome st.upper st.lower (nodes row)) (first-unique st.upper st.lower (nodes row) (map suc (aboves done)) is-first) ∙ ap Ok (length-nodes row));
            cleared = after-zeros;
            written = e ∙ ap (λ b. written b out) sheet-bytes;
          }
