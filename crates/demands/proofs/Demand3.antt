-- Demand 3: a row that passes checks 1 to 5 gets the sheet of its first placing, or 6 where it has none; equal sheets are of the same pins and tracks.
use mathlib.Core.Path.{◌≡◌, refl, sym, ap, ◌∙◌}
use mathlib.Core.Bool.{Bool, true, false, not}
use mathlib.Core.List.{List, [], ◌++◌}
use mathlib.Core.Logic.{◌↔◌}
use mathlib.Core.Option.{Option, none}
use Prim.Native.Nat.{ℕ, suc, ◌*◌}
use native.Mathlib.Omega.{arith}
use lib.ListN.{length, take, drop}
use lib.Seq.{take-append_seam}
use lib.Dec.{ltb}
use Rattle.std.specs.declared.result.Result.TheVariants.{Ok, Err}
use Rattle.rules.specs.Answers.{Routing}
use Rattle.rules.specs.declared.RouteError.TheVariants.{Stuck, RowLength, Tracks, Lone, WorkShort, SheetShort}
use Rattle.rules.specs.Basic.{keep, or_else, settle}
use Rattle.rules.specs.Row.{nodes}
use Rattle.rules.specs.Street.{Placing, IsFirst, first}
use Rattle.rules.specs.Sheet.{takes, size, sheet}
use Rattle.rules.specs.Judgement.{wrong_count}
use Rattle.rules.specs.Answers.{written, first_lone, refusal, outcome, routing, first_sheet, sheet_after}
use Rattle.rules.proofs.Accepted.{length-nodes, placed-laid, length-entries}
use Rattle.rules.proofs.Choices.{first-lowest, first-choice}
use Rattle.rules.proofs.Blanks.{six-no-blank}
use Rattle.rules.proofs.Demand3.{Answered, placed, stuck, answered, first-placed}
use Rattle.router.proofs.Demand.{sheet-when-placed, six-when-stuck, first-placing-bytes, sheets-equal}
use Rattle.demands.specs.Demands.{Checked, RouterCall, sheet_of, Demand3}

-- no check gives a sheet, so a row that gets one has passed them
sheet-checked : (row : List ℕ) (ku kl : ℕ) (work out : List ℕ) (n : ℕ) → routing row ku kl work out ≡ Ok n → Checked row ku kl work out
unfolding routing refusal or_else keep settle
sheet-checked row ku kl work out n =
    go (wrong_count (length row)) (not (takes ku kl)) (ltb (first_lone row) (length row)) (ltb (length work) (90 * length row))
    (ltb (length out) (size (length row)))
  where
    late : Routing
    late = outcome ku kl (nodes row) (first ku kl (nodes row))

    checks : (a b c d e : Bool) → Option Routing
    checks a b c d e =
        or_else (keep a (Err RowLength))
        (or_else (keep b (Err Tracks)) (or_else (keep c (Err (Lone (suc (first_lone row))))) (or_else (keep d (Err WorkShort)) (keep e (Err SheetShort)))))

    go : (a b c d e : Bool) → settle (checks a b c d e) late ≡ Ok n → checks a b c d e ≡ none
    go true b c d e h = let z : ◌≡◌ {A = ℕ} 0 1 = cc in absurd (omega arith)
    go false true c d e h = let z : ◌≡◌ {A = ℕ} 0 1 = cc in absurd (omega arith)
    go false false true d e h = let z : ◌≡◌ {A = ℕ} 0 1 = cc in absurd (omega arith)
    go false false false true e h = let z : ◌≡◌ {A = ℕ} 0 1 = cc in absurd (omega arith)
    go false false false false true h = let z : ◌≡◌ {A = ℕ} 0 1 = cc in absurd (omega arith)
    go false false false false false h = refl

module _ {row : List ℕ} {ku kl : ℕ} (c : RouterCall row ku kl) where
  abbrev reason : Checked row ku kl c.work c.out → Type 0
  reason checked = Answered row ku kl c.work c.out checked

  six : Checked row ku kl c.work c.out → ((i : ℕ) × (c.answer ≡ Err (Stuck i))) ↔ ((ps : List ℕ) → Placing ku kl (nodes row) ps → ⊥)
  six checked = (to (answered row ku kl c.work c.out checked), from (answered row ku kl c.work c.out checked))
    where
      to : reason checked → (i : ℕ) × (c.answer ≡ Err (Stuck i)) → (ps : List ℕ) → Placing ku kl (nodes row) ps → ⊥
      to (placed ps f a s) x = let e = sym x.1 ∙ c.meets.answer ∙ a in let z : ◌≡◌ {A = ℕ} 0 1 = cc in absurd (omega arith)
      to (stuck i n s a) x = n

      from : reason checked → ((ps : List ℕ) → Placing ku kl (nodes row) ps → ⊥) → (i : ℕ) × (c.answer ≡ Err (Stuck i))
      from (placed ps f a s) n = absurd (n ps f.placing)
      from (stuck i n s a) _ = (i, c.meets.answer ∙ a)

  module _ (got : c.answer ≡ Ok (length row)) where
    gets : routing row ku kl c.work c.out ≡ Ok (length row)
    gets = sym c.meets.answer ∙ got

    pub passed : Checked row ku kl c.work c.out
    passed = sheet-checked row ku kl c.work c.out (length row) gets

    first-bytes : (ps : List ℕ) × IsFirst ku kl (nodes row) ps × (c.out' ≡ written (sheet ku kl (nodes row) ps) c.out)
    first-bytes = go (answered row ku kl c.work c.out passed)
      where
        go : reason passed → (ps : List ℕ) × IsFirst ku kl (nodes row) ps × (c.out' ≡ written (sheet ku kl (nodes row) ps) c.out)
        go (placed ps f a s) =
            (ps, f, first-placing-bytes row ku kl c.work c.out c.answer c.work' c.out' c.meets passed ps f)
        go (stuck i n s a) = let e = sym gets ∙ a in let z : ◌≡◌ {A = ℕ} 0 1 = cc in absurd (omega arith)

    -- the sheet as it stands at the start of its buffer
    pub sheet-stands : sheet_of c ≡ first_sheet row ku kl
    unfolding written sheet_after
    sheet-stands =
        let f = first-placed row ku kl c.work c.out passed gets in
        let ps = f.0 in
        let p = f.1 in
        let n : length (first_sheet row ku kl) ≡ size (length row) =
        ap length f.2 ∙ (placed-laid row ku kl ps p).sized
        ∙ ap size (length-entries ku kl (nodes row) [] ps [] p.placing ∙ length-nodes row) in
        let w : c.out' ≡ first_sheet row ku kl ++ drop (length (first_sheet row ku kl)) c.out =
        c.meets.written ∙ ap (λ r. sheet_after r row ku kl c.out) got in
        ap (take (size (length row))) w
        ∙ ap (λ i. take i (first_sheet row ku kl ++ drop (length (first_sheet row ku kl)) c.out)) (sym n)
        ∙ take-append_seam (first_sheet row ku kl) (drop (length (first_sheet row ku kl)) c.out)

pub demand-3 : Demand3
demand-3 =
    record {
      sheet-exactly = λ {row} {ku} {kl} c checked. sheet-when-placed row ku kl c.work c.out c.answer c.work' c.out' c.meets checked;
      six-exactly = λ c checked. six c checked;
      failing-node = λ {row} {ku} {kl} c checked i. six-when-stuck row ku kl c.work c.out c.answer c.work' c.out' c.meets checked i;
      first-bytes = λ c got. first-bytes c got;
      first-chosen = λ row ku kl ps f. (first-lowest ku kl (nodes row) ps f, first-choice ku kl (nodes row) ps f);
      six-no-blank = λ {row} {ku} {kl} c checked i e. six-no-blank row ku kl c.work c.out checked i (sym c.meets.answer ∙ e);
      equal-exactly = λ {row} {row₂} {ku} {kl} {ku₂} {kl₂} c c₂ got got₂.
          let x =
          sheets-equal row row₂ ku kl ku₂ kl₂ c.work c.out c₂.work c₂.out (passed c got) (passed c₂ got₂)
          (gets c got) (gets c₂ got₂) in
          (λ e. x.0 (sym (sheet-stands c got) ∙ e ∙ sheet-stands c₂ got₂), λ p. sheet-stands c got ∙ x.1 p ∙ sym (sheet-stands c₂ got₂));
    }
