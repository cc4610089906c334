-- Demand 2 of the letter, first half, on the answers of reader and agreement test: exactly the sheets of placings with at most 255 nets are
-- taken, and their pins come back.
use mathlib.Core.Path.{◌≡◌, refl, ap}
use mathlib.Core.Bool.{Bool, true, false, ◌&&◌}
use mathlib.Core.List.{List}
use mathlib.Core.Logic.{◌↔◌}
use mathlib.Core.Option.{Option, none, some, map}
use Prim.Native.Nat.{ℕ, ◌≤◌}
use native.Mathlib.Omega.{arith}
use lib.ListN.{length}
use lib.Dec.{ltb}
use borrow.Author.Tests.{ltb-false, le-ltb}
use Rattle.std.specs.declared.result.Result.TheVariants.{Ok, Err}
use Rattle.rules.specs.declared.Fault.{Fault}
use Rattle.rules.specs.Answers.{Reading, unread}
use Rattle.rules.specs.declared.ReadError.TheVariants.{RowShort}
use Rattle.rules.specs.Basic.{keep, or_else, settle, is_none}
use Rattle.rules.specs.Row.{nodes, SamePins}
use Rattle.rules.specs.Bits.{Below}
use Rattle.rules.specs.Sheet.{sheet, count_of, nets_of, row_of, Placed, SheetOf}
use Rattle.rules.specs.Judgement.{head, room, middle, tail, judge, crowded, readable}
use Rattle.rules.specs.Answers.{routing, first_sheet, reading, same_pins, agrees}
use Rattle.rules.proofs.PinsTest.{pins-test}
use Rattle.rules.proofs.Accepted.{keep-none, none-keep, or_else-none, none-or_else, readable-exactly, accepted, sheet-accepted, given-pins}
use Rattle.rules.proofs.Labels.{placed-few}
use Rattle.rules.proofs.Demand3.{Checked, first-placed}

-- a chain of refusals that ends in acceptance has refused nowhere
none-unfit : (h : Option Fault) → map unread h ≡ none → h ≡ none
none-unfit none e = refl
none-unfit (some f) e = let z : ◌≡◌ {A = ℕ} 0 1 = cc in absurd (omega arith)

not-refused : (x : Option Reading) (n : ℕ) → ((m : ℕ) → x ≡ some (Ok m) → ⊥) → settle x (Ok n) ≡ Ok n → x ≡ none
unfolding settle
not-refused none n h e = refl
not-refused (some r) n h e = absurd (h n (ap some e))

unfit-row : (h : Option Fault) (m : ℕ) → map unread h ≡ some (Ok m) → ⊥
unfit-row none m e = let z : ◌≡◌ {A = ℕ} 0 1 = cc in omega arith
unfit-row (some f) m e = let z : ◌≡◌ {A = ℕ} 0 1 = cc in omega arith

module _ (s row : List ℕ) where
  refusals : Option Reading
  refusals = or_else (map unread (head s)) (or_else (keep (room s row) (Err RowShort)) (map unread (or_else (middle s) (or_else (tail s) (crowded s)))))

  never-row : (m : ℕ) → refusals ≡ some (Ok m) → ⊥
  unfolding refusals or_else keep
  never-row m e = go (head s) (room s row) (or_else (middle s) (or_else (tail s) (crowded s))) e
    where
      go : (h : Option Fault) (t : Bool) (b : Option Fault) → or_else (map unread h) (or_else (keep t (Err RowShort)) (map unread b)) ≡ some (Ok m) → ⊥
      go (some f) t b e = let z : ◌≡◌ {A = ℕ} 0 1 = cc in omega arith
      go none true b e = let z : ◌≡◌ {A = ℕ} 0 1 = cc in omega arith
      go none false b e = unfit-row b m e

  -- the reader takes a sheet exactly when its rules pass and there is space for the row
  pub read-passes : reading s row ≡ Ok (count_of s) ↔ ((readable s ≡ none) × (count_of s ≤ length row))
  unfolding reading readable judge room refusals settle
  read-passes = (to, from)
    where
      to : reading s row ≡ Ok (count_of s) → (readable s ≡ none) × (count_of s ≤ length row)
      to e =
          let n = not-refused refusals (count_of s) never-row e in
          let a = or_else-none (map unread (head s)) _ n in
          let b = or_else-none (keep (ltb (length row) (count_of s)) (Err RowShort)) _ a.1 in
          let c = or_else-none (middle s) _ (none-unfit (or_else (middle s) (or_else (tail s) (crowded s))) b.1) in
          let d = or_else-none (tail s) (crowded s) c.1 in (
            none-or_else (none-or_else (none-unfit (head s) a.0) (none-or_else c.0 d.0)) d.1,
            ltb-false (length row) (count_of s) (keep-none _ (Err RowShort) b.0),
          )

      from : (readable s ≡ none) × (count_of s ≤ length row) → reading s row ≡ Ok (count_of s)
      from p =
          let j = or_else-none (or_else (head s) (or_else (middle s) (tail s))) (crowded s) p.0 in
          let a = or_else-none (head s) (or_else (middle s) (tail s)) j.0 in
          let m = or_else-none (middle s) (tail s) a.1 in
          let n : refusals ≡ none =
          none-or_else (ap (map unread) a.0)
          (none-or_else (none-keep (Err RowShort) (le-ltb (length row) (count_of s) p.1)) (ap (map unread) (none-or_else m.0 (none-or_else m.1 j.1)))) in
          ap (λ x. settle x (Ok (count_of s))) n

  -- demand 2: a sheet, with space lent for its row, is accepted exactly when it is the sheet of some row's placing and has at most 255 nets
  pub read-exactly : Below 256 s → count_of s ≤ length row → reading s row ≡ Ok (count_of s) ↔ (SheetOf s × (nets_of s ≤ 255))
  read-exactly b h =
      (λ e. (accepted s b).0 (read-passes.0 e).0, λ x. read-passes.1 ((accepted s b).1 x, h))

-- the agreement test says yes exactly when the reader's rules pass and the sheet has the row's pins
pub agrees-exactly : (row s : List ℕ) → agrees row s ≡ true ↔ ((readable s ≡ none) × SamePins row (row_of s))
unfolding agrees is_none
agrees-exactly row s = (to (readable s) refl, from)
  where
    to : (j : Option Fault) → readable s ≡ j → is_none j && same_pins row (row_of s) ≡ true → (readable s ≡ none) × SamePins row (row_of s)
    to none e h = (e, (pins-test row (row_of s)).0 h)
    to (some f) e h = let z : ◌≡◌ {A = ℕ} 0 1 = cc in absurd (omega arith)

    from : (readable s ≡ none) × SamePins row (row_of s) → is_none (readable s) && same_pins row (row_of s) ≡ true
    from p = rw p.0 ((pins-test row (row_of s)).1 p.1)

-- reading undoes making a sheet: a placed row's sheet passes, gives back the row's pins, and agrees with the row
module _ (row : List ℕ) (ku kl : ℕ) (ps : List ℕ) (b : Below 256 row) (p : Placed row ku kl ps) where
  own : SheetOf (sheet ku kl (nodes row) ps)
  own = record { row = row; ku = ku; kl = kl; ps = ps; placed = p; is = refl }

  pub own-passes : readable (sheet ku kl (nodes row) ps) ≡ none
  own-passes =
      (readable-exactly (sheet ku kl (nodes row) ps)).1 (sheet-accepted (sheet ku kl (nodes row) ps) own, placed-few row ku kl ps b p)

  pub own-pins : SamePins row (row_of (sheet ku kl (nodes row) ps))
  unfolding own
  own-pins = given-pins (sheet ku kl (nodes row) ps) own (placed-few row ku kl ps b p)

  pub own-agrees : agrees row (sheet ku kl (nodes row) ps) ≡ true
  own-agrees = (agrees-exactly row (sheet ku kl (nodes row) ps)).1 (own-passes, own-pins)

-- the same of the sheet that the router gives
module _ (row : List ℕ) (ku kl : ℕ) (work out : List ℕ) (b : Below 256 row) (checked : Checked row ku kl work out)
    (got : routing row ku kl work out ≡ Ok (length row)) where
  pub routed-pins : (readable (first_sheet row ku kl) ≡ none) × SamePins row (row_of (first_sheet row ku kl))
  routed-pins =
      let f = first-placed row ku kl work out checked got in
      rw f.2 (own-passes row ku kl f.0 b f.1, own-pins row ku kl f.0 b f.1)

  pub routed-agrees : agrees row (first_sheet row ku kl) ≡ true
  routed-agrees = (agrees-exactly row (first_sheet row ku kl)).1 routed-pins
