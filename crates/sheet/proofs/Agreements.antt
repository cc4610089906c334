-- The agreement test from what the reader says of the sheet with room for 512 nodes.
use mathlib.Core.Path.{◌≡◌, refl, sym, ap, ◌∙◌}
use mathlib.Core.Bool.{Bool, true, false}
use mathlib.Core.List.{List}
use mathlib.Core.Option.{Option, none, some}
use Prim.Native.Nat.{ℕ, ◌≤◌, ◌<◌}
use native.Mathlib.Omega.{arith}
use lib.ListN.{length, take, drop, length-take}
use lib.Seq.{take_at}
use lib.Dec.{ltb}
use borrow.Author.Tests.{ltb-true}
use Rattle.std.specs.declared.result.Result.TheVariants.{Ok, Err}
use Rattle.rules.specs.declared.ReadError.{ReadError}
use Rattle.rules.specs.declared.ReadError.TheVariants.{RowShort, Unfit}
use Rattle.rules.specs.declared.Fault.{Fault}
use Rattle.rules.specs.Answers.{Reading}
use Rattle.rules.specs.Basic.{keep, or_else, settle, is_none}
use Rattle.rules.specs.Sheet.{count_of, row_of}
use Rattle.rules.specs.Judgement.{head, room, readable}
use Rattle.rules.specs.Answers.{reading, row_after, written, same_pins, agrees}
use Rattle.sheet.specs.GivenBack.{GivenBack}
use Rattle.sheet.proofs.Heads.{headed}
use Rattle.sheet.proofs.Tells.{after_none, after-fault}
use Rattle.sheet.proofs.Readings.{rest, readable-parts}
use Rattle.sheet.proofs.Walks.{length-row}

pub agrees-when : (row s : List ℕ) → readable s ≡ none → agrees row s ≡ same_pins row (row_of s)
unfolding agrees is_none
agrees-when row s e = rw e

pub agrees-not : (row s : List ℕ) → (readable s ≡ none → ⊥) → agrees row s ≡ false
unfolding agrees is_none
agrees-not row s n = go (readable s) refl
  where
    go : (o : Option Fault) → readable s ≡ o → agrees row s ≡ false
    go none e = absurd (n e)
    go (some f) e = rw e

clash : {o : Option Fault} {f : Fault} → o ≡ some f → o ≡ none → ⊥
clash p q = let z : ◌≡◌ {A = ℕ} 0 1 = cc in omega arith

-- what the reader's answer says of a sheet
abbrev Means : (s row : List ℕ) → Reading → Type 0
Means s row (Ok n) = (readable s ≡ none) × (n ≡ count_of s)
Means s row (Err RowShort) = (head s ≡ none) × (length row < count_of s)
Means s row (Err (Unfit e)) = readable s ≡ none → ⊥

-- an accepted sheet, whose row is the first n bytes that were written
pub record Own (s after : List ℕ) (n : ℕ) : Type 0 where
  pub passes : readable s ≡ none
  pub row : take n after ≡ row_of s
  pub count : n ≡ length (take n after)
  pub within : n ≤ length after

module _ (s row : List ℕ) where
  means : Means s row (reading s row)
  unfolding reading settle or_else keep room
  means = go (head s) (ltb (length row) (count_of s)) (rest s) refl refl refl
    where
      go : (h : Option Fault) (r : Bool) (b : Option Fault) → head s ≡ h → ltb (length row) (count_of s) ≡ r → rest s ≡ b
          → Means s row (reading s row)
      go none true b eh er eb = rw (eh, er) (eh, ltb-true (length row) (count_of s) er)
      go none false none eh er eb = rw (eh, er, eb) (readable-parts s ∙ after_none (rest s) eh ∙ eb, refl)
      go none false (some f) eh er eb = rw (eh, er, eb) (clash (readable-parts s ∙ after_none (rest s) eh ∙ eb))
      go (some f) r b eh er eb = rw eh (clash (readable-parts s ∙ after-fault (rest s) eh))

  -- where there is room for every row, a sheet that is not read has a fault
  pub refused-means : (r : Reading) {after : List ℕ} → GivenBack s row r after → {x : ReadError} → r ≡ Err x → 512 ≤ length row → readable s ≡ none → ⊥
  refused-means r g {x = RowShort} e l =
      let e' : Err RowShort ≡ reading s row = sym e ∙ g.answer in
      let m : (head s ≡ none) × (length row < count_of s) = rw (← e') at means in
      omega (arith, (headed s m.0).high)
  refused-means r g {x = Unfit f} e l =
      let e' : Err (Unfit f) ≡ reading s row = sym e ∙ g.answer in
      rw (← e') at means

  pub row-means : (r : Reading) (after : List ℕ) → GivenBack s row r after → (n : ℕ) → r ≡ Ok n → Own s after n
  unfolding row_after written
  row-means r after g n e =
      let e' : Ok n ≡ reading s row = sym e ∙ g.answer in
      let m : (readable s ≡ none) × (n ≡ count_of s) = rw (← e') at means in
      let w : after ≡ written (row_of s) row = g.bytes ∙ ap (λ r. row_after r s row) e in
      let t : take n after ≡ row_of s = ap (take n) w ∙ take_at (row_of s) (drop (length (row_of s)) row) n (length-row s ∙ sym m.1) in
      let c : length (take n after) ≡ n = ap length t ∙ length-row s ∙ sym m.1 in
      record { passes = m.0; row = t; count = sym c; within = omega (arith, length-take n after) }
