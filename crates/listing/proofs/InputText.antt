-- The text of an input is that of its row under its track counts, and its first 515 bytes decide it.
use mathlib.Core.Path.{◌≡◌, refl, ap}
use mathlib.Core.Bool.{Bool, true, false}
use mathlib.Core.List.{List, [], ◌∷◌}
use Prim.Native.Nat.{ℕ, ◌-◌, ◌≤◌, ◌<◌}
use native.Mathlib.Omega.{arith}
use lib.ListN.{length, get_or, take, drop}
use lib.Seq.{take_all, length-take-le}
use lib.Dec.{ltb}
use borrow.Author.Tests.{lt-ltb, le-ltb, ltb-true, ltb-false}
use Rattle.std.specs.declared.result.Result.TheVariants.{Err}
use Rattle.rules.specs.declared.RouteError.TheVariants.{RowLength}
use Rattle.rules.specs.Basic.{keep, or_else, settle}
use Rattle.rules.specs.Judgement.{wrong_count}
use Rattle.rules.specs.Answers.{refusal, routing}
use Rattle.listing.specs.Text.{listed, upper_in, lower_in, row_in, answer, row_text, input_text}

pub short-input : (input : List ℕ) → length input < 2 → row_text [] 0 0 ≡ input_text input
unfolding input_text upper_in lower_in row_in
short-input [] h = refl
short-input (ku ∷ []) h = refl
short-input (ku ∷ kl ∷ row) h = absurd (omega arith)

pub long-input : (input : List ℕ) → 2 ≤ length input
    → row_text (take (length input - 2) (drop 2 input)) (get_or input 0 0) (get_or input 1 0) ≡ input_text input
unfolding input_text upper_in lower_in row_in
long-input [] h = absurd (omega arith)
long-input (ku ∷ []) h = absurd (omega arith)
long-input (ku ∷ kl ∷ row) h = ap (λ (l : List ℕ). row_text l ku kl) (take_all (length (ku ∷ kl ∷ row) - 2) row (omega arith))

-- over 512 nodes are refused, whichever they are
many : (row : List ℕ) (ku kl : ℕ) → 512 < length row → answer row ku kl ≡ Err RowLength
unfolding answer routing refusal wrong_count settle or_else keep
many row ku kl h = rw (le-ltb (length row) 2 (omega arith), lt-ltb 512 (length row) h)

same-many : (row row' : List ℕ) (ku kl : ℕ) → 512 < length row → 512 < length row' → row_text row ku kl ≡ row_text row' ku kl
unfolding row_text listed
same-many row row' ku kl h h' = rw (many row ku kl h, many row' ku kl h')

first-nodes : (row : List ℕ) (ku kl : ℕ) → row_text (take 513 row) ku kl ≡ row_text row ku kl
first-nodes row ku kl = go (ltb 512 (length row)) refl
  where
    go : (t : Bool) → ltb 512 (length row) ≡ t → row_text (take 513 row) ku kl ≡ row_text row ku kl
    go true e = let h : 512 < length row = omega (arith, ltb-true 512 (length row) e) in
        same-many (take 513 row) row ku kl (omega (arith, length-take-le 513 row (omega arith))) h
    go false e = ap (λ (l : List ℕ). row_text l ku kl) (take_all 513 row (omega (arith, ltb-false 512 (length row) e)))

-- a program that reads 515 bytes answers as on the whole input
pub first-bytes-suffice : (input : List ℕ) → input_text (take 515 input) ≡ input_text input
unfolding input_text upper_in lower_in row_in
first-bytes-suffice [] = refl
first-bytes-suffice (ku ∷ []) = refl
first-bytes-suffice (ku ∷ kl ∷ row) = first-nodes row ku kl
