-- A buffer that is filled from its start, one element at a time.
use mathlib.Core.Path.{◌≡◌, sym, ap, ap₂, ◌∙◌}
use mathlib.Core.List.{List, ◌++◌}
use Prim.Native.Nat.{ℕ, suc, ◌+◌, ◌≤◌, ◌<◌}
use native.Mathlib.Numerals.{add-one}
use native.Mathlib.Omega.{arith}
use lib.ListN.{length, get_or, take, drop, set, length-append, length-drop}
use lib.Seq.{take-suc, drop-cons, append_snoc, set_at, length-take-le, take-length}
use Rattle.rules.specs.Answers.{written}
use Rattle.sheet.specs.Fields.{filled}

module _ (t d : List ℕ) (i : ℕ) where
  pub fill-length : i ≤ length t → i ≤ length d → length (filled t d i) ≡ length d
  fill-length h k = omega (arith, length-append (take i t) (drop i d), length-take-le i t h, length-drop i d)

  pub fill_step : (x : ℕ) → i < length t → i < length d → x ≡ get_or t i 0 → set (filled t d i) i x ≡ filled t d (i + 1)
  fill_step x h k e =
      ap₂ (λ (r : List ℕ) (v : ℕ). set (take i t ++ r) i v) (drop-cons d i 0 k) e
      ∙ set_at (take i t) (get_or d i 0) (drop (suc i) d) (get_or t i 0) i (length-take-le i t (omega arith))
      ∙ sym (append_snoc (take i t) (get_or t i 0) (drop (suc i) d))
      ∙ ap (λ (l : List ℕ). l ++ drop (suc i) d) (sym (take-suc t i 0 h))
      ∙ ap (filled t d) (sym (add-one i))

  pub fill_end : i ≡ length t → filled t d i ≡ written t d
  unfolding written
  fill_end e = rw (e, take-length t)
