-- The reader's answer, test by test, with the row's bytes.
use mathlib.Core.Path.{◌≡◌, refl, ◌∙◌}
use mathlib.Core.List.{List}
use mathlib.Core.Option.{Option, none, some}
use Prim.Native.Nat.{ℕ, ◌≤◌, ◌<◌}
use lib.ListN.{length}
use borrow.Author.Tests.{lt-ltb, le-ltb}
use Rattle.std.specs.declared.result.Result.TheVariants.{Ok, Err}
use Rattle.rules.specs.declared.ReadError.TheVariants.{Unfit}
use Rattle.rules.specs.declared.Fault.{Fault}
use Rattle.rules.specs.declared.Fault.TheVariants.{Nets}
use Rattle.rules.specs.Basic.{keep, or_else, settle}
use Rattle.rules.specs.Sheet.{count_of, nets_of, row_of}
use Rattle.rules.specs.Judgement.{head, room, middle, tail, judge, crowded, readable}
use Rattle.rules.specs.Answers.{reading, row_after, written}
use Rattle.sheet.specs.GivenBack.{GivenBack}
use Rattle.rules.proofs.Accepted.{or_else-none, few-crowded}
use Rattle.sheet.proofs.Tells.{after_none}

-- what is asked behind 14
abbrev pub rest : List ℕ → Option Fault
rest s = or_else (middle s) (or_else (tail s) (crowded s))

-- the reader's rules other than 14, with the head's by themselves
pub readable-parts : (s : List ℕ) → readable s ≡ or_else (head s) (rest s)
unfolding readable judge or_else
readable-parts s = go (head s) (middle s) (tail s)
  where
    go : (h m t : Option Fault) → or_else (or_else h (or_else m t)) (crowded s) ≡ or_else h (or_else m (or_else t (crowded s)))
    go none none none = refl
    go none none (some f) = refl
    go none (some f) t = refl
    go (some f) m t = refl

module _ (s : List ℕ) where
  pub headless : judge s ≡ none → head s ≡ none
  unfolding judge
  headless e = (or_else-none (head s) (or_else (middle s) (tail s)) e).0

  -- without another fault 23 is asked
  rest-nets : judge s ≡ none → rest s ≡ crowded s
  unfolding judge
  rest-nets e =
      let b = or_else-none (middle s) (tail s) (or_else-none (head s) (or_else (middle s) (tail s)) e).1 in
      after_none (or_else (tail s) (crowded s)) b.0 ∙ after_none (crowded s) b.1

  pub nets-last : judge s ≡ none → 255 < nets_of s → rest s ≡ some Nets
  unfolding crowded keep
  nets-last e h = rest-nets e ∙ rw (lt-ltb 255 (nets_of s) h)

  pub none_last : judge s ≡ none → nets_of s ≤ 255 → rest s ≡ none
  none_last e h = rest-nets e ∙ few-crowded s h

module _ (s row : List ℕ) where
  module _ (h : head s ≡ none) where
    pub read-unfit : count_of s ≤ length row → {e : Fault} → rest s ≡ some e → GivenBack s row (Err (Unfit e)) row
    unfolding reading row_after settle or_else room keep
    read-unfit l b = record { answer = rw (h, le-ltb (length row) (count_of s) l, b); bytes = refl }

    pub read-fine : count_of s ≤ length row → rest s ≡ none → {n : ℕ} → n ≡ count_of s → {after : List ℕ}
        → after ≡ written (row_of s) row → GivenBack s row (Ok n) after
    unfolding reading row_after settle or_else room keep
    read-fine l b {n} e w = record { answer = rw (h, le-ltb (length row) (count_of s) l, b, e); bytes = w }

pub judged : (s : List ℕ) → head s ≡ none → or_else (middle s) (tail s) ≡ none → judge s ≡ none
unfolding judge
judged s h b = after_none (or_else (middle s) (tail s)) h ∙ b
