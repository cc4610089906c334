-- Document 01's example of `listrow`, one with blanks and two refusals hold for the definitions: antt computes each text.
use mathlib.Core.Bool.{Bool, true, false, ◌&&◌}
use mathlib.Core.List.{List, [], ◌∷◌}
use Prim.Native.Nat.{ℕ}
use lib.Dec.{T, eqb}
use Rattle.std.specs.declared.result.Result.TheVariants.{Ok, Err}
use Rattle.rules.specs.declared.RouteError.TheVariants.{RowLength, Stuck}
use Rattle.rules.specs.Basic.{pick, tabulate}
use Rattle.rules.specs.Street.{counted}
use Rattle.rules.specs.Bits.{digits, val, pack}
use Rattle.rules.specs.Sheet.{kind_in, upper_of, lower_of, count_of, entry_at, entries_of}
use Rattle.rules.specs.Judgement.{left}
use Rattle.rules.specs.Answers.{route_said}
use Rattle.listing.specs.Text.{leading, decimal, closed, line, sheet_word, refused_word, at_word, letter, place_in, head_line, node_line, open_after, node_lines, refused_line, listed}

unfoldable pub same : List ℕ → List ℕ → Bool
same [] [] = true
same [] (y ∷ ys) = false
same (x ∷ xs) [] = false
same (x ∷ xs) (y ∷ ys) = eqb x y && same xs ys

-- the sheet of abcbac under 2/1, and its text
unfoldable pub example : List ℕ
example = 0x24 ∷ 0x06 ∷ 0x00 ∷ 0x10 ∷ 0x62 ∷ 0x82 ∷ 0x00 ∷ []

unfoldable pub example_text : List ℕ
example_text =
    115 ∷ 104 ∷ 101 ∷ 101 ∷ 116 ∷ 32 ∷ 54 ∷ 32 ∷ 50 ∷ 32 ∷ 49 ∷ 10
    ∷ 49 ∷ 32 ∷ 66 ∷ 32 ∷ 49 ∷ 32 ∷ 49 ∷ 10
    ∷ 50 ∷ 32 ∷ 66 ∷ 32 ∷ 50 ∷ 32 ∷ 50 ∷ 10
    ∷ 51 ∷ 32 ∷ 66 ∷ 32 ∷ 50 ∷ 32 ∷ 51 ∷ 10
    ∷ 52 ∷ 32 ∷ 69 ∷ 32 ∷ 51 ∷ 32 ∷ 51 ∷ 10
    ∷ 53 ∷ 32 ∷ 69 ∷ 32 ∷ 49 ∷ 32 ∷ 50 ∷ 10
    ∷ 54 ∷ 32 ∷ 69 ∷ 32 ∷ 49 ∷ 32 ∷ 49 ∷ 10 ∷ []

-- the sheet of ab_ab_ under 1/1, where _ is a blank, and its text
unfoldable pub blanks : List ℕ
blanks = 0x14 ∷ 0x06 ∷ 0x00 ∷ 0x0c ∷ 0x61 ∷ 0x83 ∷ 0x00 ∷ []

unfoldable pub blanks_text : List ℕ
blanks_text =
    115 ∷ 104 ∷ 101 ∷ 101 ∷ 116 ∷ 32 ∷ 54 ∷ 32 ∷ 49 ∷ 32 ∷ 49 ∷ 10
    ∷ 49 ∷ 32 ∷ 66 ∷ 32 ∷ 49 ∷ 32 ∷ 49 ∷ 10
    ∷ 50 ∷ 32 ∷ 66 ∷ 32 ∷ 49 ∷ 32 ∷ 50 ∷ 10
    ∷ 51 ∷ 32 ∷ 78 ∷ 32 ∷ 49 ∷ 32 ∷ 50 ∷ 10
    ∷ 52 ∷ 32 ∷ 69 ∷ 32 ∷ 50 ∷ 32 ∷ 50 ∷ 10
    ∷ 53 ∷ 32 ∷ 69 ∷ 32 ∷ 49 ∷ 32 ∷ 49 ∷ 10
    ∷ 54 ∷ 32 ∷ 78 ∷ 32 ∷ 48 ∷ 32 ∷ 48 ∷ 10 ∷ []

-- `refused 1 at 0` and `refused 6 at 105`
unfoldable pub row_length_text : List ℕ
row_length_text = 114 ∷ 101 ∷ 102 ∷ 117 ∷ 115 ∷ 101 ∷ 100 ∷ 32 ∷ 49 ∷ 32 ∷ 97 ∷ 116 ∷ 32 ∷ 48 ∷ 10 ∷ []

unfoldable pub stuck_text : List ℕ
stuck_text = 114 ∷ 101 ∷ 102 ∷ 117 ∷ 115 ∷ 101 ∷ 100 ∷ 32 ∷ 54 ∷ 32 ∷ 97 ∷ 116 ∷ 32 ∷ 49 ∷ 48 ∷ 53 ∷ 10 ∷ []

pub specimens-hold : T (same (listed (Ok 6) example) example_text
    && (same (listed (Ok 6) blanks) blanks_text && same (listed (Err RowLength) []) row_length_text && same (listed (Err (Stuck 105)) []) stuck_text))
unfolding same example example_text blanks blanks_text row_length_text stuck_text leading decimal closed line sheet_word refused_word at_word letter place_in head_line node_line open_after node_lines refused_line listed pick tabulate counted digits val pack kind_in upper_of lower_of count_of entry_at entries_of left route_said
specimens-hold = tt
