-- Bytes behind a sheet change none of its fields, nor its text.
use mathlib.Core.Path.{◌≡◌, ap, ap₂, ◌∙◌}
use mathlib.Core.List.{List, ◌++◌}
use Prim.Native.Nat.{ℕ, ◌+◌, ◌*◌, ◌≤◌, ◌<◌}
use native.Mathlib.Omega.{arith}
use lib.ListN.{length, take, drop, length-drop}
use lib.Seq.{take-append-le, drop-append-le}
use Rattle.std.specs.declared.result.Result.TheVariants.{Ok}
use Rattle.rules.specs.Basic.{tabulate}
use Rattle.rules.specs.Bits.{val, bits, field}
use Rattle.rules.specs.Sheet.{Entry, entry, size, upper_of, lower_of, count_of, entry_at, entries_of}
use Rattle.rules.proofs.Fields.{length-pack, pack-append}
use Rattle.rules.proofs.Pins.{tabulate-cong}
use Rattle.listing.specs.Text.{head_line, node_lines, listed}

module _ (s t : List ℕ) where
  front-field : (i w : ℕ) → i + w ≤ 8 * length s → field (s ++ t) i w ≡ field s i w
  front-field i w h =
      let n : length (bits s) ≡ 8 * length s = length-pack 8 s in
      ap (λ (l : List ℕ). val (take w (drop i l))) (pack-append 8 s t)
      ∙ ap (λ (l : List ℕ). val (take w l)) (drop-append-le i (bits s) (bits t) (omega arith))
      ∙ ap val (take-append-le w (drop i (bits s)) (bits t) (omega (arith, length-drop i (bits s))))

  pub front-count : 2 ≤ length s → count_of (s ++ t) ≡ count_of s
  unfolding count_of
  front-count h = front-field 6 10 (omega arith)

  module _ (h : size (count_of s) ≤ length s) where
    long : 16 + 6 * count_of s ≤ 8 * length s
    unfolding size
    long = omega (arith, h)

    front-entry : (i : ℕ) → i < count_of s → entry_at (s ++ t) i ≡ entry_at s i
    unfolding entry_at
    front-entry i g =
        ap₂ entry (front-field (16 + 6 * i) 2 (omega (arith, long))) (front-field (18 + 6 * i) 4 (omega (arith, long)))

    front-entries : entries_of (s ++ t) ≡ entries_of s
    unfolding entries_of
    front-entries =
        ap (tabulate (entry_at (s ++ t))) (front-count (omega (arith, long)))
        ∙ tabulate-cong (entry_at (s ++ t)) (entry_at s) (count_of s) front-entry

    pub front-listed : (n : ℕ) → listed (Ok n) (s ++ t) ≡ listed (Ok n) s
    unfolding listed upper_of lower_of
    front-listed n =
        ap₂ (λ (ku kl : ℕ). head_line n ku kl ++ node_lines 1 0 (entries_of (s ++ t))) (front-field 0 4 (omega (arith, long))) (front-field 4 2 (omega (arith, long)))
        ∙ ap (λ (es : List Entry). head_line n (field s 0 4) (field s 4 2) ++ node_lines 1 0 es) front-entries
