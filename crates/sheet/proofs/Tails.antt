-- The end of a sheet: the bits after the last node.
use mathlib.Core.Path.{◌≡◌, ap, ◌∙◌}
use mathlib.Core.List.{List}
use Prim.Native.Nat.{ℕ, ◌+◌, ◌*◌, ◌-◌}
use native.Mathlib.Omega.{arith}
use lib.ListN.{length, drop, length-drop}
use lib.Seq.{take_all}
use Rattle.rules.specs.Bits.{bits, val}
use Rattle.rules.specs.Sheet.{size, count_of, padding_of}
use Rattle.rules.proofs.Fields.{length-pack}
use Rattle.bits.specs.Access.{Inside, Got}
use Rattle.sheet.proofs.Heads.{Headed}

module _ (s : List ℕ) where
  -- the bits after the last node are at most six
  pub padding_inside : Headed s → (n : ℕ) → n ≡ count_of s → Inside s (16 + 6 * n) (8 * length s - (16 + 6 * n))
  unfolding size
  padding_inside h n e = omega (arith, h.whole)

  pub got_padding : (n r : ℕ) → n ≡ count_of s → Got s (16 + 6 * n) (8 * length s - (16 + 6 * n)) r → r ≡ padding_of s
  unfolding padding_of
  got_padding n r e g =
      g.is
      ∙ ap val (take_all (8 * length s - (16 + 6 * n)) (drop (16 + 6 * n) (bits s)) (omega (arith, length-drop (16 + 6 * n) (bits s), length-pack 8 s)))
      ∙ ap (λ (k : ℕ). val (drop (16 + 6 * k) (bits s))) e
