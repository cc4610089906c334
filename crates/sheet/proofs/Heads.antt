-- What holds of a sheet whose head has no fault.
use mathlib.Core.Path.{◌≡◌, refl}
use mathlib.Core.Bool.{Bool, true, false, not, ◌&&◌, ◌||◌}
use mathlib.Core.List.{List}
use mathlib.Core.Option.{none, some}
use Prim.Native.Nat.{ℕ, ◌≤◌}
use native.Mathlib.Omega.{arith}
use lib.ListN.{length}
use lib.Dec.{leb, ltb, eqb}
use borrow.Author.Tests.{ltb-false, leb-true, eqb-true, le-leb}
use Rattle.rules.specs.declared.Fault.TheVariants.{Head, Tracks, Length}
use Rattle.rules.specs.Basic.{keep, or_else}
use Rattle.rules.specs.Sheet.{takes, size, upper_of, lower_of, count_of}
use Rattle.rules.specs.Judgement.{wrong_count, head}
use Rattle.rules.proofs.SheetFields.{lower_of-lt}
use Rattle.sheet.specs.Fields.{Packed}

-- 11 to 13 found nothing
pub record Headed (s : List ℕ) : Type 0 where
  pub long : 2 ≤ length s
  pub low : 2 ≤ count_of s
  pub high : count_of s ≤ 512
  pub upper : upper_of s ≤ 3
  pub lower : lower_of s ≤ 3
  pub whole : length s ≡ size (count_of s)

pub lower_few : (s : List ℕ) → lower_of s ≤ 3
lower_few s = omega (arith, lower_of-lt s)

module _ (s : List ℕ) where
  pub headed : head s ≡ none → Headed s
  unfolding head wrong_count takes keep or_else
  headed e = go (ltb (length s) 2) (ltb (count_of s) 2) (ltb 512 (count_of s)) (leb (upper_of s) 3) (eqb (length s) (size (count_of s))) refl refl refl refl refl e
    where
      go : (a b c d f : Bool) → ltb (length s) 2 ≡ a → ltb (count_of s) 2 ≡ b → ltb 512 (count_of s) ≡ c → leb (upper_of s) 3 ≡ d → eqb (length s) (size (count_of s)) ≡ f
          → or_else (keep (a || (b || c)) Head) (or_else (keep (not (d && leb (lower_of s) 3)) Tracks) (keep (not f) Length)) ≡ none → Headed s
      go true b c d f ea eb ec ed ef e = let z : ◌≡◌ {A = ℕ} 0 1 = cc in absurd (omega arith)
      go false true c d f ea eb ec ed ef e = let z : ◌≡◌ {A = ℕ} 0 1 = cc in absurd (omega arith)
      go false false true d f ea eb ec ed ef e = let z : ◌≡◌ {A = ℕ} 0 1 = cc in absurd (omega arith)
      go false false false false f ea eb ec ed ef e = let z : ◌≡◌ {A = ℕ} 0 1 = cc in absurd (omega arith)
      go false false false true true ea eb ec ed ef e =
          record {
            long = ltb-false (length s) 2 ea;
            low = ltb-false (count_of s) 2 eb;
            high = ltb-false 512 (count_of s) ec;
            upper = leb-true (upper_of s) 3 ed;
            lower = lower_few s;
            whole = eqb-true (length s) (size (count_of s)) ef;
          }
      go false false false true false ea eb ec ed ef e = let z : some Length ≡ none = rw (le-leb (lower_of s) 3 (lower_few s)) at e in let z' : ◌≡◌ {A = ℕ} 0 1 = cc in absurd (omega arith)

  -- the nodes of such a sheet can be unpacked to 512 bytes
  pub packed : Headed s → {n : ℕ} → n ≡ count_of s → (fields : List ℕ) → 512 ≤ length fields → Packed s n fields
  unfolding size
  packed h e fields l = record { count = e; within = omega (arith, h.whole); room = omega (arith, h.high) }
