-- Bits of words that are copied upward or laid over each other, and the places of a new net as a word.
use mathlib.Core.Path.{◌≡◌, refl, sym, ap, ap₂, ◌∙◌}
use mathlib.Core.Bool.{Bool, true, false, ◌&&◌, ◌||◌}
use Prim.Native.Nat.{ℕ, zero, suc, ◌+◌, ◌*◌, ◌/◌, ◌%◌, ◌^◌, ◌≤◌, ◌<◌}
use native.Mathlib.Omega.{arith}
use mathlib.Core.List.{List, []}
use lib.ListN.{get_or}
use lib.Bits.{bit_or}
use lib.Dec.{T, ltb}
use borrow.Author.Tests.{ltb-true}
use Rattle.rules.specs.Basic.{every}
use Rattle.rules.specs.Street.{fits}
use Rattle.rules.proofs.PinsTest.{every-at}
use Rattle.steps.specs.Ranks.{fact}
use Rattle.steps.specs.Sets.{bit}
use Rattle.steps.specs.Opening.{wide, Places, Under, Copies, Joined}
use Rattle.steps.proofs.Hops.{to-true}
use Rattle.steps.proofs.Words.{bit-or, bit-shr, bit-shl, bit-shl-low, bit-mod}

pub or_right : (a b : Bool) → b ≡ false → a || b ≡ a
or_right true b e = refl
or_right false b e = e

pub or_left : (a b : Bool) → a ≡ false → a || b ≡ b
or_left a b e = rw e

-- a word and the same k bits higher, in 32 bits
module _ (w k : ℕ) where
  abbrev pub doubled : ℕ
  doubled = bit_or w (w * 2 ^ k % 4294967296)

  doubled-low : (i : ℕ) → i < k → i < 24 → bit doubled i ≡ bit w i
  doubled-low i h l =
      bit-or w (w * 2 ^ k % 4294967296) i ∙
      or_right (bit w i) (bit (w * 2 ^ k % 4294967296) i) (bit-mod (w * 2 ^ k) 32 i (omega arith) ∙ bit-shl-low w k i h)

  doubled-high : (i j : ℕ) → i ≡ k + j → i < 24 → bit w i ≡ false → bit doubled i ≡ bit w j
  doubled-high i j e l f =
      bit-or w (w * 2 ^ k % 4294967296) i ∙ or_left (bit w i) (bit (w * 2 ^ k % 4294967296) i) f ∙
      bit-mod (w * 2 ^ k) 32 i (omega arith) ∙ ap (bit (w * 2 ^ k)) e ∙ bit-shl w k j

-- twice doubled, the low f bits are there four times
pub copied : (w f : ℕ) → f ≤ 6 → Under w f → Copies w f (doubled (doubled w f) (2 * f))
copied w f h u = go
  where
    once : (r : ℕ) → r < f → bit (doubled w f) r ≡ bit w r
    once r l = doubled-low w f r l (omega arith)

    twice : (r i : ℕ) → r < f → i ≡ f + r → bit (doubled w f) i ≡ bit w r
    twice r i l e = doubled-high w f i r e (omega arith) (u i (omega arith) (omega arith))

    none : (j i : ℕ) → i ≡ f + j → f ≤ j → i < 24 → bit (doubled w f) i ≡ false
    none j i e l m = doubled-high w f i j e m (u i (omega arith) m) ∙ u j l (omega arith)

    go : (q r : ℕ) → q < 4 → r < f → bit (doubled (doubled w f) (2 * f)) (q * f + r) ≡ bit w r
    go zero r m l =
        let e : 0 * f + r ≡ r = omega arith in
        ap (bit (doubled (doubled w f) (2 * f))) e ∙ doubled-low (doubled w f) (2 * f) r (omega arith) (omega arith) ∙ once r l
    go (suc zero) r m l =
        doubled-low (doubled w f) (2 * f) (1 * f + r) (omega arith) (omega arith) ∙ twice r (1 * f + r) l (omega arith)
    go (suc (suc zero)) r m l =
        doubled-high (doubled w f) (2 * f) (2 * f + r) r (omega arith) (omega arith)
        (none (f + r) (2 * f + r) (omega arith) (omega arith) (omega arith)) ∙ once r l
    go (suc (suc (suc zero))) r m l =
        doubled-high (doubled w f) (2 * f) (3 * f + r) (f + r) (omega arith) (omega arith)
        (none (2 * f + r) (3 * f + r) (omega arith) (omega arith) (omega arith)) ∙ twice r (f + r) l (omega arith)
    go (suc (suc (suc (suc q)))) r m l = absurd (omega arith)

-- a word and the same k bits lower
module _ (w k : ℕ) where
  abbrev pub halved : ℕ
  halved = bit_or w (w / 2 ^ k)

  halved-at : (i : ℕ) → bit halved i ≡ bit w i || bit w (k + i)
  halved-at i = bit-or w (w / 2 ^ k) i ∙ ap (λ (t : Bool). bit w i || t) (bit-shr w k i)

pub laid : (w f : ℕ) → Joined w f (halved (halved w f) (2 * f))
laid w f r =
    let e : f + (2 * f + r) ≡ 3 * f + r = omega arith in
    halved-at (halved w f) (2 * f) r ∙
    ap₂ ◌||◌ (halved-at w f r) (halved-at w f (2 * f + r) ∙ ap (λ (i : ℕ). bit w (2 * f + r) || bit w i) e)

-- the table of places has the bits that it must
unfoldable pub same : Bool → Bool → Bool
same true t = t
same false true = false
same false false = true

same-equal : (s t : Bool) → same s t ≡ true → s ≡ t
unfolding same
same-equal true true e = refl
same-equal true false e = sym e
same-equal false true e = e
same-equal false false e = refl

pub both : (s t : Bool) → s && t ≡ true → (s ≡ true) × (t ≡ true)
both true t e = (refl, e)
both false t e = let z : ◌≡◌ {A = ℕ} 0 1 = cc in absurd (omega arith)

-- the word of b others between streets of u and l tracks
abbrev entry : (t : List (List (List ℕ))) (b u l : ℕ) → ℕ
entry t b u l = get_or (get_or (get_or t b []) u []) l 0

unfoldable pub placed : (m u l b x : ℕ) → Bool
placed m u l b x = same (bit m x) (fits u l (suc (x / fact b)) (suc b))

unfoldable pub placed_at : (t : List (List (List ℕ))) (b u l : ℕ) → Bool
placed_at t b u l = ltb (entry t b u l) wide && every (placed (entry t b u l) u l b) 24

unfoldable pub all_placed : List (List (List ℕ)) → Bool
all_placed t = every (λ b. every (λ u. every (placed_at t b u) 4) 4) 4

pub places-right : (t : List (List (List ℕ))) (b u l : ℕ) → T (all_placed t) → b < 4 → u < 4 → l < 4 →
    Places u l b (get_or (get_or (get_or t b []) u []) l 0)
unfolding all_placed placed_at placed
places-right t b u l h hb hu hl =
    let e = every-at (placed_at t b u) 4 (every-at (λ u. every (placed_at t b u) 4) 4
    (every-at (λ b. every (λ u. every (placed_at t b u) 4) 4) 4 (to-true (all_placed t) h) b hb) u hu) l hl in
    let (s, w) = both (ltb (entry t b u l) wide) (every (placed (entry t b u l) u l b) 24) e in
    record {
      small = ltb-true (entry t b u l) wide s;
      told = λ x m. same-equal (bit (entry t b u l) x) (fits u l (suc (x / fact b)) (suc b)) (every-at (placed (entry t b u l) u l b) 24 w x m);
    }
