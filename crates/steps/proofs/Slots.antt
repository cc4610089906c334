-- The ranks that a set can hold, and the words that they are in.
use mathlib.Core.Path.{◌≡◌, refl, ◌∙◌}
use mathlib.Core.Bool.{Bool, true, false, ◌&&◌, ◌||◌}
use mathlib.Core.Logic.{◌⊎◌, inl, inr, ⊎_elim}
use Prim.Native.Nat.{ℕ, ◌-◌, ◌/◌, ◌≤◌, ◌<◌}
use native.Mathlib.Omega.{arith}
use lib.Dec.{leb, ltb}
use borrow.Author.Tests.{ltb-true, leb-true, lt-ltb, le-ltb, le-leb}
use Rattle.rules.specs.Basic.{pick}
use Rattle.steps.specs.Sets.{slots, held, slot}

-- the rank is one of five nets, or of six with the youngest in the middle
pub held-cases : (r : ℕ) → held r ≡ true → (r < 120) ⊎ ((240 ≤ r) × (r < 480))
unfolding held
held-cases r e = go (ltb r 120) (leb 240 r) (ltb r 480) refl refl refl e
  where
    go : (a b c : Bool) → ltb r 120 ≡ a → leb 240 r ≡ b → ltb r 480 ≡ c → a || (b && c) ≡ true → (r < 120) ⊎ ((240 ≤ r) × (r < 480))
    go true b c ea eb ec h = inl (ltb-true r 120 ea)
    go false true true ea eb ec h = inr (leb-true 240 r eb, ltb-true r 480 ec)
    go false true false ea eb ec h = let z : ◌≡◌ {A = ℕ} 0 1 = cc in absurd (omega arith)
    go false false c ea eb ec h = let z : ◌≡◌ {A = ℕ} 0 1 = cc in absurd (omega arith)

pub held_below : (r : ℕ) → held r ≡ true → r < 480
held_below r e = ⊎_elim (λ h. omega arith) (λ h. h.1) (held-cases r e)

module _ (r : ℕ) where
  pub held-few : r < 120 → held r ≡ true
  unfolding held
  held-few h = rw (lt-ltb r 120 h)

  pub held-upper : 240 ≤ r → held r ≡ ltb r 480
  unfolding held
  held-upper h = rw (le-ltb r 120 (omega arith), le-leb 240 r h)

  pub held-middle : 240 ≤ r → r < 480 → held r ≡ true
  held-middle l h = held-upper l ∙ lt-ltb r 480 h

  pub slot-few : r < 120 → slot r ≡ r / 24
  unfolding slot pick
  slot-few h = rw (lt-ltb r 120 h)

  pub slot-middle : 120 ≤ r → slot r ≡ r / 24 - 5
  unfolding slot pick
  slot-middle h = rw (le-ltb r 120 h)

-- the words of five nets are the first five, those of six the next ten
pub slot_cases : (r : ℕ) → held r ≡ true → ((r < 120) × (slot r ≡ r / 24)) ⊎ ((240 ≤ r) × (r < 480) × (slot r ≡ r / 24 - 5))
slot_cases r e = go (held-cases r e)
  where
    go : (r < 120) ⊎ ((240 ≤ r) × (r < 480)) → ((r < 120) × (slot r ≡ r / 24)) ⊎ ((240 ≤ r) × (r < 480) × (slot r ≡ r / 24 - 5))
    go (inl h) = inl (h, slot-few r h)
    go (inr (l, h)) = inr (l, h, slot-middle r (omega arith))

pub slot-below : (r : ℕ) → held r ≡ true → slot r < slots
slot-below r e = go (slot_cases r e)
  where
    go : ((r < 120) × (slot r ≡ r / 24)) ⊎ ((240 ≤ r) × (r < 480) × (slot r ≡ r / 24 - 5)) → slot r < slots
    go (inl h) = omega arith
    go (inr h) = omega arith
