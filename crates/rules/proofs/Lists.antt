-- What is put into a list can be cut out again, lengths count it, and before is at most the length.
use mathlib.Core.Path.{◌≡◌, refl, ap}
use mathlib.Core.Bool.{Bool, true, false}
use mathlib.Core.List.{List, [], ◌∷◌}
use Prim.Native.Nat.{ℕ, zero, suc, ◌≤◌, ◌<◌}
use lib.ListN.{length, get_or}
use lib.Dec.{eqb}
use native.Mathlib.Omega.{arith}
use Rattle.rules.specs.Basic.{pick, put, cut}
use Rattle.rules.specs.Row.{before}

module _ {ℓ} {A : Type ℓ} where
  pub length-put : (k : ℕ) (x : A) (o : List A) → length (put k x o) ≡ suc (length o)
  unfolding put
  length-put zero x o = refl
  length-put (suc k) x [] = refl
  length-put (suc k) x (y ∷ o) = ap suc (length-put k x o)

  pub length_cut : (k : ℕ) (o : List A) → k < length o → suc (length (cut k o)) ≡ length o
  unfolding cut
  length_cut k [] h = omega arith
  length_cut zero (y ∷ o) h = refl
  length_cut (suc k) (y ∷ o) h = ap suc (length_cut k o (omega arith))

  pub cut-put : (k : ℕ) (x : A) (o : List A) → k ≤ length o → cut k (put k x o) ≡ o
  unfolding put cut
  cut-put zero x o h = refl
  cut-put (suc k) x [] h = absurd (omega arith)
  cut-put (suc k) x (y ∷ o) h = ap {B = List A} (λ r. y ∷ r) (cut-put k x o (omega arith))

pub before-le : (x : ℕ) (o : List ℕ) → before x o ≤ length o
unfolding before pick
before-le x [] = omega arith
before-le x (y ∷ o) = go (eqb y x) (before-le x o)
  where
    go : (b : Bool) → before x o ≤ length o → pick b 0 (suc (before x o)) ≤ suc (length o)
    go true h = omega arith
    go false h = omega arith

module _ {ℓ} {A : Type ℓ} where
  -- what is put in stands at its place
  pub get_or-put : (k : ℕ) (x d : A) (l : List A) → k ≤ length l → get_or (put k x l) k d ≡ x
  unfolding put
  get_or-put zero x d l w = refl
  get_or-put (suc k) x d [] w = absurd (omega arith)
  get_or-put (suc k) x d (y ∷ l) w = get_or-put k x d l (omega arith)
