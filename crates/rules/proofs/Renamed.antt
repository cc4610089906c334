-- Nets under other names: what is put, cut, found and stepped with one name of each net is so with the other.
use mathlib.Core.Path.{◌≡◌, refl, sym, ap, ◌∙◌}
use mathlib.Core.Bool.{Bool, true, false}
use mathlib.Core.List.{List, [], ◌∷◌, map}
use Prim.Native.Nat.{ℕ, zero, suc, ◌-◌, ◌<◌}
use native.Mathlib.Omega.{arith}
use lib.ListN.{length, get_or}
use lib.Dec.{eqb}
use borrow.Author.Tests.{eqb-true, eqb-false, eq-eqb, ne_eqb}
use Rattle.rules.specs.Basic.{pick, put, cut}
use Rattle.rules.specs.declared.Kind.{Kind}
use Rattle.rules.specs.declared.Kind.TheVariants.{B, M, E, N}
use Rattle.rules.specs.Row.{before, node}
use Rattle.rules.specs.Street.{next}
use Rattle.rules.proofs.Pins.{at_before}

module _ {ℓ} {A C : Type ℓ} (f : A → C) where
  pub put_map : (k : ℕ) (x : A) (l : List A) → put k (f x) (map f l) ≡ map f (put k x l)
  unfolding put
  put_map zero x l = refl
  put_map (suc k) x [] = refl
  put_map (suc k) x (y ∷ l) = ap {B = List C} (λ r. f y ∷ r) (put_map k x l)

  pub cut-map : (k : ℕ) (l : List A) → cut k (map f l) ≡ map f (cut k l)
  unfolding cut
  cut-map k [] = refl
  cut-map zero (y ∷ l) = refl
  cut-map (suc k) (y ∷ l) = ap {B = List C} (λ r. f y ∷ r) (cut-map k l)

-- no other net gets the name of x
abbrev pub Only : (ℕ → ℕ) → ℕ → Type 0
Only f x = (y : ℕ) → f y ≡ f x → y ≡ x

module _ (f : ℕ → ℕ) (x : ℕ) (only : Only f x) where
  pub before-map : (l : List ℕ) → before (f x) (map f l) ≡ before x l
  unfolding before pick
  before-map [] = refl
  before-map (y ∷ l) = go (eqb y x) refl (before-map l)
    where
      go : (t : Bool) → eqb y x ≡ t → before (f x) (map f l) ≡ before x l → pick (eqb (f y) (f x)) 0 (suc (before (f x) (map f l))) ≡ pick t 0 (suc (before x l))
      go true e ih = rw (eq-eqb (f y) (f x) (ap f (eqb-true y x e)))
      go false e ih = rw (ne_eqb (f y) (f x) (λ q. eqb-false y x e (only y q)), ih)

  pub next_map : (k : Kind) (o : List ℕ) (p : ℕ) → next (node k (f x)) (map f o) p ≡ map f (next (node k x) o p)
  unfolding next
  next_map B o p = put_map f (p - 1) x o
  next_map M o p = refl
  next_map E o p = cut-map f (p - 1) o
  next_map N o p = refl

-- a label that occurs is the only one with its first node
pub home-only : (row : List ℕ) (x : ℕ) → before x row < length row → Only (λ y. before y row) x
home-only row x h y e =
    sym (at_before y row (omega arith)) ∙ ap (λ (k : ℕ). get_or row k 0) e ∙ at_before x row h
