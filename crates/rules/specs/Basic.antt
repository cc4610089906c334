-- Plain functions on tests, options, numbers and lists that the definitions of document 01 are written with.
use Rattle.std.specs.Prelude.{Bool, true, false, ◌&&◌, List, [], ◌∷◌, ℕ, zero, suc}
use Rattle.std.proofs.Math.Option.{Option, none, some}

-- the first or the second, by a test
unfoldable pub pick {ℓ} : {A : Type ℓ} → Bool → A → A → A
pick true a b = a
pick false a b = b

-- f at 0, 1, .. below n
unfoldable pub tabulate {ℓ} : {A : Type ℓ} → (ℕ → A) → ℕ → List A
tabulate f zero = []
tabulate f (suc n) = f 0 ∷ tabulate (λ i. f (suc i)) n

-- f holds at every number below n
unfoldable pub every : (ℕ → Bool) → ℕ → Bool
every f zero = true
every f (suc n) = f 0 && every (λ i. f (suc i)) n

-- the least number below n at which f holds, or n
unfoldable pub least : (ℕ → Bool) → ℕ → ℕ
least f zero = 0
least f (suc n) = pick (f 0) 0 (suc (least (λ i. f (suc i)) n))

-- x put into a list behind k others
unfoldable pub put {ℓ} : {A : Type ℓ} → ℕ → A → List A → List A
put zero x o = x ∷ o
put (suc k) x [] = x ∷ []
put (suc k) x (y ∷ o) = y ∷ put k x o

-- a list without what stands behind k others
unfoldable pub cut {ℓ} : {A : Type ℓ} → ℕ → List A → List A
cut k [] = []
cut zero (y ∷ o) = o
cut (suc k) (y ∷ o) = y ∷ cut k o

-- a, where the test passes
unfoldable pub keep {ℓ} : {A : Type ℓ} → Bool → A → Option A
keep true a = some a
keep false a = none

-- f of what is there
unfoldable pub and_then {ℓ ℓ'} : {A : Type ℓ} {C : Type ℓ'} → Option A → (A → Option C) → Option C
and_then none f = none
and_then (some a) f = f a

-- the first that is there
unfoldable pub or_else {ℓ} : {A : Type ℓ} → Option A → Option A → Option A
or_else none b = b
or_else (some a) b = some a

unfoldable pub is_none {ℓ} : {A : Type ℓ} → Option A → Bool
is_none none = true
is_none (some a) = false

-- what is there, or else a
unfoldable pub settle {ℓ} : {A : Type ℓ} → Option A → A → A
settle none a = a
settle (some b) a = b
