-- The tables of orders of four nets are right where a computed test over the entries of each passes, as it does for those of the code (`right`).
use mathlib.Core.Path.{◌≡◌}
use mathlib.Core.Bool.{Bool, ◌&&◌}
use mathlib.Core.List.{List}
use Prim.Native.Nat.{ℕ, suc, ◌<◌}
use lib.Dec.{T, eqb}
use borrow.Author.Tests.{eqb-true}
use Rattle.rules.specs.Basic.{pick, every}
use Rattle.rules.specs.Limits.{limits, met, fits}
use Rattle.rules.proofs.PinsTest.{every-at}
use Rattle.steps.specs.Ranks.{fact, under, spared, at_of, less_of}
use Rattle.steps.specs.Sets.{bit}
use Rattle.steps.specs.declared.tables.TheConstants.{LEFT, BACK, STANDING, LEGAL, SPOTS}
use Rattle.steps.specs.Four.{place_of, left_of, image, gather, piece_left, entry₂, entry₃, pair₂, TableWords}
use Rattle.steps.proofs.Hops.{to-true, both}

-- entries that are those of a function
unfoldable pub equal₂ : (f : (i j : ℕ) → ℕ) (t : List (List ℕ)) (i j : ℕ) → Bool
equal₂ f t i j = eqb (entry₂ t i j) (f i j)

unfoldable pub table₂ : (f : (i j : ℕ) → ℕ) (m n : ℕ) → List (List ℕ) → Bool
table₂ f m n t = every (λ i. every (equal₂ f t i) n) m

unfoldable pub equal₃ : (f : (i j k : ℕ) → ℕ) (t : List (List (List ℕ))) (i j k : ℕ) → Bool
equal₃ f t i j k = eqb (entry₃ t i j k) (f i j k)

unfoldable pub table₃ : (f : (i j k : ℕ) → ℕ) (m n o : ℕ) → List (List (List ℕ)) → Bool
table₃ f m n o t = every (λ i. every (λ j. every (equal₃ f t i j) o) n) m

pub table-at₂ : (f : (i j : ℕ) → ℕ) (m n : ℕ) (t : List (List ℕ)) → T (table₂ f m n t) → (i j : ℕ) → i < m → j < n → entry₂ t i j ≡ f i j
unfolding table₂ equal₂
table-at₂ f m n t h i j hi hj =
    eqb-true (entry₂ t i j) (f i j) (every-at (equal₂ f t i) n (every-at (λ i. every (equal₂ f t i) n) m (to-true (table₂ f m n t) h) i hi) j hj)

pub table-at₃ : (f : (i j k : ℕ) → ℕ) (m n o : ℕ) (t : List (List (List ℕ))) → T (table₃ f m n o t) → (i j k : ℕ) → i < m → j < n → k < o →
    entry₃ t i j k ≡ f i j k
unfolding table₃ equal₃
table-at₃ f m n o t h i j k hi hj hk =
    eqb-true (entry₃ t i j k) (f i j k)
    (every-at (equal₃ f t i j) o (every-at (λ j. every (equal₃ f t i j) o) n
    (every-at (λ i. every (λ j. every (equal₃ f t i j) o) n) m (to-true (table₃ f m n o t) h) i hi) j hj) k hk)

-- the pairs of places and ranks that are left
unfoldable pub spot_at : (t : List (List (ℕ × ℕ))) (e r : ℕ) → Bool
spot_at t e r = eqb (pair₂ t e r).0 (place_of e r) && eqb (pair₂ t e r).1 (left_of e r)

unfoldable pub spots : List (List (ℕ × ℕ)) → Bool
spots t = every (λ e. every (spot_at t e) 24) 4

pub spots-right : (t : List (List (ℕ × ℕ))) → T (spots t) → (e r : ℕ) → e < 4 → r < 24 → ((pair₂ t e r).0 ≡ place_of e r) × ((pair₂ t e r).1 ≡ left_of e r)
unfolding spots spot_at
spots-right t h e r he hr =
    let (a, b) = both (eqb (pair₂ t e r).0 (place_of e r)) (eqb (pair₂ t e r).1 (left_of e r))
    (every-at (spot_at t e) 24 (every-at (λ e. every (spot_at t e) 24) 4 (to-true (spots t) h) e he) r hr) in
    (eqb-true (pair₂ t e r).0 (place_of e r) a, eqb-true (pair₂ t e r).1 (left_of e r) b)

abbrev pub lefts : (e p x : ℕ) → ℕ
lefts e p x = piece_left e p x

abbrev pub backs : (e y : ℕ) → ℕ
backs e y = gather (λ i. bit y (left_of e i)) 24

abbrev pub stands : (e q : ℕ) → ℕ
stands e q = gather (λ i. bit q (place_of e i)) 24

abbrev pub legals : (ku kl b : ℕ) → ℕ
legals ku kl b = gather (λ p. fits ku kl (suc p) b) b

pub tables-right : (ls : List (List (List ℕ))) (bs ss : List (List ℕ)) (gs : List (List (List ℕ))) (ps : List (List (ℕ × ℕ))) → T (table₃ lefts 4 4 64 ls) →
    T (table₂ backs 4 64 bs) → T (table₂ stands 4 16 ss) → T (table₃ legals 4 4 8 gs) → T (spots ps) → TableWords ls bs ss gs ps
tables-right ls bs ss gs ps l b s g p =
    record {
      rest = λ e i x he hi hx. table-at₃ lefts 4 4 64 ls l e i x he hi hx;
      back = λ e y he hy. table-at₂ backs 4 64 bs b e y he hy;
      stand = λ e q he hq. table-at₂ stands 4 16 ss s e q he hq;
      legal = λ ku kl n hu hl hn. table-at₃ legals 4 4 8 gs g ku kl n hu hl hn;
      spot = λ e r he hr. spots-right ps p e r he hr;
    }

-- the code's tables are right: antt computes each
pub right : TableWords LEFT BACK STANDING LEGAL SPOTS
unfolding table₂ equal₂ table₃ equal₃ spots spot_at every image gather at_of less_of under spared fact pick bit fits limits met
right = tables-right LEFT BACK STANDING LEGAL SPOTS tt tt tt tt tt
