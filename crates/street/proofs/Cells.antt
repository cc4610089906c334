-- The cells of an order, of which its list and free cells tell all: they stay so with one put in or cut out, and a label's first cell says where it
-- stands in the list.
use mathlib.Core.Path.{◌≡◌, refl, sym, ap, ◌∙◌}
use mathlib.Core.Bool.{Bool, true, false}
use mathlib.Core.List.{List, [], ◌∷◌, ◌++◌}
use Prim.Native.Nat.{ℕ, suc, ◌+◌, ◌-◌, ◌≤◌, ◌<◌}
use native.Mathlib.Nat.{le_of_suc-le-suc}
use native.Mathlib.Omega.{arith}
use lib.Dec.{eqb}
use lib.ListN.{length, get_or, take, replicate, length-append, length-replicate}
use lib.Seq.{take_at, length-take-le}
use Rattle.rules.specs.Basic.{pick, tabulate, put, cut}
use Rattle.rules.specs.Row.{before}
use Rattle.rules.proofs.Lists.{length-put, length_cut}
use Rattle.street.specs.Order.{capacity, cells, cells_with, Sound}

-- ---- the cells, one by one

spelt : (l : List ℕ) → tabulate (λ i. get_or l i 0) (length l) ≡ l
unfolding tabulate
spelt [] = refl
spelt (x ∷ l) = ap (λ (r : List ℕ). x ∷ r) (spelt l)

abbrev pub eight : List ℕ → List ℕ
eight l = tabulate (λ i. get_or l i 0) 8

pub eight-cells : (l : List ℕ) → length l ≡ cells → eight l ≡ l
eight-cells l long = ap (tabulate (λ i. get_or l i 0)) (sym long) ∙ spelt l

-- ---- a list in its cells

-- the cells of a list are sound, and have it
pub record Cells (l nets : List ℕ) (count : ℕ) : Type 0 where
  pub sound : Sound nets count
  pub list : take count nets ≡ l

pub cells-of : (l : List ℕ) → length l ≤ capacity → {nets : List ℕ} {count : ℕ} → nets ≡ cells_with l → count ≡ length l → Cells l nets count
cells-of l h {nets} {count} e n =
    let list : take count nets ≡ l = ap (take count) e ∙ take_at l (replicate (cells - length l) 0) count (sym n) in
    record {
      sound =
          record {
            long = omega (arith, ap length e, length-append l (replicate (cells - length l) 0), length-replicate {A = ℕ} (cells - length l) 0);
            few = omega arith;
            free = e ∙ ap cells_with (sym list);
          };
      list = list;
    }

module _ {l nets : List ℕ} {count : ℕ} (c : Cells l nets count) where
  counted : count ≡ length l
  counted = sym (length-take-le count nets (omega (arith, c.sound.few, c.sound.long))) ∙ ap length c.list

  pub few : length l ≤ capacity
  few = omega (arith, counted, c.sound.few)

  pub spare : nets ≡ l ++ replicate (cells - length l) 0
  spare = c.sound.free ∙ ap cells_with c.list

  pub inserted : (k x : ℕ) → length l < capacity → {after : List ℕ} → after ≡ cells_with (put k x l) → Cells (put k x l) after (count + 1)
  inserted k x room e = let long = length-put k x l in cells-of (put k x l) (omega arith) e (omega (arith, counted))

  pub removed : (k : ℕ) → k < length l → {after : List ℕ} → after ≡ cells_with (cut k l) → Cells (cut k l) after (count - 1)
  removed k h e = let shorter = length_cut k l h in cells-of (cut k l) (omega (arith, few)) e (omega (arith, counted))

-- ---- a label's first cell

before-append : (x : ℕ) (l r : List ℕ) → before x l < length l → before x (l ++ r) ≡ before x l
unfolding before pick
before-append x [] r h = absurd (omega arith)
before-append x (y ∷ l) r h = go (eqb y x) (before-append x l r) h
  where
    go : (t : Bool) → (before x l < length l → before x (l ++ r) ≡ before x l)
        → pick t 0 (suc (before x l)) < suc (length l) → pick t 0 (suc (before x (l ++ r))) ≡ pick t 0 (suc (before x l))
    go true f h = refl
    go false f h = ap suc (f (le_of_suc-le-suc h))

-- the first of six tests that passes, where one does
first_of : (a b c d e f : Bool) (m n : ℕ) → n ≡ pick a 0 (suc (pick b 0 (suc (pick c 0 (suc (pick d 0 (suc (pick e 0 (suc (pick f 0 (suc m))))))))))) → n < capacity
    → pick a 0 (pick b 1 (pick c 2 (pick d 3 (pick e 4 5)))) ≡ n
unfolding pick
first_of true b c d e f m n p h = sym p
first_of false true c d e f m n p h = sym p
first_of false false true d e f m n p h = sym p
first_of false false false true e f m n p h = sym p
first_of false false false false true f m n p h = sym p
first_of false false false false false true m n p h = sym p
first_of false false false false false false m n p h = absurd (omega arith)

module _ {l nets : List ℕ} {count : ℕ} (c : Cells l nets count) (x : ℕ) (there : before x l < length l) where
  abbrev holds : ℕ → Bool
  holds i = eqb (get_or nets i 0) x

  -- an open label stands where its first cell is
  own : before x nets ≡ before x l
  own = ap (before x) (spare c) ∙ before-append x l (replicate (cells - length l) 0) there

  pub found : {p q r s t : ℕ}
      → p ≡ pick (holds 4) 4 5 → q ≡ pick (holds 3) 3 p → r ≡ pick (holds 2) 2 q → s ≡ pick (holds 1) 1 r → t ≡ pick (holds 0) 0 s
      → t ≡ before x l
  unfolding before tabulate
  found {t = t} h₄ h₃ h₂ h₁ h₀ =
      let asked : t ≡ pick (holds 0) 0 (pick (holds 1) 1 (pick (holds 2) 2 (pick (holds 3) 3 (pick (holds 4) 4 5)))) = cc in
      let cells = ap (before x) (eight-cells nets c.sound.long) in
      let first = first_of (holds 0) (holds 1) (holds 2) (holds 3) (holds 4) (holds 5) (pick (holds 6) 0 (suc (pick (holds 7) 0 1))) (before x nets) (sym cells) (omega (arith, own, few c)) in
      asked ∙ first ∙ own
