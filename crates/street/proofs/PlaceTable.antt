-- The rows of a table of places as a loop fills them: in each the places among 0, 1, 2 and more wires, in this order.
use mathlib.Core.Path.{◌≡◌, refl, sym, ap, ◌∙◌}
use mathlib.Core.Bool.{Bool, true, false}
use mathlib.Core.List.{List, [], ◌∷◌}
use mathlib.Core.Logic.{⊎_elim}
use Prim.Native.Nat.{ℕ, zero, suc, ◌+◌, ◌≤◌, ◌<◌}
use native.Mathlib.Nat.{eq-or-lt_of_le}
use native.Mathlib.Numerals.{add-one}
use native.Mathlib.Omega.{arith}
use lib.Dec.{ltb}
use lib.ListN.{length, get_or, set, replicate, length-set, length-replicate, get_or-replicate}
use lib.Seq.{get_or-set_same, get_or-set_other}
use borrow.Author.Tests.{ltb-true, ltb-false}
use Rattle.rules.specs.declared.Kind.{Kind}
use Rattle.rules.specs.declared.Kind.TheVariants.{B, M, E, N}
use Rattle.rules.specs.Sheet.{code}
use Rattle.rules.specs.Street.{fits_at, counted}
use Rattle.rules.proofs.Fits.{Wired}
use Rattle.street.specs.Places.{marked, among, Places}
use Rattle.street.proofs.PlaceBits.{no-bit, among-blank, among-wire, too_many, too_few}

-- a row whose first s cells have no place: the n cells behind them have the places among 0 to n − 1 wires, and the others have none
pub record Row (ku kl : ℕ) (l : List ℕ) (s n : ℕ) : Type 0 where
  pub cells : length l ≡ 16
  pub first : (b : ℕ) → b < s → get_or l b 0 ≡ 0
  pub early : (b : ℕ) → b < n → get_or l (s + b) 0 ≡ among ku kl b
  pub late : (b : ℕ) → s + b < 16 → n ≤ b → get_or l (s + b) 0 ≡ 0

-- no cell is set
pub row_empty : (ku kl s : ℕ) → s < 16 → Row ku kl (replicate 16 0) s 0
row_empty ku kl s h =
    record {
      cells = length-replicate {A = ℕ} 16 0;
      first = λ b g. get_or-replicate 16 b 0 0 (omega arith);
      early = λ b g. absurd (omega arith);
      late = λ b g m. get_or-replicate 16 (s + b) 0 0 (omega arith);
    }

-- the next one is
pub row_next : {ku kl s n : ℕ} {l : List ℕ} {i v : ℕ} → Row ku kl l s n → i ≡ s + n → i < 16 → v ≡ among ku kl n → Row ku kl (set l i v) s (suc n)
row_next {ku} {kl} {s} {n} {l} {i} {v} r e h p =
    record {
      cells = length-set l i v ∙ r.cells;
      first = λ b g. get_or-set_other l i b v 0 (λ z. omega arith) ∙ r.first b g;
      early = λ b g.
          ⊎_elim
          (λ q. ap (λ (j : ℕ). get_or (set l i v) j 0) (omega arith) ∙ get_or-set_same l i v 0 (omega (arith, r.cells)) ∙ p ∙ ap (among ku kl) (sym q))
          (λ q. get_or-set_other l i (s + b) v 0 (λ z. omega arith) ∙ r.early b q)
          (eq-or-lt_of_le {n = b} {m = n} (omega arith));
      late = λ b g m. get_or-set_other l i (s + b) v 0 (λ z. omega arith) ∙ r.late b g (omega arith);
    }

-- ---- what the cells say

module _ {ku kl s : ℕ} {l : List ℕ} (a b : ℕ) {i : ℕ} (at_b : i ≡ s + b) (h : i < 16) where
  early-cell : {n : ℕ} → Row ku kl l s n → b < n → marked (get_or l i 0) a ≡ marked (among ku kl b) a
  early-cell r few = ap (λ (j : ℕ). marked (get_or l j 0) a) at_b ∙ ap (λ (x : ℕ). marked x a) (r.early b few)

  late-cell : {n : ℕ} → Row ku kl l s n → n ≤ b → marked (get_or l i 0) a ≡ false
  late-cell r many = ap (λ (j : ℕ). marked (get_or l j 0) a) at_b ∙ ap (λ (x : ℕ). marked x a) (r.late b (omega arith) many) ∙ no-bit a

  wire-cell : (k : Kind) → Wired k → Row ku kl l s (ku + kl) → marked (get_or l i 0) a ≡ fits_at k ku kl (suc a) (suc b)
  wire-cell k wired r = go (ltb b (ku + kl)) refl
    where
      go : (t : Bool) → ltb b (ku + kl) ≡ t → marked (get_or l i 0) a ≡ fits_at k ku kl (suc a) (suc b)
      go true e = let few = ltb-true b (ku + kl) e in early-cell r few ∙ among-wire ku kl a b k wired few
      go false e = let many = ltb-false b (ku + kl) e in late-cell r many ∙ sym (too_many ku kl (suc a) (suc b) k (omega arith))

  blank-cell : Row ku kl l s (suc (ku + kl)) → marked (get_or l i 0) a ≡ fits_at N ku kl (suc a) b
  blank-cell r = go (ltb b (suc (ku + kl))) refl
    where
      go : (t : Bool) → ltb b (suc (ku + kl)) ≡ t → marked (get_or l i 0) a ≡ fits_at N ku kl (suc a) b
      go true e = early-cell r (ltb-true b (suc (ku + kl)) e) ∙ among-blank ku kl a b
      go false e = let many = ltb-false b (suc (ku + kl)) e in late-cell r many ∙ sym (too_many ku kl (suc a) b N (omega arith))

-- where no net is open, none goes on or ends; else it is one of the b that are open, and the wires beside it are one fewer
other-cell : {ku kl : ℕ} {l : List ℕ} (a b : ℕ) (k : Kind) → Wired k → Row ku kl l 1 (ku + kl) → b < 16 → marked (get_or l b 0) a ≡ fits_at k ku kl (suc a) b
other-cell {ku} {kl} a zero k wired r h =
    ap (λ (x : ℕ). marked x a) (r.first 0 (omega arith)) ∙ no-bit a ∙ sym (too_few ku kl (suc a) 0 k wired refl)
other-cell a (suc b) k wired r h = wire-cell a b (omega arith) h k wired r

-- the rows as the loop fills them: that of the ends it leaves empty
pub record Filled (ku kl n : ℕ) (rows : List (List ℕ)) : Type 0 where
  pub begins : List ℕ
  pub others : List ℕ
  pub ends : List ℕ
  pub blanks : List ℕ
  pub is : rows ≡ begins ∷ others ∷ ends ∷ blanks ∷ []
  pub begin : Row ku kl begins 0 n
  pub other : Row ku kl others 1 n
  pub blank : Row ku kl blanks 0 n

pub filled-start : (ku kl : ℕ) → Filled ku kl 0 (replicate 4 (replicate 16 0))
filled-start ku kl =
    record {
      begins = replicate 16 0;
      others = replicate 16 0;
      ends = replicate 16 0;
      blanks = replicate 16 0;
      is = refl;
      begin = row_empty ku kl 0 (omega arith);
      other = row_empty ku kl 1 (omega arith);
      blank = row_empty ku kl 0 (omega arith);
    }

module _ {ku kl n : ℕ} {rows : List (List ℕ)} (v : ℕ) (f : Filled ku kl n rows) where
  pub filled_next : n < 15 → v ≡ among ku kl n → {next : List (List ℕ)}
      → next ≡ set f.begins n v ∷ set f.others (n + 1) v ∷ f.ends ∷ set f.blanks n v ∷ [] → Filled ku kl (n + 1) next
  filled_next h e q =
      record {
        begins = set f.begins n v;
        others = set f.others (n + 1) v;
        ends = f.ends;
        blanks = set f.blanks n v;
        is = q;
        begin = rw (add-one n) (row_next f.begin (omega arith) (omega arith) e);
        other = rw (add-one n) (row_next f.other (omega arith) (omega arith) e);
        blank = rw (add-one n) (row_next f.blank (omega arith) (omega arith) e);
      }

  pub filled-end : n ≡ ku + kl → ku + kl < 15 → v ≡ among ku kl (ku + kl) → {all : List (List ℕ)}
      → all ≡ f.begins ∷ f.others ∷ f.others ∷ set f.blanks (ku + kl) v ∷ [] → Places ku kl all
  unfolding code counted
  filled-end q few p r = rw r (record { places = places })
    where
      begin : Row ku kl f.begins 0 (ku + kl)
      begin = rw q at f.begin

      other : Row ku kl f.others 1 (ku + kl)
      other = rw q at f.other

      full : Row ku kl f.blanks 0 (ku + kl)
      full = rw q at f.blank

      blank : Row ku kl (set f.blanks (ku + kl) v) 0 (suc (ku + kl))
      blank = row_next full (omega arith) (omega arith) p

      places : (k : Kind) (a b : ℕ) → b < 16 → marked (get_or (get_or (f.begins ∷ f.others ∷ f.others ∷ set f.blanks (ku + kl) v ∷ []) (code k) []) b 0) a ≡ fits_at k ku kl (suc a) (counted k b)
      places B a b m = wire-cell a b (omega arith) m B tt begin
      places M a b m = other-cell a b M tt other m
      places E a b m = other-cell a b E tt other m
      places N a b m = blank-cell a b (omega arith) m blank
