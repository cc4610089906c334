-- Tables of first and last nodes grow node by node, and tell which nodes begin a net, which end one, and which are lone.
use mathlib.Core.Path.{◌≡◌, refl, sym, ap, ap₂, ◌∙◌}
use mathlib.Core.Logic.{◌⊎◌, inl, inr}
use mathlib.Core.Bool.{Bool, true, false, not, ◌&&◌}
use mathlib.Core.List.{List, [], ◌∷◌, ◌++◌, append-nil}
use Prim.Native.Nat.{ℕ, zero, suc, ◌+◌, ◌-◌, ◌≤◌, ◌<◌}
use native.Mathlib.Decide.{ℕ_discrete, dec_lt}
use native.Mathlib.Omega.{arith}
use lib.ListN.{length, get_or, get_or-eq_default, take, drop, set, length-set, length-append, length-drop}
use lib.Seq.{append_snoc, get_or-append_seam, get_or-set_same, get_or-set_other, get_or-take, length-take-le}
use lib.Dec.{eqb, ltb}
use borrow.Author.Tests.{eqb-true, eqb-false, eq-eqb, ne_eqb, ltb-true, ltb-false}
use Rattle.std.specs.Prelude.{Option, None, Some, IsNone, IfSome, cond}
use Rattle.std.specs.List.{position, position_or_len}
use Rattle.std.proofs.lemmas.List.Sums.{position_or_len_is}
use Rattle.rules.specs.Basic.{pick, least}
use Rattle.rules.specs.Row.{before, blank, home, later, lone}
use Rattle.rules.specs.Answers.{first_lone}
use Rattle.rules.proofs.Pins.{before-found, home-le, label-home}
use Rattle.rules.proofs.Least.{least-le, least-holds, least-before}
use Rattle.rules.proofs.Open.{later-ahead, ahead-later}
use Rattle.script.specs.Tabled.{noted, Firsts, Tabled, alone, Apart, lone_label}

-- ---- a node writes its number

other-node : (row : List ℕ) (i j : ℕ) → (get_or row j 0 ≡ get_or row i 0 → ⊥) → j ≡ i → ⊥
other-node row i j n e = n (ap (λ (k : ℕ). get_or row k 0) e)

module _ (row table : List ℕ) (i : ℕ) (cells : length table ≡ 256) (label : get_or row i 0 < 256) where
  noted-own : (j : ℕ) → get_or row j 0 ≡ get_or row i 0 → noted row (set table (get_or row i 0) (suc i)) j ≡ suc i
  noted-own j e = rw e (get_or-set_same table (get_or row i 0) (suc i) 0 (omega arith))

  noted_other : (j : ℕ) → (get_or row j 0 ≡ get_or row i 0 → ⊥) → noted row (set table (get_or row i 0) (suc i)) j ≡ noted row table j
  noted_other j n = get_or-set_other table (get_or row i 0) (get_or row j 0) (suc i) 0 n

  -- the number that stands for the label of node j is that of a node with this label
  own_same : (j : ℕ) → get_or row j 0 ≡ get_or row i 0 → get_or row (noted row (set table (get_or row i 0) (suc i)) j - 1) 0 ≡ get_or row j 0
  own_same j e = ap (λ (k : ℕ). get_or row k 0) (omega (arith, noted-own j e)) ∙ sym e

  other-same : (j : ℕ) → (get_or row j 0 ≡ get_or row i 0 → ⊥) → get_or row (noted row table j - 1) 0 ≡ get_or row j 0
      → get_or row (noted row (set table (get_or row i 0) (suc i)) j - 1) 0 ≡ get_or row j 0
  other-same j n e = ap (λ (k : ℕ). get_or row (k - 1) 0) (noted_other j n) ∙ e

pub firsts-none : (row table : List ℕ) → length table ≡ 256 → Firsts row (length row) table
firsts-none row table cells =
    record {
      cells = cells;
      from = λ i a b. absurd (omega arith);
      counted = λ i a b. absurd (omega arith);
      same = λ i a b. absurd (omega arith);
    }

pub firsts_more : (row table : List ℕ) (i : ℕ) → get_or row i 0 < 256 → Firsts row (suc i) table → Firsts row i (set table (get_or row i 0) (suc i))
firsts_more row table i label f =
    record {
      cells = length-set table (get_or row i 0) (suc i) ∙ f.cells;
      from = λ j a b. from j a b (ℕ_discrete (get_or row j 0) (get_or row i 0));
      counted = λ j a b. counted j a b (ℕ_discrete (get_or row j 0) (get_or row i 0));
      same = λ j a b. same j a b (ℕ_discrete (get_or row j 0) (get_or row i 0));
    }
  where
    on : (j : ℕ) → i ≤ j → (get_or row j 0 ≡ get_or row i 0 → ⊥) → suc i ≤ j
    on j a n = omega (arith, other-node row i j n)

    from : (j : ℕ) → i ≤ j → j < length row → Dec (get_or row j 0 ≡ get_or row i 0) → noted row (set table (get_or row i 0) (suc i)) j ≤ suc j
    from j a b (yes e) = omega (arith, noted-own row table i f.cells label j e)
    from j a b (no n) = omega (arith, noted_other row table i f.cells label j n, f.from j (on j a n) b)

    counted : (j : ℕ) → i ≤ j → j < length row → Dec (get_or row j 0 ≡ get_or row i 0) → 0 < noted row (set table (get_or row i 0) (suc i)) j
    counted j a b (yes e) = omega (arith, noted-own row table i f.cells label j e)
    counted j a b (no n) = omega (arith, noted_other row table i f.cells label j n, f.counted j (on j a n) b)

    same : (j : ℕ) → i ≤ j → j < length row → Dec (get_or row j 0 ≡ get_or row i 0)
        → get_or row (noted row (set table (get_or row i 0) (suc i)) j - 1) 0 ≡ get_or row j 0
    same j a b (yes e) = own_same row table i f.cells label j e
    same j a b (no n) = other-same row table i f.cells label j n (f.same j (on j a n) b)

-- the first node of a label is its net's first
pub firsts-home : (row table : List ℕ) → Firsts row 0 table → (i : ℕ) → i < length row → noted row table i ≡ suc (home row i)
unfolding home
firsts-home row table f i h =
    let k : ℕ = noted row table i - 1 in
    let pos : 0 < noted row table i = f.counted i (omega arith) h in
    let low : before (get_or row k 0) row ≤ k = before-found row k (omega (arith, f.from i (omega arith) h)) in
    let e : before (get_or row k 0) row ≡ home row i = ap (λ (x : ℕ). before x row) (f.same i (omega arith) h) in
    let g : noted row table (home row i) ≡ noted row table i = ap (λ (x : ℕ). get_or table x 0) (label-home row i h) in
    omega (arith, pos, low, e, g, f.from (home row i) (omega arith) (omega (arith, home-le row i h)))

-- the nodes that are left of a row, where the table holds the first nodes among the others
pub record FirstsBehind (row left : List ℕ) (count : ℕ) (table : List ℕ) : Type 0 where
  pub passed : List ℕ
  pub joined : left ++ passed ≡ row
  pub counted : count ≡ 0
  pub firsts : Firsts row (length left) table

pub behind-none : (row left table : List ℕ) (count : ℕ) → left ≡ row → count ≡ 0 → length table ≡ 256 → FirstsBehind row left count table
behind-none row left table count e n cells =
    record { passed = []; joined = append-nil left ∙ e; counted = n; firsts = rw e (firsts-none row table cells) }

-- the last of them writes its number
pub behind-more : (row left table : List ℕ) (count : ℕ) → FirstsBehind row left count table
    → (before : List ℕ) (x i count' : ℕ) → left ≡ before ++ (x ∷ []) → x < 256 → i ≡ count + length before → count' ≡ count
    → FirstsBehind row before count' (set table x (i + 1))
behind-more row left table count f before x i count' e byte is same =
    let whole : before ++ (x ∷ f.passed) ≡ row = sym (append_snoc before x f.passed) ∙ ap (λ (l : List ℕ). l ++ f.passed) (sym e) ∙ f.joined in
    let own : get_or row (length before) 0 ≡ x = ap (λ (l : List ℕ). get_or l (length before) 0) (sym whole) ∙ get_or-append_seam before x f.passed 0 in
    let long : length left ≡ suc (length before) = omega (arith, ap length e, length-append before (x ∷ [])) in
    let node : i + 1 ≡ suc (length before) = omega (arith, f.counted) in
    record {
      passed = x ∷ f.passed;
      joined = whole;
      counted = same ∙ f.counted;
      firsts = rw (node, ← own) (firsts_more row table (length before) (omega arith) (rw long at f.firsts));
    }

-- ---- what the tables tell of a node

module _ (row first last : List ℕ) (t : Tabled row first last) (i : ℕ) (h : i < length row) where
  pub begins-here : eqb (noted row first i) (suc i) ≡ eqb (home row i) i
  begins-here = go (ℕ_discrete (home row i) i)
    where
      go : Dec (home row i ≡ i) → eqb (noted row first i) (suc i) ≡ eqb (home row i) i
      go (yes e) = eq-eqb (noted row first i) (suc i) (t.begins i h ∙ ap suc e) ∙ sym (eq-eqb (home row i) i e)
      go (no n) = ne_eqb (noted row first i) (suc i) (λ e. n (omega (arith, t.begins i h))) ∙ sym (ne_eqb (home row i) i n)

  -- a later node is in the net exactly where the last is another
  pub later-not-last : later row i ≡ not (eqb (noted row last i) (suc i))
  later-not-last = go (later row i) (eqb (noted row last i) (suc i)) refl refl
    where
      go : (b e : Bool) → later row i ≡ b → eqb (noted row last i) (suc i) ≡ e → b ≡ not e
      go true true q p =
          let a = later-ahead row i q in
          let same : noted row last a.at ≡ noted row last i = ap (λ (x : ℕ). get_or last x 0) a.label in
          absurd (omega (arith, t.lasts.upto a.at a.within, a.from, eqb-true (noted row last i) (suc i) p))
      go true false q p = refl
      go false true q p = refl
      go false false q p =
          let on : suc i < noted row last i = omega (arith, t.lasts.upto i h, eqb-false (noted row last i) (suc i) p) in
          sym q ∙ ahead-later row i
          (record { at = noted row last i - 1; from = omega arith; within = omega (arith, t.lasts.within i h); label = t.lasts.same i h })

  -- a blank is not lone
  pub blank-not-lone : get_or row i 0 ≡ 255 → lone row i ≡ false
  unfolding lone blank
  blank-not-lone e = rw (eq-eqb (get_or row i 0) 255 e) refl

  -- another node is lone exactly where its net's first and last node are one
  pub lone-one : (get_or row i 0 ≡ 255 → ⊥) → lone row i ≡ eqb (noted row first i) (noted row last i)
  unfolding lone blank
  lone-one n =
      ap (λ (t : Bool). not t && eqb (home row i) i && not (later row i)) (ne_eqb (get_or row i 0) 255 n)
      ∙ ap₂ (λ (a b : Bool). a && not b) (sym begins-here) later-not-last
      ∙ go (ℕ_discrete (noted row first i) (suc i)) (ℕ_discrete (noted row last i) (suc i))
    where
      f : ℕ
      f = noted row first i

      l : ℕ
      l = noted row last i

      go : Dec (f ≡ suc i) → Dec (l ≡ suc i) → (eqb f (suc i) && not (not (eqb l (suc i)))) ≡ eqb f l
      go (yes p) (yes q) = rw (eq-eqb f (suc i) p, eq-eqb l (suc i) q) (sym (eq-eqb f l (p ∙ sym q)))
      go (yes p) (no q) = rw (eq-eqb f (suc i) p, ne_eqb l (suc i) q) (sym (ne_eqb f l (λ e. q (sym e ∙ p))))
      go (no p) q =
          rw (ne_eqb f (suc i) p)
          (sym (ne_eqb f l (λ e. p (omega (arith, e, t.begins i h, home-le row i h, t.lasts.upto i h)))))

-- ---- the first lone node

-- a test does not both pass and fail
pub apart : (b : Bool) → b ≡ true → b ≡ false → ⊥
apart b p q = let z : ◌≡◌ {A = ℕ} 0 1 = cc in omega arith

-- a number at which the test holds, if it is below the bound, and before which it fails, is the least
pub least-is : (f : ℕ → Bool) (n i : ℕ) → i ≤ n → (i < n → f i ≡ true) → ((j : ℕ) → j < i → f j ≡ false) → least f n ≡ i
least-is f n i h yep nope = go (ℕ_discrete (least f n) i)
  where
    order : (least f n ≡ i → ⊥) → Dec (least f n < i) → ⊥
    order d (yes l) = apart (f (least f n)) (least-holds f n (omega arith)) (nope (least f n) l)
    order d (no l) = let b : i < least f n = omega arith in apart (f i) (yep (omega (arith, least-le f n))) (least-before f n i b)

    go : Dec (least f n ≡ i) → least f n ≡ i
    go (yes e) = e
    go (no d) = absurd (order d (dec_lt (least f n) i))

module _ (row first last : List ℕ) (t : Tabled row first last) where
  lone-by_label : (i : ℕ) → i < length row → lone row i ≡ lone_label first last (get_or row i 0)
  lone-by_label i h = go (ℕ_discrete (get_or row i 0) 255)
    where
      go : Dec (get_or row i 0 ≡ 255) → lone row i ≡ lone_label first last (get_or row i 0)
      go (yes e) = blank-not-lone row first last t i h e ∙ sym (rw (eq-eqb (get_or row i 0) 255 e) refl)
      go (no n) = lone-one row first last t i h n ∙ sym (rw (ne_eqb (get_or row i 0) 255 n) refl)

  first_by_label : position_or_len (lone_label first last) row ≡ first_lone row
  unfolding first_lone
  first_by_label =
      let n = length row in
      let low = least-le (lone row) n in
      position_or_len_is (lone_label first last) row (least (lone row) n) 0 low
      (λ k h. sym (lone-by_label k (omega arith)) ∙ least-before (lone row) n k h)
      (λ h. sym (lone-by_label (least (lone row) n) h) ∙ least-holds (lone row) n h)

  -- the first place at which it is so is the first lone node
  pub found-lone : (r : Option ℕ) → r ≡ position (lone_label first last) row
      → (IsNone r → first_lone row ≡ length row) × IfSome r (λ i. (i < length row) × (first_lone row ≡ i))
  unfolding first_lone
  found-lone r e = rw (e, first_by_label) (go (ltb (first_lone row) (length row)) refl)
    where
      go : (b : Bool) → ltb (first_lone row) (length row) ≡ b
          → (IsNone (cond b (Some (first_lone row)) None) → first_lone row ≡ length row)
          × IfSome (cond b (Some (first_lone row)) None) (λ i. (i < length row) × (first_lone row ≡ i))
      go true q = (λ z. absurd (apart true refl z), (ltb-true (first_lone row) (length row) q, refl))
      go false q = (λ z. omega (arith, ltb-false (first_lone row) (length row) q, least-le (lone row) (length row)), tt)

-- a label that occurs and is not lone has two nodes
alone-not : (f l : ℕ) → 0 < f → alone f l ≡ 0 → eqb f l ≡ false
unfolding alone pick
alone-not f l h e = go (eqb f l) (rw (ne_eqb f 0 (λ z. omega arith)) at e)
  where
    go : (b : Bool) → ◌≡◌ {A = ℕ} (pick b 1 0) 0 → b ≡ false
    go true z = absurd (omega arith)
    go false z = refl

-- a node's label has its entry
label-low : (row first last : List ℕ) → Tabled row first last → (i : ℕ) → i < length row → get_or row i 0 < 256
label-low row first last t i h = go (dec_lt (get_or row i 0) 256)
  where
    go : Dec (get_or row i 0 < 256) → get_or row i 0 < 256
    go (yes l) = l
    go (no n) = absurd (omega (arith, t.begins i h, get_or-eq_default first 0 {n = get_or row i 0} (omega (arith, t.firsts))))

-- where no label of a net has one node only no node is lone
pub apart_none : (row first last : List ℕ) → Tabled row first last → Apart first last 255
    → first_lone row ≡ length row
unfolding first_lone
apart_none row first last t a =
    least-is (lone row) (length row) (length row) (omega arith) (λ b. absurd (omega arith)) (λ j h. go j h (ℕ_discrete (get_or row j 0) 255))
  where
    go : (j : ℕ) → j < length row → Dec (get_or row j 0 ≡ 255) → lone row j ≡ false
    go j h (yes e) = blank-not-lone row first last t j h e
    go j h (no n) =
        lone-one row first last t j h n
        ∙ alone-not (noted row first j) (noted row last j) (omega (arith, t.begins j h)) (a (get_or row j 0) (omega (arith, label-low row first last t j h)))

-- ---- the labels gone through, of which none is lone while nothing is counted

-- what is left of a list after k of it, and the next of them
pub next-of : (l : List ℕ) (k x : ℕ) (r : List ℕ) → drop k l ≡ x ∷ r → (drop (suc k) l ≡ r) × (get_or l k 0 ≡ x) × (k < length l)
next-of [] zero x r e = let z : ◌≡◌ {A = ℕ} 0 1 = cc in absurd (omega arith)
next-of [] (suc k) x r e = let z : ◌≡◌ {A = ℕ} 0 1 = cc in absurd (omega arith)
next-of (y ∷ l) zero x r e = let p : y ≡ x = cc in let q : l ≡ r = cc in (q, p, omega arith)
next-of (y ∷ l) (suc k) x r e = let n = next-of l k x r e in (n.0, n.1, omega (arith, n.2))

-- of two lists the first k are gone through, and what is left of them stands in the iterators
pub record Counting (first last : List ℕ) (k count : ℕ) (rest rest' : List ℕ) : Type 0 where
  pub few : count ≤ k
  pub left : rest ≡ drop k first
  pub left' : rest' ≡ drop k last
  pub none : count ≡ 0 → Apart first last k

pub counting-more : (first last : List ℕ) (k count : ℕ) (rest rest' : List ℕ) → Counting first last k count rest rest'
    → (x y n : ℕ) (r r' : List ℕ) → rest ≡ x ∷ r → rest' ≡ y ∷ r' → n ≡ alone x y → n ≤ 1 → Counting first last (suc k) (count + n) r r'
counting-more first last k count rest rest' c x y n r r' e e' is low =
    let f = next-of first k x r (sym c.left ∙ e) in
    let l = next-of last k y r' (sym c.left' ∙ e') in
    record {
      few = omega (arith, c.few);
      left = sym f.0;
      left' = sym l.0;
      none = λ z i h. go i h (ℕ_discrete i k) z;
    }
  where
    go : (i : ℕ) → i < suc k → Dec (i ≡ k) → count + n ≡ 0 → alone (get_or first i 0) (get_or last i 0) ≡ 0
    go i h (yes q) z =
        let f = next-of first k x r (sym c.left ∙ e) in
        let l = next-of last k y r' (sym c.left' ∙ e') in
        rw (q, f.1, l.1) (sym is ∙ omega arith)
    go i h (no q) z = c.none (omega arith) i (omega arith)

-- where the iterators hold no pair more, both lists are gone through
pub counting-end : (first last : List ℕ) (n k count : ℕ) (rest rest' : List ℕ) → Counting (take n first) (take n last) k count rest rest' → n ≤ length first → n ≤ length last
    → (length rest ≡ 0) ⊎ (length rest' ≡ 0) → count ≡ 0 → Apart first last n
counting-end first last n k count rest rest' c f l e z x h =
    rw (get_or-take n first x 0 h, get_or-take n last x 0 h) at (c.none z x (omega (arith, through e)))
  where
    through : (length rest ≡ 0) ⊎ (length rest' ≡ 0) → n ≤ k
    through (inl e) = omega (arith, ap length c.left, length-drop k (take n first), length-take-le n first f)
    through (inr e) = omega (arith, ap length c.left', length-drop k (take n last), length-take-le n last l)
