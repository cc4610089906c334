-- Two rows join the same pins and have the same blanks exactly when the street rules see the same nodes in them.
use mathlib.Core.Path.{◌≡◌, refl, sym, ap, ap₂, ◌∙◌}
use mathlib.Core.Bool.{Bool, true, false, not, ◌&&◌}
use mathlib.Core.List.{List, [], ◌∷◌, map}
use mathlib.Core.Logic.{◌↔◌}
use Prim.Native.Nat.{ℕ, zero, suc, ◌+◌, ◌-◌, ◌≤◌, ◌<◌}
use native.Mathlib.Nat.{le_of_suc-le-suc, not-suc-le-zero}
use native.Mathlib.Omega.{arith}
use lib.ListN.{length, get_or, drop, length-drop}
use lib.Seq.{get_or-drop}
use lib.Dec.{eqb, ltb}
use borrow.Author.Tests.{eqb-true, eqb-false, eq-eqb, ne_eqb}
use Rattle.rules.specs.Basic.{pick, tabulate, least, settle}
use Rattle.rules.specs.declared.Kind.{Kind}
use Rattle.rules.specs.declared.Kind.TheVariants.{B, M, E, N}
use Rattle.rules.specs.Row.{before, has, blank, joined, home, later, Node, node, node_at, nodes, kind_of, lone, SamePins}
use Rattle.rules.specs.Street.{kind, first}
use Rattle.rules.specs.Sheet.{sheet}
use Rattle.rules.specs.Answers.{routing, first_lone, refusal, outcome, first_sheet}

-- ---- tables and least numbers

pub length-tabulate {ℓ} : {A : Type ℓ} (f : ℕ → A) (n : ℕ) → length (tabulate f n) ≡ n
unfolding tabulate
length-tabulate f zero = refl
length-tabulate f (suc n) = ap suc (length-tabulate (λ i. f (suc i)) n)

pub get_d_tabulate {ℓ} : {A : Type ℓ} (f : ℕ → A) (n i : ℕ) (d : A) → i < n → get_or (tabulate f n) i d ≡ f i
unfolding tabulate
get_d_tabulate f zero i d h = absurd (not-suc-le-zero h)
get_d_tabulate f (suc n) zero d h = refl
get_d_tabulate f (suc n) (suc i) d h = get_d_tabulate (λ j. f (suc j)) n i d (le_of_suc-le-suc h)

pub tabulate-cong {ℓ} : {A : Type ℓ} (f g : ℕ → A) (n : ℕ) → ((i : ℕ) → i < n → f i ≡ g i) → tabulate f n ≡ tabulate g n
unfolding tabulate
tabulate-cong f g zero h = refl
tabulate-cong {A = A} f g (suc n) h =
    ap₂ {C = List A} (λ x l. x ∷ l) (h 0 (omega arith)) (tabulate-cong (λ i. f (suc i)) (λ i. g (suc i)) n (λ i l. h (suc i) (omega arith)))

pub map-tabulate {ℓ ℓ'} : {A : Type ℓ} {C : Type ℓ'} (g : A → C) (f : ℕ → A) (n : ℕ) → map g (tabulate f n) ≡ tabulate (λ i. g (f i)) n
unfolding tabulate
map-tabulate g f zero = refl
map-tabulate {C = C} g f (suc n) = ap {B = List C} (λ l. g (f 0) ∷ l) (map-tabulate g (λ i. f (suc i)) n)

pub least-cong : (f g : ℕ → Bool) (n : ℕ) → ((i : ℕ) → i < n → f i ≡ g i) → least f n ≡ least g n
unfolding least
least-cong f g zero h = refl
least-cong f g (suc n) h =
    ap₂ (λ b k. pick b 0 (suc k)) (h 0 (omega arith)) (least-cong (λ i. f (suc i)) (λ i. g (suc i)) n (λ i l. h (suc i) (omega arith)))

-- what stands before x, as a least number
pub before-foundast : (x : ℕ) (l : List ℕ) → before x l ≡ least (λ j. eqb (get_or l j 0) x) (length l)
unfolding before least
before-foundast x [] = refl
before-foundast x (y ∷ l) = ap (λ k. pick (eqb y x) 0 (suc k)) (before-foundast x l)

-- ---- the first node of a net

pub at_before : (x : ℕ) (l : List ℕ) → before x l < length l → get_or l (before x l) 0 ≡ x
unfolding before pick
at_before x [] h = absurd (not-suc-le-zero h)
at_before x (y ∷ l) h = go (eqb y x) refl h (at_before x l)
  where
    go : (t : Bool) → eqb y x ≡ t → pick t 0 (suc (before x l)) < suc (length l) → (before x l < length l → get_or l (before x l) 0 ≡ x)
        → get_or (y ∷ l) (pick t 0 (suc (before x l))) 0 ≡ x
    go true e h' ih = eqb-true y x e
    go false e h' ih = ih (le_of_suc-le-suc h')

-- the first of a label stands at or before each node that has it
pub before-found : (l : List ℕ) (i : ℕ) → i < length l → before (get_or l i 0) l ≤ i
unfolding before pick
before-found [] i h = absurd (not-suc-le-zero h)
before-found (y ∷ l) zero h = rw (eq-eqb y y refl) (omega arith)
before-found (y ∷ l) (suc i) h = go (eqb y (get_or l i 0)) (before-found l i (le_of_suc-le-suc h))
  where
    go : (t : Bool) → before (get_or l i 0) l ≤ i → pick t 0 (suc (before (get_or l i 0) l)) ≤ suc i
    go true ih = omega arith
    go false ih = omega arith

pub home-le : (row : List ℕ) (i : ℕ) → i < length row → home row i ≤ i
unfolding home
home-le row i h = before-found row i h

pub label-home : (row : List ℕ) (i : ℕ) → i < length row → get_or row (home row i) 0 ≡ get_or row i 0
unfolding home
label-home row i h = at_before (get_or row i 0) row (omega (arith, before-found row i h))

-- nodes carry one label
abbrev pub one_label : List ℕ → ℕ → ℕ → Bool
one_label row i j = eqb (get_or row i 0) (get_or row j 0)

-- they do exactly where the first nodes with their labels are one
pub label-homes : (row : List ℕ) (i j : ℕ) → i < length row → j < length row → one_label row i j ≡ eqb (home row i) (home row j)
unfolding home
label-homes row i j hi hj = go (one_label row i j) refl
  where
    go : (t : Bool) → one_label row i j ≡ t → one_label row i j ≡ eqb (home row i) (home row j)
    go true e = e ∙ sym (eq-eqb (home row i) (home row j) (ap (λ x. before x row) (eqb-true (get_or row i 0) (get_or row j 0) e)))
    go false e =
        e ∙ sym (ne_eqb (home row i) (home row j)
        (λ h. eqb-false (get_or row i 0) (get_or row j 0) e (sym (label-home row i hi) ∙ ap (λ k. get_or row k 0) h ∙ label-home row j hj)))

-- ---- home and later from one label

pub home-least : (row : List ℕ) (i : ℕ) → home row i ≡ least (λ j. one_label row j i) (length row)
unfolding home
home-least row i = before-foundast (get_or row i 0) row

pub later-least : (row : List ℕ) (i : ℕ)
    → later row i ≡ ltb (least (λ j. one_label row (suc i + j) i) (length row - suc i)) (length row - suc i)
unfolding later has
later-least row i =
    ap₂ (λ a b. ltb a b)
    (before-foundast (get_or row i 0) (drop (suc i) row)
    ∙ ap (λ n. least (λ j. eqb (get_or (drop (suc i) row) j 0) (get_or row i 0)) n) (length-drop (suc i) row)
    ∙ least-cong (λ j. eqb (get_or (drop (suc i) row) j 0) (get_or row i 0)) (λ j. eqb (get_or row (suc i + j) 0) (get_or row i 0)) (length row - suc i)
    (λ j h. ap (λ y. eqb y (get_or row i 0)) (get_or-drop (suc i) row j 0)))
    (length-drop (suc i) row)

-- ---- the theorem

blank-label : (row : List ℕ) (i : ℕ) → blank row i ≡ true → get_or row i 0 ≡ 255
unfolding blank
blank-label row i e = eqb-true (get_or row i 0) 255 e

not-blank : (row : List ℕ) (i : ℕ) → blank row i ≡ false → get_or row i 0 ≡ 255 → ⊥
unfolding blank
not-blank row i e = eqb-false (get_or row i 0) 255 e

-- a kind that is a blank's
unfoldable pub unjoined : Kind → Bool
unjoined B = false
unjoined M = false
unjoined E = false
unjoined N = true

-- two nodes are in one net, by what the street rules see of them
one-net : Node → Node → Bool
one-net (node k x) (node l y) = not (unjoined k) && eqb x y

unjoined-kind_of : (f l : Bool) → unjoined (kind_of f l) ≡ false
unfolding unjoined kind_of
unjoined-kind_of true l = refl
unjoined-kind_of false true = refl
unjoined-kind_of false false = refl

-- what a node is, by whether it is blank
pub node-blank : (row : List ℕ) (i : ℕ) → blank row i ≡ true → node_at row i ≡ node N i
unfolding node_at pick
node-blank row i e = rw e

pub node-net : (row : List ℕ) (i : ℕ) → blank row i ≡ false → node_at row i ≡ node (kind_of (eqb (home row i) i) (later row i)) (home row i)
unfolding node_at pick
node-net row i e = rw e

pub blank-node : (row : List ℕ) (i : ℕ) → blank row i ≡ unjoined (kind (node_at row i))
unfolding node_at pick kind unjoined
blank-node row i = go (blank row i)
  where
    go : (t : Bool) → t ≡ unjoined (kind (pick t (node N i) (node (kind_of (eqb (home row i) i) (later row i)) (home row i))))
    go true = refl
    go false = sym (unjoined-kind_of (eqb (home row i) i) (later row i))

-- nodes are in one net exactly where the street rules see one
joined-nodes : (row : List ℕ) (i j : ℕ) → i < length row → j < length row → joined row i j ≡ one-net (node_at row i) (node_at row j)
unfolding joined node_at pick unjoined one-net
joined-nodes row i j hi hj = go (blank row i) (blank row j) refl refl
  where
    k : (n : ℕ) → Kind
    k n = kind_of (eqb (home row n) n) (later row n)

    go : (t u : Bool) → blank row i ≡ t → blank row j ≡ u
        → not t && one_label row i j ≡ one-net (pick t (node N i) (node (k i) (home row i))) (pick u (node N j) (node (k j) (home row j)))
    go true true e f = refl
    go true false e f = refl
    go false true e f =
        let n : get_or row j 0 ≡ 255 = blank-label row j f in
        let a : one_label row i j ≡ false = ne_eqb (get_or row i 0) (get_or row j 0) (λ q. not-blank row i e (q ∙ n)) in
        let b : eqb (home row i) j ≡ false =
        ne_eqb (home row i) j (λ q. not-blank row i e (sym (label-home row i hi) ∙ ap (λ m. get_or row m 0) q ∙ n)) in
        rw (unjoined-kind_of (eqb (home row i) i) (later row i), b) a
    go false false e f = rw (unjoined-kind_of (eqb (home row i) i) (later row i)) (label-homes row i j hi hj)

module _ (row row' : List ℕ) where
  -- rows with the same pins carry one label at the same nodes
  pub same-label : SamePins row row' → (i j : ℕ) → i < length row → j < length row → one_label row i j ≡ one_label row' i j
  unfolding joined
  same-label s i j hi hj = go (blank row i) (blank row j) refl refl
    where
      go : (t u : Bool) → blank row i ≡ t → blank row j ≡ u → one_label row i j ≡ one_label row' i j
      go false u e f = rw (e, sym (s.blanks i hi) ∙ e) at (s.joins i j hi hj)
      go true true e f =
          eq-eqb (get_or row i 0) (get_or row j 0) (blank-label row i e ∙ sym (blank-label row j f))
          ∙ sym (eq-eqb (get_or row' i 0) (get_or row' j 0) (blank-label row' i (sym (s.blanks i hi) ∙ e) ∙ sym (blank-label row' j (sym (s.blanks j hj) ∙ f))))
      go true false e f =
          apart row e f ∙ sym (apart row' (sym (s.blanks i hi) ∙ e) (sym (s.blanks j hj) ∙ f))
        where
          apart : (r : List ℕ) → blank r i ≡ true → blank r j ≡ false → one_label r i j ≡ false
          apart r e f = ne_eqb (get_or r i 0) (get_or r j 0) (λ q. not-blank r j f (sym q ∙ blank-label r i e))

  pub same_home : SamePins row row' → (i : ℕ) → i < length row → home row i ≡ home row' i
  same_home s i h =
      home-least row i
      ∙ least-cong (λ j. one_label row j i) (λ j. one_label row' j i) (length row) (λ j l. same-label s j i l h)
      ∙ ap (λ n. least (λ j. one_label row' j i) n) s.count
      ∙ sym (home-least row' i)

  pub same-later : SamePins row row' → (i : ℕ) → i < length row → later row i ≡ later row' i
  same-later s i h =
      later-least row i
      ∙ ap (λ k. ltb k (length row - suc i))
      (least-cong (λ j. one_label row (suc i + j) i) (λ j. one_label row' (suc i + j) i) (length row - suc i)
      (λ j l. same-label s (suc i + j) i (omega arith) h))
      ∙ ap (λ n. ltb (least (λ j. one_label row' (suc i + j) i) (n - suc i)) (n - suc i)) s.count
      ∙ sym (later-least row' i)

  same-node : SamePins row row' → (i : ℕ) → i < length row → node_at row i ≡ node_at row' i
  unfolding node_at
  same-node s i h = cc (s.blanks i h, same_home s i h, same-later s i h)

  same-lone : SamePins row row' → (i : ℕ) → i < length row → lone row i ≡ lone row' i
  unfolding lone
  same-lone s i h = cc (s.blanks i h, same_home s i h, same-later s i h)

  pub same_nodes : SamePins row row' → nodes row ≡ nodes row'
  unfolding nodes
  same_nodes s = tabulate-cong (node_at row) (node_at row') (length row) (same-node s) ∙ ap (tabulate (node_at row')) s.count

  pub nodes-same : nodes row ≡ nodes row' → SamePins row row'
  unfolding nodes
  nodes-same e =
      let n : length row ≡ length row' = sym (length-tabulate (node_at row) (length row)) ∙ ap length e ∙ length-tabulate (node_at row') (length row') in
      let at : (i : ℕ) → i < length row → node_at row i ≡ node_at row' i = λ i h.
      sym (get_d_tabulate (node_at row) (length row) i (node N 0) h) ∙ ap (λ l. get_or l i (node N 0)) e
      ∙ get_d_tabulate (node_at row') (length row') i (node N 0) (omega arith) in
      record {
        count = n;
        joins = λ i j hi hj.
            joined-nodes row i j hi hj ∙ ap₂ one-net (at i hi) (at j hj) ∙ sym (joined-nodes row' i j (omega arith) (omega arith));
        blanks = λ i h. blank-node row i ∙ ap (λ (m : Node). unjoined (kind m)) (at i h) ∙ sym (blank-node row' i);
      }

  -- two rows join the same pins exactly when the street rules see the same nodes
  pub pins-nodes : SamePins row row' ↔ (nodes row ≡ nodes row')
  pins-nodes = (same_nodes, nodes-same)

  -- rows that join the same pins get the same answer from the router, and the same bytes
  pub same-routing : SamePins row row' → (ku kl : ℕ) (work out : List ℕ) → routing row ku kl work out ≡ routing row' ku kl work out
  unfolding routing first_lone
  same-routing s ku kl work out =
      let lones : first_lone row ≡ first_lone row' =
      least-cong (lone row) (lone row') (length row) (same-lone s) ∙ ap (least (lone row')) s.count in
      ap₂ (λ n i. settle (refusal n i ku kl (length work) (length out)) (outcome ku kl (nodes row) (first ku kl (nodes row)))) s.count lones
      ∙ ap (λ ns. settle (refusal (length row') (first_lone row') ku kl (length work) (length out)) (outcome ku kl ns (first ku kl ns))) (same_nodes s)

  pub same-sheet : SamePins row row' → (ku kl : ℕ) → first_sheet row ku kl ≡ first_sheet row' ku kl
  unfolding first_sheet
  same-sheet s ku kl = ap (λ ns. sheet ku kl ns (settle (first ku kl ns) [])) (same_nodes s)
