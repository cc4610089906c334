-- An order that a row's nodes lead to holds open nets alone, each once; so it is empty after the last node of a row without lone labels.
use mathlib.Core.Path.{◌≡◌, refl, sym, ap, ◌∙◌}
use mathlib.Core.Bool.{Bool, true, false, not, ◌&&◌}
use mathlib.Core.List.{List, [], ◌∷◌}
use mathlib.Core.Logic.{◌⊎◌, inl, inr}
use mathlib.Core.Option.{some}
use Prim.Native.Nat.{ℕ, zero, suc, ◌+◌, ◌-◌, ◌≤◌, ◌<◌}
use native.Mathlib.Nat.{le_of_suc-le-suc, not-suc-le-zero, zero-add, eq-zero-or-pos}
use native.Mathlib.Omega.{arith}
use lib.ListN.{length, get_or, drop, length-drop}
use lib.Seq.{get_or-drop}
use lib.Dec.{T, eqb, eqb→eq}
use borrow.Author.Tests.{eqb-true, eqb-false, eq-eqb, ne_eqb, ltb-true, lt-ltb}
use Rattle.rules.specs.Basic.{pick, put, cut, tabulate, keep, and_then}
use Rattle.rules.specs.declared.Kind.TheVariants.{N}
use Rattle.rules.specs.Row.{before, has, blank, home, later, lone, Node, node, node_at, nodes, kind_of}
use Rattle.rules.specs.Street.{step, run, stands, last, fits_at, counted, kind, next}
use Rattle.rules.proofs.Fits.{FitsAt, fits_at→}
use Rattle.rules.proofs.Pins.{at_before, before-found, label-home}

-- 1 where a test passes
unfoldable pub one : Bool → ℕ
one true = 1
one false = 0

pub one_same : (x : ℕ) → one (eqb x x) ≡ 1
unfolding one
one_same x = rw (eq-eqb x x refl)

pub one-other : (x y : ℕ) → (y ≡ x → ⊥) → one (eqb y x) ≡ 0
unfolding one
one-other x y n = rw (ne_eqb y x n)

-- how often x stands in a list
unfoldable pub times : ℕ → List ℕ → ℕ
times x [] = 0
times x (y ∷ l) = one (eqb y x) + times x l

pub times-put : (x k y : ℕ) (o : List ℕ) → times x (put k y o) ≡ one (eqb y x) + times x o
unfolding times put
times-put x zero y o = refl
times-put x (suc k) y [] = refl
times-put x (suc k) y (z ∷ o) = omega (arith, times-put x k y o)

pub times_cut : (x k : ℕ) (o : List ℕ) → k < length o → one (eqb (get_or o k 0) x) + times x (cut k o) ≡ times x o
unfolding times cut
times_cut x k [] h = absurd (not-suc-le-zero h)
times_cut x zero (y ∷ o) h = refl
times_cut x (suc k) (y ∷ o) h = omega (arith, times_cut x k o (le_of_suc-le-suc h))

pub times_none : (l : List ℕ) → ((x : ℕ) → times x l ≡ 0) → l ≡ []
unfolding times
times_none [] h = refl
times_none (y ∷ l) h = absurd (omega (arith, h y, one_same y))

-- a node at or after i carries node x's label
pub record Ahead (row : List ℕ) (i x : ℕ) : Type 0 where
  pub at : ℕ
  pub from : i ≤ at
  pub within : at < length row
  pub label : get_or row at 0 ≡ get_or row x 0

pub later-ahead : (row : List ℕ) (i : ℕ) → later row i ≡ true → Ahead row (suc i) i
unfolding later has
later-ahead row i e =
    let k : ℕ = before (get_or row i 0) (drop (suc i) row) in
    let h : k < length (drop (suc i) row) = ltb-true k (length (drop (suc i) row)) e in
    record {
      at = suc i + k;
      from = omega arith;
      within = omega (arith, length-drop (suc i) row);
      label = sym (get_or-drop (suc i) row k 0) ∙ at_before (get_or row i 0) (drop (suc i) row) h;
    }

pub ahead-later : (row : List ℕ) (i : ℕ) → Ahead row (suc i) i → later row i ≡ true
unfolding later has
ahead-later row i a =
    let k : ℕ = a.at - suc i in
    let e : get_or (drop (suc i) row) k 0 ≡ get_or row i 0 =
    get_or-drop (suc i) row k 0 ∙ ap (λ m. get_or row m 0) (omega arith) ∙ a.label in
    let h : before (get_or row i 0) (drop (suc i) row) ≤ k = rw e at (before-found (drop (suc i) row) k (omega (arith, length-drop (suc i) row))) in
    lt-ltb (before (get_or row i 0) (drop (suc i) row)) (length (drop (suc i) row)) (omega (arith, length-drop (suc i) row))

-- net x stands t times in an order after i nodes: at most once, and then it is no blank, began before node i and goes on at or after it
pub record Stays (row : List ℕ) (i x t : ℕ) : Type 0 where
  pub once : t ≤ 1
  pub past : 0 < t → x < i
  pub own : 0 < t → home row x ≡ x
  pub named : 0 < t → blank row x ≡ false
  pub ahead : 0 < t → Ahead row i x

-- an order after i nodes holds open nets alone, each once
abbrev pub Held : List ℕ → ℕ → List ℕ → Type 0
Held row i o = (x : ℕ) → Stays row i x (times x o)

-- a net that goes on at or after i goes on after i, where node i is not its own
onward-of : (row : List ℕ) (i x : ℕ) → Ahead row i x → (get_or row i 0 ≡ get_or row x 0 → ⊥) → Ahead row (suc i) x
onward-of row i x a n = go (eqb i a.at) refl
  where
    go : (t : Bool) → eqb i a.at ≡ t → Ahead row (suc i) x
    go true e = absurd (n (ap (λ k. get_or row k 0) (eqb-true i a.at e) ∙ a.label))
    go false e = record { at = a.at; from = omega (arith, eqb-false i a.at e); within = a.within; label = a.label }

absent : (row : List ℕ) (i x : ℕ) → Stays row i x 0
absent row i x = record { once = omega arith; past = λ t. absurd (omega arith); own = λ t. absurd (omega arith); named = λ t. absurd (omega arith); ahead = λ t. absurd (omega arith) }

module _ (row : List ℕ) (i : ℕ) (h : i < length row) (o : List ℕ) (held : Held row i o) where
  -- another net stays as it is after node i
  others : (x : ℕ) → (0 < times x o → home row i ≡ x → ⊥) → Stays row (suc i) x (times x o)
  unfolding home
  others x n =
      record {
        once = (held x).once;
        past = λ t. omega (arith, (held x).past t);
        own = (held x).own;
        named = (held x).named;
        ahead = λ t. onward-of row i x ((held x).ahead t) (λ e. n t (ap (λ y. before y row) e ∙ (held x).own t));
      }

  begins : blank row i ≡ false → home row i ≡ i → later row i ≡ true → (k : ℕ) → Held row (suc i) (put k (home row i) o)
  unfolding one
  begins n e l k x = go (eqb (home row i) x) refl
    where
      fresh : (y : ℕ) → y ≡ i → (times y o ≡ 0) ⊎ (0 < times y o) → one true + times y o ≤ 1
      fresh y y≡ (inl z) = omega arith
      fresh y y≡ (inr t) = absurd (omega (arith, (held y).past t))

      go : (b : Bool) → eqb (home row i) x ≡ b → Stays row (suc i) x (times x (put k (home row i) o))
      go true q =
          let x≡ : x ≡ i = sym (eqb-true (home row i) x q) ∙ e in
          rw (times-put x k (home row i) o, q)
          (record { once = fresh x x≡ (eq-zero-or-pos (times x o)); past = λ t. omega arith; own = λ t. ap (home row) x≡ ∙ e ∙ sym x≡; named = λ t. ap (blank row) x≡ ∙ n; ahead = λ t. rw x≡ (later-ahead row i l) })
      go false q = rw (times-put x k (home row i) o, one-other x (home row i) (eqb-false (home row i) x q), zero-add (times x o)) (others x (λ t. eqb-false (home row i) x q))

  meets : later row i ≡ true → Held row (suc i) o
  meets l x = go (eqb (home row i) x) refl
    where
      go : (b : Bool) → eqb (home row i) x ≡ b → Stays row (suc i) x (times x o)
      go true q =
          let a = later-ahead row i l in
          record {
            once = (held x).once;
            past = λ t. omega (arith, (held x).past t);
            own = (held x).own;
            named = (held x).named;
            ahead = λ t.
                record {
                  at = a.at;
                  from = a.from;
                  within = a.within;
                  label = a.label ∙ sym (label-home row i h) ∙ ap (λ k. get_or row k 0) (eqb-true (home row i) x q);
                };
          }
      go false q = others x (λ t. eqb-false (home row i) x q)

  ends : before (home row i) o < length o → Held row (suc i) (cut (before (home row i) o) o)
  unfolding one
  ends l x = go (eqb (home row i) x) refl
    where
      k : ℕ
      k = before (home row i) o

      taken : one (eqb (home row i) x) + times x (cut k o) ≡ times x o
      taken = rw (at_before (home row i) o l) at (times_cut x k o l)

      go : (b : Bool) → eqb (home row i) x ≡ b → Stays row (suc i) x (times x (cut k o))
      go true q =
          let z : times x (cut k o) ≡ 0 = omega (arith, rw q at taken, (held x).once) in
          rw z (absent row (suc i) x)
      go false q =
          let z : times x (cut k o) ≡ times x o = omega (arith, rw q at taken) in
          rw z (others x (λ t. eqb-false (home row i) x q))

  -- a blank is no net's
  passes : blank row i ≡ true → Held row (suc i) o
  unfolding blank
  passes e x =
      others x (λ t q. eqb-false (get_or row x 0) 255 ((held x).named t)
      (ap (λ k. get_or row k 0) (sym q) ∙ label-home row i h ∙ eqb-true (get_or row i 0) 255 e))

  -- one node on, in a row where it is not lone
  pub held_next : lone row i ≡ false → (p : ℕ) → T (stands (node_at row i) o p) → p ≤ last (kind (node_at row i)) (counted (kind (node_at row i)) (length o))
      → Held row (suc i) (next (node_at row i) o p)
  unfolding node_at lone kind_of pick stands last counted kind next
  held_next n p = go (blank row i) (eqb (home row i) i) (later row i) refl refl refl n
    where
      at : (t f l : Bool) → Node
      at t f l = pick t (node N i) (node (kind_of f l) (home row i))

      go : (t f l : Bool) → blank row i ≡ t → eqb (home row i) i ≡ f → later row i ≡ l → not t && f && not l ≡ false
          → T (stands (at t f l) o p) → p ≤ last (kind (at t f l)) (counted (kind (at t f l)) (length o))
          → Held row (suc i) (next (at t f l) o p)
      go true f l et ef el n s b = passes et
      go false true true et ef el n s b = begins et (eqb-true (home row i) i ef) el (p - 1)
      go false true false et ef el n s b = let z : ◌≡◌ {A = ℕ} 0 1 = cc in absurd (omega arith)
      go false false true et ef el n s b = meets el
      go false false false et ef el n s b =
          let e : p ≡ suc (before (home row i) o) = eqb→eq p (suc (before (home row i) o)) s in
          let k : p - 1 ≡ before (home row i) o = omega arith in
          rw k (ends (omega arith))

-- a run to the order w goes on from its first node to w
pub record Onto (ku kl : ℕ) (n : Node) (ns : List Node) (o : List ℕ) (p : ℕ) (ps w : List ℕ) : Type 0 where
  pub stood : T (stands n o p)
  pub fitted : FitsAt (kind n) ku kl p (counted (kind n) (length o))
  pub rest : run ku kl ns (next n o p) ps ≡ some w

pub onto : (ku kl : ℕ) (n : Node) (ns : List Node) (o : List ℕ) (p : ℕ) (ps w : List ℕ) → run ku kl (n ∷ ns) o (p ∷ ps) ≡ some w
    → Onto ku kl n ns o p ps w
unfolding run step keep and_then
onto ku kl n ns o p ps w e = go (stands n o p) (fits_at (kind n) ku kl p (counted (kind n) (length o))) refl refl e
  where
    go : (s f : Bool) → stands n o p ≡ s → fits_at (kind n) ku kl p (counted (kind n) (length o)) ≡ f
        → and_then (keep (s && f) (next n o p)) (λ o'. run ku kl ns o' ps) ≡ some w → Onto ku kl n ns o p ps w
    go true true es ef e = record { stood = rw es tt; fitted = fits_at→ ku kl p (counted (kind n) (length o)) (kind n) (rw ef tt); rest = e }
    go true false es ef e = let z : ◌≡◌ {A = ℕ} 0 1 = cc in absurd (omega arith)
    go false f es ef e = let z : ◌≡◌ {A = ℕ} 0 1 = cc in absurd (omega arith)

module _ (ku kl : ℕ) (row : List ℕ) (whole : (i : ℕ) → i < length row → lone row i ≡ false) where
  held-run : (k i : ℕ) (f : ℕ → Node) → ((j : ℕ) → j < k → f j ≡ node_at row (i + j)) → i + k ≡ length row → (o ps w : List ℕ)
      → Held row i o → run ku kl (tabulate f k) o ps ≡ some w → Held row (length row) w
  unfolding tabulate run
  held-run zero i f g n o [] w held e =
      let i≡ : i ≡ length row = omega arith in
      let o≡ : o ≡ w = cc in
      rw (← i≡, ← o≡) held
  held-run zero i f g n o (p ∷ ps) w held e = let z : ◌≡◌ {A = ℕ} 0 1 = cc in absurd (omega arith)
  held-run (suc k) i f g n o [] w held e = let z : ◌≡◌ {A = ℕ} 0 1 = cc in absurd (omega arith)
  held-run (suc k) i f g n o (p ∷ ps) w held e =
      let a = onto ku kl (f 0) (tabulate (λ j. f (suc j)) k) o p ps w e in
      let f≡ : f 0 ≡ node_at row i = g 0 (omega arith) ∙ ap (node_at row) (omega arith) in
      held-run k (suc i) (λ j. f (suc j)) (λ j l. g (suc j) (omega arith) ∙ ap (node_at row) (omega arith)) (omega arith) (next (f 0) o p) ps w
      (rw f≡ (held_next row i (omega arith) o held (whole i (omega arith)) p (rw f≡ at a.stood) (rw f≡ at a.fitted.high)))
      a.rest

  -- every run through all nodes of a row without lone labels ends with no net open
  pub ends-empty : (ps w : List ℕ) → run ku kl (nodes row) [] ps ≡ some w → w ≡ []
  unfolding nodes times
  ends-empty ps w e =
      times_none w (λ x. none_left x (held-run (length row) 0 (node_at row) (λ j l. ap (node_at row) (omega arith)) (omega arith) [] ps w (λ x. absent row 0 x) e x))
    where
      none_left : (x : ℕ) → Stays row (length row) x (times x w) → times x w ≡ 0
      none_left x s = go (eq-zero-or-pos (times x w))
        where
          go : (times x w ≡ 0) ⊎ (0 < times x w) → times x w ≡ 0
          go (inl z) = z
          go (inr t) = let a = s.ahead t in absurd (omega (arith, a.from, a.within))
