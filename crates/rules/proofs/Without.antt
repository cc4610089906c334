-- Blanks change nothing else in a row: its first placing is, at the nodes that are no blanks, that of the row without them, and its failing node
-- is that of the row without them.
use mathlib.Core.Path.{◌≡◌, refl, sym, ap, ◌∙◌}
use mathlib.Core.Bool.{Bool, true, false, ◌&&◌}
use mathlib.Core.List.{List, [], ◌∷◌, map}
use mathlib.Core.Logic.{◌↔◌, ◌⊎◌, inl, inr}
use mathlib.Core.Option
use mathlib.Core.Option.{Option, none, some}
use Prim.Native.Nat.{ℕ, zero, suc, ◌+◌, ◌≤◌, ◌<◌}
use native.Mathlib.Nat.{eq-zero-or-pos, le_of_suc-le-suc, not-suc-le-zero}
use native.Mathlib.Omega.{arith}
use lib.ListN.{length, get_or, drop, take, length-map}
use lib.Seq.{length-take-le, get_or-take}
use lib.Dec.{eqb}
use borrow.Author.Tests.{eqb-true, eqb-false, eq-eqb, ne_eqb}
use Rattle.rules.specs.Basic.{pick, tabulate, keep, and_then}
use Rattle.rules.specs.declared.Kind.{Kind}
use Rattle.rules.specs.declared.Kind.TheVariants.{B, M, E, N}
use Rattle.rules.specs.Row.{before, has, blank, home, later, Node, node, node_at, nodes}
use Rattle.rules.specs.Street.{fits_at, counted, kind, stands, next, step, run, IsFirst, Passes, StopsAt}
use Rattle.rules.proofs.Pins.{length-tabulate, tabulate-cong, map-tabulate, unjoined, blank-node}
use Rattle.rules.proofs.Open.{one, one-other, times}
use Rattle.rules.proofs.GivenBack.{has_in, has-out}
use Rattle.rules.proofs.Renamed.{Only, before-map, next_map}
use Rattle.rules.proofs.Accepted.{length-nodes}
use Rattle.rules.proofs.Bare.{bare, bare_of, first-bare, stops-bare}

-- ---- nets under other names

unfoldable pub renamed : (ℕ → ℕ) → Node → Node
renamed f (node k x) = node k (f x)

take-map : (g : Node → Node) (i : ℕ) (ns : List Node) → take i (map g ns) ≡ map g (take i ns)
take-map g zero ns = refl
take-map g (suc i) [] = refl
take-map g (suc i) (n ∷ ns) = ap {B = List Node} (λ ms. g n ∷ ms) (take-map g i ns)

module _ (f : ℕ → ℕ) (only : (x : ℕ) → Only f x) (ku kl : ℕ) where
  stands-map : (k : Kind) (x : ℕ) (o : List ℕ) (p : ℕ) → stands (node k (f x)) (map f o) p ≡ stands (node k x) o p
  unfolding stands
  stands-map B x o p = refl
  stands-map M x o p = ap (λ j. eqb p (suc j)) (before-map f x (only x) o)
  stands-map E x o p = ap (λ j. eqb p (suc j)) (before-map f x (only x) o)
  stands-map N x o p = refl

  run-map : (ns : List Node) (o ps : List ℕ) → run ku kl (map (renamed f) ns) (map f o) ps ≡ Option.map (map f) (run ku kl ns o ps)
  unfolding run renamed step keep and_then kind
  run-map [] o [] = refl
  run-map [] o (p ∷ ps) = refl
  run-map (n ∷ ns) o [] = refl
  run-map (node k x ∷ ns) o (p ∷ ps) =
      let b : ℕ = counted k (length o) in
      rw (stands-map k x o p, length-map o f, next_map f x (only x) k o p) (go (stands (node k x) o p && fits_at k ku kl p b) (run-map ns (next (node k x) o p) ps))
    where
      go : (t : Bool) → run ku kl (map (renamed f) ns) (map f (next (node k x) o p)) ps ≡ Option.map (map f) (run ku kl ns (next (node k x) o p) ps)
          → and_then (keep t (map f (next (node k x) o p))) (λ o'. run ku kl (map (renamed f) ns) o' ps)
          ≡ Option.map (map f) (and_then (keep t (next (node k x) o p)) (λ o'. run ku kl ns o' ps))
      go true ih = ih
      go false ih = refl

  to-placing : (r : Option (List ℕ)) → Option.map (map f) r ≡ some [] → r ≡ some []
  to-placing none e = let z : ◌≡◌ {A = ℕ} 0 1 = cc in absurd (omega arith)
  to-placing (some []) e = refl
  to-placing (some (x ∷ w)) e = let z : ◌≡◌ {A = ℕ} 0 1 = cc in absurd (omega arith)

  first-map : (ns : List Node) (ps : List ℕ) → IsFirst ku kl (map (renamed f) ns) ps → IsFirst ku kl ns ps
  first-map ns ps h =
      record {
        placing = to-placing (run ku kl ns [] ps) (sym (run-map ns [] ps) ∙ h.placing);
        others = λ qs q. h.others qs (run-map ns [] qs ∙ ap (Option.map (map f)) q);
      }

  passes-map : (ns : List Node) → Passes ku kl (map (renamed f) ns) ↔ Passes ku kl ns
  passes-map ns = (λ h. to h (run ku kl ns [] h.ps) refl, from)
    where
      to : (h : Passes ku kl (map (renamed f) ns)) (r : Option (List ℕ)) → run ku kl ns [] h.ps ≡ r → Passes ku kl ns
      to h none e = let z : Option.map (map f) none ≡ some h.order = ap (Option.map (map f)) (sym e) ∙ sym (run-map ns [] h.ps) ∙ h.runs in
          let y : ◌≡◌ {A = ℕ} 0 1 = cc in absurd (omega arith)
      to h (some w) e = record { ps = h.ps; order = w; runs = e }

      from : Passes ku kl ns → Passes ku kl (map (renamed f) ns)
      from h = record { ps = h.ps; order = map f h.order; runs = run-map ns [] h.ps ∙ ap (Option.map (map f)) h.runs }

  stops-map : (ns : List Node) (i : ℕ) → StopsAt ku kl (map (renamed f) ns) i → StopsAt ku kl ns i
  stops-map ns i s =
      record {
        within = rw (length-map ns (renamed f)) at s.within;
        stuck = λ h. s.stuck (rw (take-map (renamed f) i ns) ((passes-map (take i ns)).1 h));
        sooner = λ j l. (passes-map (take j ns)).0 (rw (take-map (renamed f) j ns) at (s.sooner j l));
      }

-- ---- the row without its blanks

unfoldable pub without : List ℕ → List ℕ
without [] = []
without (x ∷ row) = pick (eqb x 255) (without row) (x ∷ without row)

behind : (ℕ → ℕ) → ℕ → ℕ
behind f zero = 0
behind f (suc j) = suc (f j)

-- where the node with j before it in the row without blanks stands in the row
pub place : List ℕ → ℕ → ℕ
place [] = λ j. j
place (x ∷ row) = λ j. pick (eqb x 255) (suc (place row j)) (behind (place row) j)

place-only : (row : List ℕ) (x : ℕ) → Only (place row) x
unfolding place behind pick
place-only [] x y e = e
place-only (z ∷ row) x y e = go (eqb z 255) x y (place-only row) e
  where
    go : (t : Bool) (x y : ℕ) → ((x : ℕ) → Only (place row) x) → pick t (suc (place row y)) (behind (place row) y) ≡ pick t (suc (place row x)) (behind (place row) x)
        → y ≡ x
    go true x y ih e = ih x y (omega arith)
    go false zero zero ih e = refl
    go false zero (suc y) ih e = absurd (omega arith)
    go false (suc x) zero ih e = absurd (omega arith)
    go false (suc x) (suc y) ih e = ap suc (ih x y (omega arith))

before-place : (y : ℕ) → (y ≡ 255 → ⊥) → (row : List ℕ) → before y row ≡ place row (before y (without row))
unfolding before without place behind pick
before-place y n [] = refl
before-place y n (x ∷ row) = go (eqb x 255) (eqb x y) refl refl (before-place y n row)
  where
    go : (t u : Bool) → eqb x 255 ≡ t → eqb x y ≡ u → before y row ≡ place row (before y (without row))
        → pick u 0 (suc (before y row))
        ≡ pick t (suc (place row (before y (pick t (without row) (x ∷ without row))))) (behind (place row) (before y (pick t (without row) (x ∷ without row))))
    go true true et eu ih = absurd (n (sym (eqb-true x y eu) ∙ eqb-true x 255 et))
    go true false et eu ih = ap suc ih
    go false true et eu ih = rw eu
    go false false et eu ih = rw eu (ap suc ih)

times-without : (y : ℕ) → (y ≡ 255 → ⊥) → (l : List ℕ) → times y (without l) ≡ times y l
unfolding times without pick
times-without y n [] = refl
times-without y n (x ∷ l) = go (eqb x 255) refl (times-without y n l)
  where
    go : (t : Bool) → eqb x 255 ≡ t → times y (without l) ≡ times y l → times y (pick t (without l) (x ∷ without l)) ≡ one (eqb x y) + times y l
    go true e ih = omega (arith, one-other y x (λ (q : x ≡ y). n (sym q ∙ eqb-true x 255 e)))
    go false e ih = omega arith

has-without : (y : ℕ) → (y ≡ 255 → ⊥) → (l : List ℕ) → has y l ≡ has y (without l)
has-without y n l = go (eq-zero-or-pos (times y l))
  where
    go : (times y l ≡ 0) ⊎ (0 < times y l) → has y l ≡ has y (without l)
    go (inl z) = has-out y l z ∙ sym (has-out y (without l) (times-without y n l ∙ z))
    go (inr t) = has_in y l t ∙ sym (has_in y (without l) (rw (times-without y n l) t))

-- what stands there, and behind it
record Stood (row : List ℕ) (j : ℕ) : Type 0 where
  label : get_or row (place row j) 0 ≡ get_or (without row) j 0
  net : get_or (without row) j 0 ≡ 255 → ⊥
  rest : without (drop (suc (place row j)) row) ≡ drop (suc j) (without row)

stood-at : (row : List ℕ) (j : ℕ) → j < length (without row) → Stood row j
unfolding without place behind pick
stood-at [] j h = absurd (not-suc-le-zero h)
stood-at (x ∷ row) j h = go (eqb x 255) refl j h (stood-at row)
  where
    go : (t : Bool) → eqb x 255 ≡ t → (j : ℕ) → j < length (pick t (without row) (x ∷ without row)) → ((i : ℕ) → i < length (without row) → Stood row i)
        → Stood (x ∷ row) j
    go true e j h ih = let s = ih j h in record { label = rw e s.label; net = rw e s.net; rest = rw e s.rest }
    go false e zero h ih = record { label = rw e; net = rw e (eqb-false x 255 e); rest = rw e }
    go false e (suc j) h ih =
        let s = ih j (le_of_suc-le-suc h) in record { label = rw e s.label; net = rw e s.net; rest = rw e s.rest }

module _ (row : List ℕ) where
  -- a node that is no blank, known by its place
  node-place : (j : ℕ) → j < length (without row) → node_at row (place row j) ≡ renamed (place row) (node_at (without row) j)
  unfolding node_at blank home later pick renamed
  node-place j h =
      let s = stood-at row j h in
      let y : ℕ = get_or (without row) j 0 in
      let b : eqb y 255 ≡ false = ne_eqb y 255 s.net in
      let e : before y row ≡ place row (before y (without row)) = before-place y s.net row in
      let l : has y (drop (suc (place row j)) row) ≡ has y (drop (suc j) (without row)) =
      has-without y s.net (drop (suc (place row j)) row) ∙ ap (has y) s.rest in
      rw (s.label, b, e, l, same (before y (without row)) j)
    where
      same : (x j : ℕ) → eqb (place row x) (place row j) ≡ eqb x j
      same x j = go (eqb x j) refl
        where
          go : (t : Bool) → eqb x j ≡ t → eqb (place row x) (place row j) ≡ t
          go true e = eq-eqb (place row x) (place row j) (ap (place row) (eqb-true x j e))
          go false e = ne_eqb (place row x) (place row j) (λ q. eqb-false x j e (place-only row j x q))

bare-blank : (n : Node) (ns : List Node) → unjoined (kind n) ≡ true → bare (n ∷ ns) ≡ bare ns
unfolding bare unjoined kind
bare-blank (node B x) ns e = let z : ◌≡◌ {A = ℕ} 0 1 = cc in absurd (omega arith)
bare-blank (node M x) ns e = let z : ◌≡◌ {A = ℕ} 0 1 = cc in absurd (omega arith)
bare-blank (node E x) ns e = let z : ◌≡◌ {A = ℕ} 0 1 = cc in absurd (omega arith)
bare-blank (node N x) ns e = refl

bare-net : (n : Node) (ns : List Node) → unjoined (kind n) ≡ false → bare (n ∷ ns) ≡ n ∷ bare ns
unfolding bare unjoined kind
bare-net (node B x) ns e = refl
bare-net (node M x) ns e = refl
bare-net (node E x) ns e = refl
bare-net (node N x) ns e = let z : ◌≡◌ {A = ℕ} 0 1 = cc in absurd (omega arith)

bare-tabulate : (l : List ℕ) (f : ℕ → Node) → ((j : ℕ) → j < length l → unjoined (kind (f j)) ≡ eqb (get_or l j 0) 255)
    → bare (tabulate f (length l)) ≡ tabulate (λ j. f (place l j)) (length (without l))
unfolding bare tabulate without place behind pick
bare-tabulate [] f h = refl
bare-tabulate (x ∷ l) f h = go (eqb x 255) refl (bare-tabulate l (λ j. f (suc j)) (λ j k. h (suc j) (omega arith)))
  where
    ns : List Node
    ns = tabulate (λ j. f (suc j)) (length l)

    go : (t : Bool) → eqb x 255 ≡ t → bare ns ≡ tabulate (λ j. f (suc (place l j))) (length (without l))
        → bare (f 0 ∷ ns) ≡ tabulate (λ j. f (pick t (suc (place l j)) (behind (place l) j))) (length (pick t (without l) (x ∷ without l)))
    go true e ih = bare-blank (f 0) ns (h 0 (omega arith) ∙ e) ∙ ih
    go false e ih = bare-net (f 0) ns (h 0 (omega arith) ∙ e) ∙ ap {B = List Node} (λ ms. f 0 ∷ ms) ih

-- the nodes of a row that are no blanks are those of the row without blanks, known by their places
pub bare-nodes : (row : List ℕ) → bare (nodes row) ≡ map (renamed (place row)) (nodes (without row))
unfolding nodes blank
bare-nodes row =
    bare-tabulate row (node_at row) (λ j h. sym (blank-node row j))
    ∙ tabulate-cong (λ j. node_at row (place row j)) (λ j. renamed (place row) (node_at (without row) j)) (length (without row)) (node-place row)
    ∙ sym (map-tabulate (renamed (place row)) (node_at (without row)) (length (without row)))

take-tabulate : (f : ℕ → Node) (n j : ℕ) → j ≤ n → take j (tabulate f n) ≡ tabulate f j
unfolding tabulate
take-tabulate f n zero h = refl
take-tabulate f zero (suc j) h = absurd (not-suc-le-zero h)
take-tabulate f (suc n) (suc j) h = ap {B = List Node} (λ ms. f 0 ∷ ms) (take-tabulate (λ i. f (suc i)) n j (le_of_suc-le-suc h))

-- the first nodes of a row that are no blanks, counted
bare-count : (row : List ℕ) (j : ℕ) → j ≤ length row → length (bare (take j (nodes row))) ≡ length (without (take j row))
unfolding nodes blank
bare-count row j h =
    let l : List ℕ = take j row in
    let n : length l ≡ j = length-take-le j row h in
    ap (λ ms. length (bare ms)) (take-tabulate (node_at row) (length row) j h ∙ ap (tabulate (node_at row)) (sym n))
    ∙ ap length (bare-tabulate l (node_at row) (λ i k. sym (blank-node row i) ∙ ap (λ y. eqb y 255) (sym (get_or-take j row i 0 (omega arith)))))
    ∙ length-tabulate (λ i. node_at row (place l i)) (length (without l))

module _ (ku kl : ℕ) (row : List ℕ) where
  -- p at each node that is no blank is that of the row without blanks
  pub first-without : (ps : List ℕ) → IsFirst ku kl (nodes row) ps → IsFirst ku kl (nodes (without row)) (bare_of (nodes row) ps)
  first-without ps f =
      first-map (place row) (place-only row) ku kl (nodes (without row)) (bare_of (nodes row) ps) (rw (bare-nodes row) at (first-bare ku kl (nodes row) ps f))

  -- and the failing node is the same node of it
  pub stops-without : (i : ℕ) → StopsAt ku kl (nodes row) (suc i) → StopsAt ku kl (nodes (without row)) (length (without (take (suc i) row)))
  stops-without i s =
      let n : length (bare (take (suc i) (nodes row))) ≡ length (without (take (suc i) row)) = bare-count row (suc i) (rw (length-nodes row) at s.within) in
      let t : StopsAt ku kl (bare (nodes row)) (length (without (take (suc i) row))) = rw n at (stops-bare ku kl (nodes row) i s) in
      stops-map (place row) (place-only row) ku kl (nodes (without row)) (length (without (take (suc i) row))) (rw (bare-nodes row) at t)
