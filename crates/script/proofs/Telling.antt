-- The plan grows node by node: after each, what is told so far goes before whatever tells the rest of the row.
use mathlib.Core.Path.{◌≡◌, refl, sym, ap, ap₂, subst, subst₂, ◌∙◌}
use mathlib.Core.Bool.{Bool, true, false, not}
use mathlib.Core.List.{List, [], ◌∷◌, ◌++◌, map, append-nil}
use Prim.Native.Nat.{ℕ, zero, suc, ◌-◌, ◌≤◌, ◌<◌}
use native.Mathlib.Omega.{arith}
use lib.ListN.{length, get_or, take, drop, set, length-set, length-map, length-drop, take-append-drop, drop_of_length-le}
use lib.Seq.{append_snoc, drop-cons, take-take, take-suc-set, length-take-le}
use lib.Dec.{eqb}
use borrow.Author.Tests.{eqb-true, ne_eqb}
use Rattle.rules.specs.Basic.{pick, cut}
use Rattle.rules.specs.Bits.{Below, nil, cons}
use Rattle.rules.specs.declared.Kind.{Kind}
use Rattle.rules.specs.declared.Kind.TheVariants.{B, M, E, N}
use Rattle.rules.specs.Row.{before, blank, home, later, Node, node, node_at, nodes, kind_of}
use Rattle.rules.specs.Street.{kind}
use Rattle.rules.proofs.Pins.{length-tabulate, get_d_tabulate, before-found, home-le}
use Rattle.rules.proofs.Fields.{below-mono}
use Rattle.steps.specs.declared.plan.Turn.{Turn}
use Rattle.steps.specs.declared.plan.Turn.TheVariants.{Begins}
use Rattle.steps.specs.Plan.{Step, step, touches, young, turn, Tells}
use Rattle.script.specs.Tabled.{noted, Tabled}
use Rattle.script.specs.Told.{kind_by, Turning, Turned, Full, Told}
use Rattle.std.specs.Prelude.{IsTrue}
use Rattle.script.proofs.Noting.{apart, begins-here, later-not-last}
use Rattle.rules.proofs.Renamed.{home-only, before-map}
use Rattle.script.proofs.Renaming.{turn-map, young-map}
use Rattle.script.proofs.Touched.{by_home, Kept, kept-none, kept_next, touched-open}

-- ---- nodes one by one

-- what is told of the nodes before i, with the nets o open there
record Going (row : List ℕ) (done : List Step) (i : ℕ) (o : List ℕ) : Type 0 where
  kept : Kept row i o
  goes : (ss : List Step) → Tells (drop i (nodes row)) o ss → Tells (nodes row) [] (done ++ ss)

going-none : (row : List ℕ) → Going row [] 0 []
going-none row = record { kept = kept-none row; goes = λ ss t. t }

length-nodes : (row : List ℕ) → length (nodes row) ≡ length row
unfolding nodes
length-nodes row = length-tabulate (node_at row) (length row)

rest : (row : List ℕ) (i : ℕ) → i < length row → drop i (nodes row) ≡ node_at row i ∷ drop (suc i) (nodes row)
unfolding nodes
rest row i h =
    drop-cons (nodes row) i (node B 0) (omega (arith, length-nodes row))
    ∙ ap {B = List Node} (λ n. n ∷ drop (suc i) (nodes row)) (get_d_tabulate (node_at row) (length row) i (node B 0) h)

module _ (row : List ℕ) (done : List Step) (i : ℕ) (o : List ℕ) (g : Going row done i o) where
  going_more : i < length row → (kind (node_at row i) ≡ B → length o < 6)
      → Going row (done ++ (step (turn (node_at row i) o) (length o) ∷ [])) (suc i) (young (node_at row i) o)
  going_more h room =
      let s : Step = step (turn (node_at row i) o) (length o) in
      record {
        kept = kept_next row i h o g.kept;
        goes = λ ss t. rw (append_snoc done s ss) (g.goes (s ∷ ss) (rw (rest row i h) (Tells.more room t)));
      }

  going-full : i < length row → kind (node_at row i) ≡ B → length o ≡ 6 → (ss : List Step) → length ss ≡ length row - suc i
      → Tells (nodes row) [] (done ++ (step Begins 6 ∷ ss))
  unfolding kind
  going-full h b six ss n = g.goes (step Begins 6 ∷ ss) (rw (rest row i h) (last (node_at row i) b))
    where
      last : (m : Node) → kind m ≡ B → Tells (m ∷ drop (suc i) (nodes row)) o (step Begins 6 ∷ ss)
      last (node k x) e = rw e (Tells.full {ns = drop (suc i) (nodes row)} {ss = ss} six (omega (arith, length-drop (suc i) (nodes row), length-nodes row)))

  going_end : i ≡ length row → Tells (nodes row) [] done
  going_end e =
      rw (append-nil done) at (g.goes [] (rw (drop_of_length-le (nodes row) {i = i} (omega (arith, length-nodes row))) Tells.nil))

-- ---- the plan's cells

-- the first nodes of open nets with these labels
abbrev homes : (row l : List ℕ) → List ℕ
homes row l = map (λ x. before x row) l

-- the plan of the nodes before i, where the nets with the labels l are open, youngest first
pub record Telling (row : List ℕ) (plan : List Step) (l : List ℕ) (i : ℕ) : Type 0 where
  pub upto : i ≤ length row
  pub cells : length plan ≡ 512
  begun : Below i (homes row l)
  going : Going row (take i plan) i (homes row l)

pub telling-none : (row : List ℕ) (plan : List Step) → length plan ≡ 512 → Telling row plan [] 0
telling-none row plan cells = record { upto = omega arith; cells = cells; begun = nil; going = going-none row }

pub telling-end : (row : List ℕ) (plan : List Step) (l : List ℕ) (i : ℕ) → Telling row plan l i → i ≡ length row → Told row plan
telling-end row plan l i t e = record { cells = t.cells; tells = rw (← e) (going_end row (take i plan) i (homes row l) t.going e) }

below-cut : {m : ℕ} {l : List ℕ} (k : ℕ) → Below m l → Below m (cut k l)
unfolding cut
below-cut k nil = nil
below-cut zero (cons b r) = r
below-cut (suc k) (cons b r) = cons b (below-cut k r)

-- what is above all of a list is not in it
above-absent : (x : ℕ) {l : List ℕ} → Below x l → length l ≤ before x l
unfolding before pick
above-absent x nil = omega arith
above-absent x (cons {x = y} b r) = rw (ne_eqb y x (λ e. omega arith)) (omega (arith, above-absent x r))

module _ (row first last : List ℕ) (plan : List Step) (l : List ℕ) (i : ℕ) (tabled : Tabled row first last) (few : length row ≤ 512)
    (t : Telling row plan l i) (h : i < length row) where
  x : ℕ
  x = get_or row i 0

  o : List ℕ
  o = homes row l

  k : Kind
  k = kind_by x (noted row first i) (noted row last i) (suc i)

  kind-told : k ≡ kind (node_at row i)
  unfolding k x kind_by blank node_at pick kind
  kind-told = go (blank row i)
    where
      go : (t : Bool)
          → pick t N (kind_of (eqb (noted row first i) (suc i)) (not (eqb (noted row last i) (suc i))))
          ≡ kind (pick t (node N i) (node (kind_of (eqb (home row i) i) (later row i)) (home row i)))
      go true = refl
      go false =
          ap₂ (λ (b l : Bool). kind_of b l) (begins-here row first last tabled i h) (sym (later-not-last row first last tabled i h))

  only : (y : ℕ) → before y row ≡ before x row → y ≡ x
  unfolding x
  only = home-only row x (omega (arith, before-found row i h))

  length_o : length o ≡ length l
  unfolding o
  length_o = length-map l (λ y. before y row)

  -- a net that begins here has its first node here
  own_home : k ≡ B → home row i ≡ i
  unfolding node_at pick kind kind_of
  own_home e = go (blank row i) (eqb (home row i) i) (later row i) refl (sym kind-told ∙ e)
    where
      go : (t f l : Bool) → eqb (home row i) i ≡ f → kind (pick t (node N i) (node (kind_of f l) (home row i))) ≡ B → home row i ≡ i
      go true f l p e = absurd (cc)
      go false true l p e = eqb-true (home row i) i p
      go false false true p e = absurd (cc)
      go false false false p e = absurd (cc)

  -- and one that goes on or ends is open
  own_open : IsTrue (touches k) → before (home row i) o < length o
  unfolding o node_at pick kind kind_of
  own_open touched = go (blank row i) (eqb (home row i) i) refl refl kind-told touched
    where
      go : (t f : Bool) → blank row i ≡ t → eqb (home row i) i ≡ f
          → k ≡ kind (pick t (node N i) (node (kind_of f (later row i)) (home row i))) → IsTrue (touches k) → before (home row i) o < length o
      go true f p q e z = absurd (apart true refl (sym z ∙ ap touches e))
      go false true p q e z = absurd (apart true refl (sym z ∙ ap touches e))
      go false false p q e z = touched-open row i h o t.going.kept p q

  -- what a node asks of the open nets
  pub telling-turning : Turning l (kind_by (get_or row i 0) (noted row first i) (noted row last i) (suc i)) (get_or row i 0)
  unfolding k x o home
  telling-turning =
      record {
        fresh = λ e.
            let own : before x row ≡ i = own_home e in
            let q : length o ≤ before (before x row) o = above-absent (before x row) (below-mono (omega arith) t.begun) in
            omega (arith, q, length_o, before-map (λ y. before y row) x only l);
        there = λ z. omega (arith, own_open z, length_o, before-map (λ y. before y row) x only l);
      }

  still-begun : (K : Kind) → Below (suc i) (young (node K (home row i)) o)
  unfolding young o
  still-begun B = cons {x = home row i} (omega (arith, home-le row i h)) (below-mono (omega arith) t.begun)
  still-begun M = below-mono (omega arith) t.begun
  still-begun E = below-cut (before (home row i) o) (below-mono (omega arith) t.begun)
  still-begun N = below-mono (omega arith) t.begun

  -- a blank's turn is the same whatever it is known by, and it leaves the open nets as they are
  turn-home : turn (node_at row i) o ≡ turn (node (kind (node_at row i)) (home row i)) o
  unfolding turn
  turn-home = by_home (λ n. turn n o) (λ y z. refl) row i

  young-home : young (node_at row i) o ≡ young (node (kind (node_at row i)) (home row i)) o
  unfolding young
  young-home = by_home (λ n. young n o) (λ y z. refl) row i

  -- a node on
  pub telling-more : (s : Step) (next : List ℕ)
      → Turned l (kind_by (get_or row i 0) (noted row first i) (noted row last i) (suc i)) (get_or row i 0) s next
      → Telling row (set plan i s) next (suc i)
  unfolding k x o home
  telling-more s next turned =
      let f : ℕ → ℕ = λ y. before y row in
      let K : Kind = kind (node_at row i) in
      let g = going_more row (take i plan) i o t.going h (λ e. omega (arith, length_o, turned.room (kind-told ∙ e))) in
      let told : step (turn (node_at row i) o) (length o) ≡ s =
      ap₂ (λ (q : Turn) (n : ℕ). step q n) (turn-home ∙ turn-map f x only K l) length_o
      ∙ ap (λ (j : Kind). step (turn (node j x) l) (length l)) (sym kind-told)
      ∙ sym turned.is in
      let opened : young (node_at row i) o ≡ homes row next =
      young-home ∙ young-map f x only K l ∙ ap (λ (j : Kind). map f (young (node j x) l)) (sym kind-told) ∙ ap (map f) (sym turned.list) in
      let done : take i plan ++ (step (turn (node_at row i) o) (length o) ∷ []) ≡ take (suc i) (set plan i s) =
      ap (λ (r : Step). take i plan ++ (r ∷ [])) told ∙ sym (take-suc-set plan i s (omega (arith, t.cells))) in
      record {
        upto = h;
        cells = length-set plan i s ∙ t.cells;
        begun = subst (λ (m : List ℕ). Below (suc i) m) (sym young-home ∙ opened) (still-begun K);
        going = subst₂ (λ (d : List Step) (m : List ℕ). Going row d (suc i) m) done opened g;
      }

  -- a node that begins a net and finds six open
  pub telling-full : Full l (kind_by (get_or row i 0) (noted row first i) (noted row last i) (suc i)) → Told row (set plan i (step Begins 6))
  unfolding k x o
  telling-full full =
      let n : ℕ = length row in
      let s : Step = step Begins 6 in
      let c : List Step = set plan i s in
      let ss : List Step = drop (suc i) (take n c) in
      let long : length (take n c) ≡ n = length-take-le n c (omega (arith, length-set plan i s, t.cells)) in
      let first : take (suc i) (take n c) ≡ take i plan ++ (s ∷ []) =
      take-take (suc i) n c h ∙ take-suc-set plan i s (omega (arith, t.cells)) in
      let all : take n c ≡ take i plan ++ (s ∷ ss) =
      sym (take-append-drop (suc i) (take n c)) ∙ ap (λ (l : List Step). l ++ ss) first ∙ append_snoc (take i plan) s ss in
      record {
        cells = length-set plan i s ∙ t.cells;
        tells =
            rw all
            (going-full row (take i plan) i o t.going h (sym kind-told ∙ full.begins) (length_o ∙ full.six) ss (omega (arith, length-drop (suc i) (take n c), long)));
      }
