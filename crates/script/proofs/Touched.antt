-- A net that a node goes on with or ends is open there, so that the plan of a row can be followed.
use mathlib.Core.Path.{◌≡◌, refl, sym, ap, ◌∙◌}
use mathlib.Core.Bool.{Bool, true, false}
use mathlib.Core.List.{List, [], ◌∷◌}
use Prim.Native.Nat.{ℕ, zero, suc, ◌+◌, ◌-◌, ◌≤◌, ◌<◌}
use native.Mathlib.Decide.{ℕ_discrete}
use native.Mathlib.Omega.{arith}
use lib.ListN.{length, get_or}
use lib.Dec.{eqb}
use borrow.Author.Tests.{eqb-false}
use Rattle.rules.specs.Basic.{pick, cut, tabulate}
use Rattle.rules.specs.declared.Kind.{Kind}
use Rattle.rules.specs.declared.Kind.TheVariants.{B, M, E, N}
use Rattle.rules.specs.Row.{before, blank, home, later, Node, node, node_at, nodes, kind_of}
use Rattle.rules.specs.Street.{kind}
use Rattle.rules.proofs.Pins.{at_before, home-le, label-home, node-blank, node-net}
use Rattle.rules.proofs.Lists.{length_cut}
use Rattle.rules.proofs.Legal.{New}
use Rattle.rules.proofs.Open.{one, one_same, one-other, times, times_cut, Ahead, ahead-later}
use Rattle.steps.specs.Plan.{Step, step, young, turn, Steps, Tells}
use Rattle.script.proofs.Noting.{apart}

-- what stands in a list is found in it
times-found : (x : ℕ) (o : List ℕ) → 0 < times x o → before x o < length o
unfolding times before pick one
times-found x [] h = absurd (omega arith)
times-found x (y ∷ o) h = go (eqb y x) h (times-found x o)
  where
    go : (b : Bool) → 0 < one b + times x o → (0 < times x o → before x o < length o) → pick b 0 (suc (before x o)) < suc (length o)
    go true h ih = omega arith
    go false h ih = omega (arith, ih (omega arith))

-- what says the same of all blanks says of node i what it says of its kind and the first node with its label
pub by_home : {A : Type 0} (f : Node → A) → ((x y : ℕ) → f (node N x) ≡ f (node N y)) → (row : List ℕ) (i : ℕ)
    → f (node_at row i) ≡ f (node (kind (node_at row i)) (home row i))
unfolding kind
by_home f same row i = go (blank row i) refl
  where
    go : (t : Bool) → blank row i ≡ t → f (node_at row i) ≡ f (node (kind (node_at row i)) (home row i))
    go true e = rw (node-blank row i e) (same i (home row i))
    go false e = rw (node-net row i e) refl

-- every net that began before node i and goes on at or after it stands in the list
abbrev pub Kept : List ℕ → ℕ → List ℕ → Type 0
Kept row i o = (j : ℕ) → j < i → blank row j ≡ false → Ahead row i j → 0 < times (home row j) o

pub kept-none : (row : List ℕ) → Kept row 0 []
kept-none row j h n a = absurd (omega arith)

module _ (row : List ℕ) (i : ℕ) (h : i < length row) (o : List ℕ) (kept : Kept row i o) where
  home-home : home row (home row i) ≡ home row i
  unfolding home
  home-home = ap (λ (x : ℕ). before x row) (label-home row i h)

  own-kept : blank row i ≡ false → eqb (home row i) i ≡ false → 0 < times (home row i) o
  unfolding blank
  own-kept n e =
      rw home-home at
      (kept (home row i) (omega (arith, home-le row i h, eqb-false (home row i) i e)) (ap (λ (x : ℕ). eqb x 255) (label-home row i h) ∙ n)
      (record { at = i; from = omega arith; within = h; label = sym (label-home row i h) }))

  -- a net that node i does not begin is open before it
  pub touched-open : blank row i ≡ false → eqb (home row i) i ≡ false → before (home row i) o < length o
  touched-open n e = times-found (home row i) o (own-kept n e)

  sooner : (j : ℕ) → Ahead row (suc i) j → Ahead row i j
  sooner j a = record { at = a.at; from = omega (arith, a.from); within = a.within; label = a.label }

  -- one node on
  pub kept_next : Kept row (suc i) (young (node_at row i) o)
  unfolding node_at pick kind_of young times
  kept_next = go (blank row i) (eqb (home row i) i) (later row i) refl refl refl
    where
      go : (t f l : Bool) → blank row i ≡ t → eqb (home row i) i ≡ f → later row i ≡ l
          → Kept row (suc i) (young (pick t (node N i) (node (kind_of f l) (home row i))) o)
      go true f l et ef el j b n a =
          let passed : j ≡ i → ⊥ = λ e. apart (blank row i) et (ap (blank row) (sym e) ∙ n) in
          kept j (omega arith) n (sooner j a)
      go false true l et ef el j b n a = begun (ℕ_discrete j i)
        where
          begun : Dec (j ≡ i) → 0 < one (eqb (home row i) (home row j)) + times (home row j) o
          begun (yes e) = rw (ap (home row) e, one_same (home row i)) (omega arith)
          begun (no d) = omega (arith, kept j (omega arith) n (sooner j a))
      go false false true et ef el j b n a = met (ℕ_discrete j i)
        where
          met : Dec (j ≡ i) → 0 < times (home row j) o
          met (yes e) = rw (ap (home row) e) (own-kept et ef)
          met (no d) = kept j (omega arith) n (sooner j a)
      go false false false et ef el j b n a =
          let k = before (home row i) o in
          let kl : k < length o = touched-open et ef in
          let cutted = rw (at_before (home row i) o kl) at (times_cut (home row j) k o kl) in
          omega (arith, cutted, one-other (home row j) (home row i) other, kept j passed n (sooner j a))
        where
          other : home row i ≡ home row j → ⊥
          other e =
              apart (later row i)
              (ahead-later row i
              (record {
                at = a.at;
                from = a.from;
                within = a.within;
                label = a.label ∙ sym (label-home row j (omega arith)) ∙ ap (λ (k : ℕ). get_or row k 0) (sym e) ∙ label-home row i h;
              }))
              el

          passed : j < i
          passed =
              let apart_of : j ≡ i → ⊥ = λ e. other (ap (home row) (sym e)) in
              omega arith

  -- the same, of the node
  pub node-open : (k : Kind) (x : ℕ) → (New k → ⊥) → node k x ≡ node_at row i → before x o < length o
  unfolding node_at pick kind_of
  node-open k x n = go (blank row i) (eqb (home row i) i) refl refl
    where
      go : (t f : Bool) → blank row i ≡ t → eqb (home row i) i ≡ f
          → node k x ≡ pick t (node N i) (node (kind_of f (later row i)) (home row i)) → before x o < length o
      go true f et ef e = let b : k ≡ N = cc in absurd (n (rw b tt))
      go false true et ef e = let b : k ≡ B = cc in absurd (n (rw b tt))
      go false false et ef e = let q : x ≡ home row i = cc in rw q (touched-open et ef)

-- ---- the nodes of a row from node i on

pub data From (row : List ℕ) : ℕ → List Node → Type 0 where
  nil : {i : ℕ} → From row i []
  cons : {i : ℕ} {n : Node} {ns : List Node} → i < length row → n ≡ node_at row i → From row (suc i) ns → From row i (n ∷ ns)

from-table : (row : List ℕ) (k i : ℕ) (f : ℕ → Node) → ((j : ℕ) → j < k → f j ≡ node_at row (i + j)) → i + k ≤ length row → From row i (tabulate f k)
unfolding tabulate
from-table row zero i f g h = nil
from-table row (suc k) i f g h =
    cons {i = i} (omega arith) (g 0 (omega arith) ∙ ap (node_at row) (omega arith))
    (from-table row k (suc i) (λ j. f (suc j)) (λ j l. g (suc j) (omega arith) ∙ ap (node_at row) (omega arith)) (omega arith))

pub from-nodes : (row : List ℕ) → From row 0 (nodes row)
unfolding nodes
from-nodes row = from-table row (length row) 0 (node_at row) (λ j l. ap (node_at row) (omega arith)) (omega arith)

-- ---- the plan can be followed

follow : (row : List ℕ) {i : ℕ} {ns : List Node} {o : List ℕ} {ss : List Step} → From row i ns → Kept row i o → length o ≤ 6 → Tells ns o ss → Steps (length o) ss
unfolding kind young turn
follow row nil kept few Tells.nil = Steps.nil few
follow row (cons h e r) kept few (Tells.full six long) = rw six Steps.full
follow row (cons {i} {n} h e r) kept few (Tells.more {o = o} {ss = ss} room t) =
    let kept' : Kept row (suc i) (young n o) = rw e (kept_next row i h o kept) in
    go n e room (λ f. follow row r kept' f t)
  where
    go : (n : Node) → n ≡ node_at row i → (kind n ≡ B → length o < 6) → (length (young n o) ≤ 6 → Steps (length (young n o)) ss)
        → Steps (length o) (step (turn n o) (length o) ∷ ss)
    go (node B x) e room rest = Steps.begins (room refl) (rest (room refl))
    go (node M x) e room rest = Steps.meets {a = before x o} {b = length o} (node-open row i h o kept M x (λ n. n) e) few (rest few)
    go (node E x) e room rest =
        let there : before x o < length o = node-open row i h o kept E x (λ n. n) e in
        let less : length (cut (before x o) o) ≡ length o - 1 = omega (arith, length_cut (before x o) o there) in
        Steps.ends {a = before x o} {b = length o} there few (rw less at (rest (omega arith)))
    go (node N x) e room rest = Steps.rests few (rest few)

-- steps that tell a row's nodes are steps that the passes can follow
pub tells-steps : (row : List ℕ) (ss : List Step) → Tells (nodes row) [] ss → Steps 0 ss
tells-steps row ss t = follow row (from-nodes row) (kept-none row) (omega arith) t
