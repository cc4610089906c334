-- The last pass holds the order that its rank stands for, with labels for nets: each hop from the rank is a step of the street rules from that order.
use mathlib.Core.Path.{◌≡◌, refl, sym, ap, ap₂, ◌∙◌}
use mathlib.Core.Bool.{true, false}
use mathlib.Core.List.{List, [], ◌∷◌, ◌++◌, map, map-append}
use mathlib.Core.Option
use mathlib.Core.Option.{some}
use Prim.Native.Nat.{ℕ, suc, ◌≤◌, ◌<◌}
use native.Mathlib.Nat.{suc_inj}
use native.Mathlib.Omega.{arith}
use lib.ListN.{length, get_or, take, length-map, get_or-map}
use lib.Seq.{take-suc}
use lib.Dec.{T, eqb→eq}
use Rattle.rules.specs.Basic.{and_then}
use Rattle.rules.specs.declared.Kind.{Kind}
use Rattle.rules.specs.declared.Kind.TheVariants.{B, M, E, N}
use Rattle.rules.specs.Row.{before, home, lone, Node, node, node_at, nodes}
use Rattle.rules.specs.Street.{last, counted, stands, next, kind, run}
use Rattle.rules.proofs.Runs.{runs-length, run-append, at-ends}
use Rattle.rules.proofs.Pins.{before-found, get_d_tabulate}
use Rattle.rules.proofs.Open.{Onto, onto}
use Rattle.rules.proofs.Renamed.{Only, before-map, next_map, home-only}
use Rattle.rules.proofs.Accepted.{length-nodes}
use Rattle.std.specs.Prelude.{IsTrue}
use Rattle.steps.specs.Plan.{Step, turn_kind, touches, Steps, Tells}
use Rattle.orders.proofs.Nodes.{none}
use Rattle.steps.specs.Ranks.{order_of, hop_of, hops}
use Rattle.orders.proofs.Ways.{hops-start, hop-last}
use Rattle.script.proofs.Touched.{by_home}
use Rattle.script.specs.Told.{kinds}
use Rattle.router.specs.Walk.{Placed}
use Rattle.router.proofs.Bridge.{youngs, runs-as-hops, length-told}

-- a label's first node
abbrev home_in : List ℕ → ℕ → ℕ
home_in row x = before x row

-- after i nodes: some positions lead to rank r, and in the street to the order that is held
pub record Holding (ku kl : ℕ) (row : List ℕ) (ss : List Step) (held : List ℕ) (i r : ℕ) : Type 0 where
  pub ps : List ℕ
  pub hopped : hops ku kl (take i ss) 0 ps ≡ some r
  pub runs : run ku kl (take i (nodes row)) [] (map suc ps) ≡ some (map (home_in row) held)

-- the kind of node i
abbrev pub kind_at : List ℕ → ℕ → Kind
kind_at row i = kind (node_at row i)

-- a net that is touched stands where the order has it
touched : (k : Kind) (y p : ℕ) (o : List ℕ) → IsTrue (touches k) → T (stands (node k y) o (suc p)) → suc p ≤ last k (counted k (length o))
    → (p ≡ before y o) × (suc p ≤ length o)
unfolding stands last counted
touched B y p o h t b = absurd (cc)
touched M y p o h t b = (suc_inj (eqb→eq (suc p) (suc (before y o)) t), b)
touched E y p o h t b = (suc_inj (eqb→eq (suc p) (suc (before y o)) t), b)
touched N y p o h t b = absurd (cc)

-- a net that begins is counted, and has a position for each
opened : (k : Kind) (b : ℕ) → k ≡ B → (counted k b ≡ suc b) × (last k (counted k b) ≡ suc b)
unfolding last counted
opened k b e = rw e (refl, refl)

-- the kind of node i, where steps have the kinds of the nodes
pub kind-told : (row : List ℕ) (ss : List Step) (i : ℕ) → i < length row → kinds ss ≡ map kind (nodes row) → turn_kind (get_or ss i none).turn ≡ kind_at row i
unfolding nodes kind
kind-told row ss i h told =
    sym (get_or-map (λ (s : Step). turn_kind s.turn) ss i none)
    ∙ ap (λ (l : List Kind). get_or l i B) told
    ∙ get_or-map kind (nodes row) i (node B 0)
    ∙ ap kind (get_d_tabulate (node_at row) (length row) i (node B 0) h)

module _ (ku kl : ℕ) (hu : ku ≤ 3) (hl : kl ≤ 3) (row : List ℕ) (whole : (i : ℕ) → i < length row → lone row i ≡ false) {ss : List Step}
    (tells : Tells (nodes row) [] ss) (plan : Steps 0 ss) where
  pub holding-none : (held : List ℕ) → held ≡ [] → Holding ku kl row ss held 0 0
  unfolding run
  holding-none held e =
      record { ps = []; hopped = hops-start ku kl 0; runs = rw e }

  module _ {held : List ℕ} (i r : ℕ) (w : Holding ku kl row ss held i r) (h : i < length row) (p y : ℕ)
      (hop : hop_of ku kl (get_or ss i none) r p ≡ some y) where
    abbrev x : ℕ
    x = get_or row i 0

    abbrev n : Node
    n = node_at row i

    abbrev k : Kind
    k = kind_at row i

    abbrev o : List ℕ
    o = map (home_in row) held

    hopped : hops ku kl (take (suc i) ss) 0 (w.ps ++ (p ∷ [])) ≡ some y
    hopped =
        rw (take-suc ss i none (omega (arith, length-told ku kl hu hl row whole tells plan tells, length-nodes row)))
        (hop-last ku kl (take i ss) (get_or ss i none) 0 y r p w.ps w.hopped hop)

    after : List ℕ
    after = order_of (youngs (take (suc i) (nodes row)) []) y

    node-i : take (suc i) (nodes row) ≡ take i (nodes row) ++ (n ∷ [])
    unfolding nodes
    node-i =
        take-suc (nodes row) i (node_at row i) (omega (arith, length-nodes row))
        ∙ ap (λ m. take i (nodes row) ++ (m ∷ [])) (get_d_tabulate (node_at row) (length row) i (node_at row i) h)

    runs_on : run ku kl (take i (nodes row) ++ (n ∷ [])) [] (map suc w.ps ++ (suc p ∷ [])) ≡ some after
    unfolding after
    runs_on =
        ap₂ (λ ns qs. run ku kl ns [] qs) (sym node-i) (sym (map-append suc w.ps (p ∷ [])))
        ∙ runs-as-hops ku kl hu hl row whole tells plan (suc i) (w.ps ++ (p ∷ []))
        ∙ ap (Option.map (order_of (youngs (take (suc i) (nodes row)) []))) hopped

    one : run ku kl (n ∷ []) o (suc p ∷ []) ≡ some after
    unfolding and_then
    one =
        sym (ap (λ v. and_then v (λ o'. run ku kl (n ∷ []) o' (suc p ∷ []))) w.runs)
        ∙ sym (run-append ku kl (take i (nodes row)) (n ∷ []) [] (map suc w.ps) (suc p ∷ [])
        (runs-length ku kl (take i (nodes row)) [] (map suc w.ps) (at-ends (λ o. true) w.runs tt)))
        ∙ runs_on

    at_i : Onto ku kl n [] o (suc p) [] after
    at_i = onto ku kl n [] o (suc p) [] after one

    only : Only (home_in row) x
    only = home-only row x (omega (arith, before-found row i h))

    length_o : length o ≡ length held
    length_o = length-map held (home_in row)

    pub holding-placed : Placed held k x p
    unfolding home stands
    holding-placed =
        let a = at_i in
        record {
          opens = λ z. (
            omega (arith, a.fitted.sum, opened k (length o) z, length_o, hu, hl),
            omega (arith, a.fitted.high, opened k (length o) z, length_o),
          );
          stands = λ t.
              let s = touched k (home_in row x) p o t (rw (by_home (λ m. stands m o (suc p)) (λ y z. refl) row i) at a.stood) a.fitted.high in
              (s.0 ∙ before-map (home_in row) x only held, omega (arith, s.1, length_o));
        }

    same-order : next n o (suc p) ≡ after
    unfolding run
    same-order = let e : run ku kl [] (next n o (suc p)) [] ≡ some after = at_i.rest in cc

    next-home : next n o (suc p) ≡ next (node k (home_in row x)) o (suc p)
    unfolding home next
    next-home = by_home (λ m. next m o (suc p)) (λ y z. refl) row i

    pub holding-more : (next-held : List ℕ) → next-held ≡ next (node k x) held (suc p)
        → Holding ku kl row ss next-held (suc i) y
    holding-more next-held e =
        record {
          ps = w.ps ++ (p ∷ []);
          hopped = hopped;
          runs =
              ap₂ (λ ns qs. run ku kl ns [] qs) node-i (map-append suc w.ps (p ∷ [])) ∙ runs_on
              ∙ ap some
              (sym same-order ∙ next-home ∙ next_map (home_in row) x only k held (suc p) ∙ ap (map (home_in row)) (sym e));
        }
