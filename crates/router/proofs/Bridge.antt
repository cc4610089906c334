-- A hop on ranks is a step of the street rules: runs of a row's nodes are runs of the steps that tell them.
use mathlib.Core.Path.{◌≡◌, refl, sym, ap, ap₂, ◌∙◌}
use mathlib.Core.Bool.{Bool, true, false, ◌&&◌}
use mathlib.Core.List.{List, [], ◌∷◌, map}
use mathlib.Core.Logic.{◌⊎◌, inl, inr}
use mathlib.Core.Option
use mathlib.Core.Option.{Option, none, some}
use Prim.Native.Nat.{ℕ, zero, suc, ◌+◌, ◌-◌, ◌*◌, ◌≤◌, ◌<◌}
use native.Mathlib.Nat.{eq-zero-or-pos}
use native.Mathlib.Omega.{arith}
use lib.ListN.{length, take}
use lib.Seq.{take_all, take-length, take-take}
use lib.Dec.{eqb, eqb-suc-suc}
use borrow.Author.Tests.{eqb-true, eqb-false}
use Rattle.rules.specs.Basic.{put, cut, keep, and_then}
use Rattle.rules.specs.declared.Kind.{Kind}
use Rattle.rules.specs.declared.Kind.TheVariants.{B, M, E, N}
use Rattle.rules.specs.Row.{before, lone, Node, node, nodes}
use Rattle.rules.specs.Street.{fits, last, limits_at, fits_at, counted, stands, next, kind, step as street_step, run, Placing, Earlier, IsFirst, Passes, StopsAt}
use Rattle.rules.specs.Judgement.{left}
use Rattle.rules.proofs.Lists.{length_cut}
use Rattle.rules.proofs.Fits.{Fits, fits→}
use Rattle.rules.proofs.Pins.{at_before}
use Rattle.rules.proofs.Open.{times, times_cut, one, one-other, onto, ends-empty}
use Rattle.rules.proofs.Legal.{New, Own}
use Rattle.rules.proofs.Accepted.{nodes-own}
use Rattle.rules.proofs.Failing.{passes-take}
use Rattle.std.specs.Prelude.{IsTrue}
use Rattle.steps.specs.declared.plan.Turn.{Turn}
use Rattle.steps.specs.declared.plan.Turn.TheVariants.{Begins}
use Rattle.steps.specs.Plan.{Step, step, turn_kind, turn_age, touches, young, turn, Steps, Tells}
use Rattle.steps.specs.Ranks.{fact, order_of, at_of, less_of, hop_by, hop_of, hops}
use Rattle.steps.proofs.Hops.{hop-made}
use Rattle.steps.proofs.Turns.{kind-turn}
use Rattle.steps.proofs.Ranks.{Distinct, order-length, order-put, order-at, order-less}

module _ (ku kl : ℕ) where
  -- a step of the street rules at the order of a rank is a hop
  abbrev Agree : Node → List ℕ → (r p : ℕ) → Type 0
  Agree n o r p =
      street_step ku kl n (order_of o r) (suc p)
      ≡ Option.map (order_of (young n o)) (hop_of ku kl (step (turn n o) (length o)) r p)

  kept : {A C : Type 0} (f : A → C) (t t' : Bool) (a : A) (c : C) → t ≡ t' → (t ≡ true → c ≡ f a) → keep t c ≡ Option.map f (keep t' a)
  unfolding keep
  kept f true t' a c e h = rw (← e) (ap some (h refl))
  kept f false t' a c e h = rw (← e)

  begin-agrees : (x : ℕ) (o : List ℕ) (r p : ℕ) → r < fact (length o) → Agree (node B x) o r p
  unfolding street_step stands next kind counted fits fits_at last limits_at young turn hop_by
  begin-agrees x o r p h =
      kept (order_of (x ∷ o)) (fits ku kl (suc p) (suc (length (order_of o r)))) (fits ku kl (suc p) (suc (length o))) (p * fact (length o) + r)
      (put (suc p - 1) x (order_of o r)) (ap (λ b. fits ku kl (suc p) (suc b)) (order-length o r))
      (λ t. ap (λ k. put k x (order_of o r)) (less p) ∙ sym (order-put p x r o h))
    where
      less : (p : ℕ) → suc p - 1 ≡ p
      less p = omega arith

  -- where a net of the open ones stands
  stands_at : (x : ℕ) (o : List ℕ) (r : ℕ) → before x o < length o → Distinct o → r < fact (length o) → before x (order_of o r) ≡ at_of (before x o) (length o) r
  stands_at x o r h d f = ap (λ y. before y (order_of o r)) (sym (at_before x o h)) ∙ order-at o (before x o) r d h f

  touch : (x : ℕ) (o : List ℕ) (r p : ℕ) → before x o < length o → Distinct o → r < fact (length o)
      → eqb (suc p) (suc (before x (order_of o r))) && fits ku kl (suc p) (length (order_of o r))
      ≡ eqb p (at_of (before x o) (length o) r) && fits ku kl (suc p) (length o)
  touch x o r p h d f =
      ap₂ (λ t b. t && fits ku kl (suc p) b)
      (eqb-suc-suc p (before x (order_of o r)) ∙ ap (eqb p) (stands_at x o r h d f)) (order-length o r)

  meet-agrees : (x : ℕ) (o : List ℕ) (r p : ℕ) → before x o < length o → Distinct o → r < fact (length o) → Agree (node M x) o r p
  unfolding street_step stands next kind counted fits fits_at last limits_at young turn hop_by
  meet-agrees x o r p h d f =
      kept (order_of o) (eqb (suc p) (suc (before x (order_of o r))) && fits ku kl (suc p) (length (order_of o r)))
      (eqb p (at_of (before x o) (length o) r) && fits ku kl (suc p) (length o)) r (order_of o r) (touch x o r p h d f) (λ t. refl)

  end-agrees : (x : ℕ) (o : List ℕ) (r p : ℕ) → before x o < length o → Distinct o → r < fact (length o) → Agree (node E x) o r p
  unfolding street_step stands next kind counted fits fits_at last limits_at young turn hop_by
  end-agrees x o r p h d f =
      kept (order_of (cut (before x o) o)) (eqb (suc p) (suc (before x (order_of o r))) && fits ku kl (suc p) (length (order_of o r)))
      (eqb p (at_of (before x o) (length o) r) && fits ku kl (suc p) (length o)) (less_of (before x o) (length o) r) (cut (suc p - 1) (order_of o r))
      (touch x o r p h d f) (λ t. taken t)
    where
      and_first : (a b : Bool) → a && b ≡ true → a ≡ true
      and_first true b e = refl
      and_first false b e = e

      taken : eqb (suc p) (suc (before x (order_of o r))) && fits ku kl (suc p) (length (order_of o r)) ≡ true
          → cut (suc p - 1) (order_of o r) ≡ order_of (cut (before x o) o) (less_of (before x o) (length o) r)
      taken t =
          let e : suc p ≡ suc (before x (order_of o r)) = eqb-true (suc p) (suc (before x (order_of o r))) (and_first _ _ t) in
          let s = stands_at x o r h d f in
          let k : suc p - 1 ≡ at_of (before x o) (length o) r = omega arith in
          ap (λ i. cut i (order_of o r)) k ∙ sym (order-less o (before x o) r h f)

  rest-agrees : (x : ℕ) (o : List ℕ) (r p : ℕ) → Agree (node N x) o r p
  unfolding street_step stands next kind counted young turn hop_by
  rest-agrees x o r p =
      kept (order_of o) (fits_at N ku kl (suc p) (length (order_of o r))) (fits_at N ku kl (suc p) (length o)) r (order_of o r)
      (ap (fits_at N ku kl (suc p)) (order-length o r)) (λ t. refl)

-- the open nets after nodes
unfoldable pub youngs : List Node → List ℕ → List ℕ
youngs [] o = o
youngs (n ∷ ns) o = youngs ns (young n o)

-- from i nodes on: each open net stands there once and began before node i
pub record Began (i : ℕ) (o : List ℕ) : Type 0 where
  pub once : Distinct o
  pub past : (x : ℕ) → 0 < times x o → x < i

net : Node → ℕ
net (node k x) = x

-- what steps say of their first
record First (b : ℕ) (t : Turn) (c : ℕ) (ss : List Step) : Type 0 where
  touched : IsTrue (touches (turn_kind t)) → turn_age t < c
  count : c ≡ b
  rest : ((turn_kind t ≡ B) × (b ≡ 6)) ⊎ Steps (left (turn_kind t) b) ss

steps_first : {b : ℕ} {t : Turn} {c : ℕ} {ss : List Step} → Steps b (step t c ∷ ss) → First b t c ss
unfolding left
steps_first Steps.full = record { touched = λ t. absurd (cc); count = refl; rest = inl (refl, refl) }
steps_first (Steps.begins h s) = record { touched = λ t. absurd (cc); count = refl; rest = inr s }
steps_first (Steps.meets l b s) = record { touched = λ t. l; count = refl; rest = inr s }
steps_first (Steps.ends l b s) = record { touched = λ t. l; count = refl; rest = inr s }
steps_first (Steps.rests b s) = record { touched = λ t. absurd (cc); count = refl; rest = inr s }

one-le : (t : Bool) → one t ≤ 1
unfolding one
one-le true = omega arith
one-le false = omega arith

-- the open nets one node on
began-next : (i : ℕ) (k : Kind) (x : ℕ) (o : List ℕ) → (New k → x ≡ i) → Began i o
    → (IsTrue (touches k) → before x o < length o) → Began (suc i) (young (node k x) o)
unfolding young times
began-next i B x o own b t =
    record {
      once = λ y. once y (eqb x y) refl (eq-zero-or-pos (times y o));
      past = λ y h. past y (eqb x y) refl h;
    }
  where
    e : x ≡ i
    e = own tt

    once : (y : ℕ) (c : Bool) → eqb x y ≡ c → (times y o ≡ 0) ⊎ (0 < times y o) → one (eqb x y) + times y o ≤ 1
    once y c q (inl z) = omega (arith, one-le (eqb x y))
    once y c q (inr h) = let l : y < i = b.past y h in omega (arith, b.once y, one-other y x (λ (u : x ≡ y). omega (arith, e)))

    past : (y : ℕ) (c : Bool) → eqb x y ≡ c → 0 < one (eqb x y) + times y o → y < suc i
    past y true q h = let u : x ≡ y = eqb-true x y q in omega (arith, e)
    past y false q h = let z : one (eqb x y) ≡ 0 = one-other y x (eqb-false x y q) in omega (arith, b.past y (omega arith))
began-next i M x o own b t = record { once = b.once; past = λ y h. omega (arith, b.past y h) }
began-next i E x o own b t =
    let l : before x o < length o = t refl in
    record {
      once = λ y. omega (arith, times_cut y (before x o) o l, b.once y);
      past = λ y h. omega (arith, b.past y (omega (arith, times_cut y (before x o) o l)));
    }
began-next i N x o own b t = record { once = b.once; past = λ y h. omega (arith, b.past y h) }

own-parts : {i : ℕ} {n : Node} {ns : List Node} → Own i (n ∷ ns) → (New (kind n) → net n ≡ i) × Own (suc i) ns
unfolding kind net
own-parts (Own.cons h w) = (h, w)

began-node : (i : ℕ) (n : Node) (o : List ℕ) → (New (kind n) → net n ≡ i) → Began i o → (IsTrue (touches (turn_kind (turn n o))) → turn_age (turn n o) < length o) → Began (suc i) (young n o)
unfolding kind net turn
began-node i (node B x) o own b t = began-next i B x o own b (λ z. absurd (cc))
began-node i (node M x) o own b t = began-next i M x o own b t
began-node i (node E x) o own b t = began-next i E x o own b t
began-node i (node N x) o own b t = began-next i N x o own b (λ z. absurd (cc))

module _ (ku kl : ℕ) (hu : ku ≤ 3) (hl : kl ≤ 3) where
  agrees : (n : Node) (o : List ℕ) (r p : ℕ) → (IsTrue (touches (turn_kind (turn n o))) → turn_age (turn n o) < length o) → Distinct o → r < fact (length o) → Agree ku kl n o r p
  unfolding kind turn
  agrees (node B x) o r p t d h = begin-agrees ku kl x o r p h
  agrees (node M x) o r p t d h = meet-agrees ku kl x o r p (t refl) d h
  agrees (node E x) o r p t d h = end-agrees ku kl x o r p (t refl) d h
  agrees (node N x) o r p t d h = rest-agrees ku kl x o r p

  length-young : (n : Node) (o : List ℕ) → (IsTrue (touches (turn_kind (turn n o))) → turn_age (turn n o) < length o) → length (young n o) ≡ left (turn_kind (turn n o)) (length o)
  unfolding young left turn
  length-young (node B x) o t = refl
  length-young (node M x) o t = refl
  length-young (node E x) o t = omega (arith, length_cut (before x o) o (t refl))
  length-young (node N x) o t = refl

  -- a B that finds six nets open gets past no order
  full-none : (x : ℕ) (o : List ℕ) (r p : ℕ) → length o ≡ 6 → street_step ku kl (node B x) (order_of o r) (suc p) ≡ none
  unfolding street_step stands kind counted fits fits_at last limits_at keep
  full-none x o r p e = go (fits ku kl (suc p) (suc (length (order_of o r)))) refl
    where
      go : (t : Bool) → fits ku kl (suc p) (suc (length (order_of o r))) ≡ t → keep t (next (node B x) (order_of o r) (suc p)) ≡ none
      go true q =
          let f : Fits ku kl (suc p) (suc (length (order_of o r))) = fits→ ku kl (suc p) (suc (length (order_of o r))) (rw q tt) in
          absurd (omega (arith, f.sum, order-length o r))
      go false q = refl

  full-stays : (r p : ℕ) → hop_of ku kl (step Begins 6) r p ≡ none
  unfolding hop_by keep
  full-stays r p = go (fits ku kl (suc p) 7) refl
    where
      go : (t : Bool) → fits ku kl (suc p) 7 ≡ t → keep t (p * fact 6 + r) ≡ none
      go true q = let f : Fits ku kl (suc p) 7 = fits→ ku kl (suc p) 7 (rw q tt) in absurd (omega (arith, f.sum))
      go false q = refl

  -- the steps after the first, which is not a B that finds six open
  more-steps : (n : Node) (o : List ℕ) (ss : List Step) → (kind n ≡ B → length o < 6) → First (length o) (turn n o) (length o) ss → Steps (length (young n o)) ss
  more-steps n o ss e f = go f.rest
    where
      go : ((turn_kind (turn n o) ≡ B) × (length o ≡ 6)) ⊎ Steps (left (turn_kind (turn n o)) (length o)) ss → Steps (length (young n o)) ss
      go (inl q) = absurd (omega (arith, e (sym (kind-turn n o) ∙ q.0), q.1))
      go (inr s) = rw (length-young n o f.touched) s

  -- a run of the first j nodes is a run of the first j steps
  pub run-hops : (j i : ℕ) {ns : List Node} {o : List ℕ} {ss : List Step} → Tells ns o ss → Steps (length o) ss → Own i ns → Began i o → (r : ℕ) → r < fact (length o)
      → (ps : List ℕ) → run ku kl (take j ns) (order_of o r) (map suc ps) ≡ Option.map (order_of (youngs (take j ns) o)) (hops ku kl (take j ss) r ps)
  unfolding run hops youngs and_then
  run-hops zero i t s w b r h [] = refl
  run-hops zero i t s w b r h (p ∷ ps) = refl
  run-hops (suc j) i Tells.nil s w b r h [] = refl
  run-hops (suc j) i Tells.nil s w b r h (p ∷ ps) = refl
  run-hops (suc j) i (Tells.full e l) s w b r h [] = refl
  run-hops (suc j) i (Tells.full {x} {o} {ns} {ss} e l) s w b r h (p ∷ ps) = rw (full-none x o r p e, full-stays r p)
  run-hops (suc j) i (Tells.more e t) s w b r h [] = refl
  run-hops (suc j) i (Tells.more {n} {o} {ns} {ss} e t) s w b r h (p ∷ ps) =
      let f = steps_first s in
      let u = own-parts w in
      let s' : Steps (length (young n o)) ss = more-steps n o ss e f in
      rw (agrees n o r p f.touched b.once h)
      (go (hop_of ku kl (step (turn n o) (length o)) r p) refl
      (λ y hy. run-hops j (suc i) t s' u.1 (began-node i n o u.0 b f.touched) y hy ps))
    where
      below : (y : ℕ) → hop_of ku kl (step (turn n o) (length o)) r p ≡ some y → y < fact (length (young n o))
      below y q =
          let f = steps_first s in
          rw (length-young n o f.touched)
          ((hop-made ku kl (turn_kind (turn n o)) (turn_age (turn n o)) (length o) r p y q).lands f.touched h)

      go : (x : Option ℕ) → hop_of ku kl (step (turn n o) (length o)) r p ≡ x
          → ((y : ℕ) → y < fact (length (young n o))
          → run ku kl (take j ns) (order_of (young n o) y) (map suc ps) ≡ Option.map (order_of (youngs (take j ns) (young n o))) (hops ku kl (take j ss) y ps))
          → and_then (Option.map (order_of (young n o)) x) (λ o'. run ku kl (take j ns) o' (map suc ps))
          ≡ Option.map (order_of (youngs (take j ns) (young n o))) (and_then x (λ y. hops ku kl (take j ss) y ps))
      go none q ih = refl
      go (some y) q ih = ih y (below y q)

-- ---- ways of the steps are placings of the row

earlier-suc : {ps qs : List ℕ} → Earlier ps qs → Earlier (map suc ps) (map suc qs)
earlier-suc (Earlier.here {p} {q} h) = Earlier.here {p = suc p} {q = suc q} (omega arith)
earlier-suc (Earlier.there e l) = Earlier.there (ap suc e) (earlier-suc l)

-- positions of a run count from 1
from_one : (ku kl : ℕ) (ns : List Node) (o qs w : List ℕ) → run ku kl ns o qs ≡ some w → (ps : List ℕ) × (qs ≡ map suc ps)
unfolding run
from_one ku kl [] o [] w e = ([], refl)
from_one ku kl [] o (q ∷ qs) w e = let z : ◌≡◌ {A = ℕ} 0 1 = cc in absurd (omega arith)
from_one ku kl (n ∷ ns) o [] w e = let z : ◌≡◌ {A = ℕ} 0 1 = cc in absurd (omega arith)
from_one ku kl (n ∷ ns) o (q ∷ qs) w e =
    let a = onto ku kl n ns o q qs w e in
    let r = from_one ku kl ns (next n o q) qs w a.rest in
    ((q - 1) ∷ r.0, ap₂ {C = List ℕ} (λ x l. x ∷ l) (omega (arith, a.fitted.low)) r.1)

mapped : {A C : Type 0} (f : A → C) (x : Option A) (c : C) → Option.map f x ≡ some c → (a : A) × (x ≡ some a)
mapped f none c e = let z : ◌≡◌ {A = ℕ} 0 1 = cc in absurd (omega arith)
mapped f (some a) c e = (a, refl)

nothing-began : Began 0 []
unfolding times
nothing-began = record { once = λ x. omega arith; past = λ x t. absurd (omega arith) }

module _ (ku kl : ℕ) (hu : ku ≤ 3) (hl : kl ≤ 3) (row : List ℕ) (whole : (i : ℕ) → i < length row → lone row i ≡ false) {ss : List Step}
    (tells : Tells (nodes row) [] ss) (steps : Steps 0 ss) where
  pub runs-as-hops : (j : ℕ) (ps : List ℕ)
      → run ku kl (take j (nodes row)) [] (map suc ps) ≡ Option.map (order_of (youngs (take j (nodes row)) [])) (hops ku kl (take j ss) 0 ps)
  unfolding order_of fact
  runs-as-hops j ps = run-hops ku kl hu hl j 0 tells steps (nodes-own row) nothing-began 0 (omega arith) ps

  pub hops-passes : (j x : ℕ) (ps : List ℕ) → hops ku kl (take j ss) 0 ps ≡ some x → Passes ku kl (take j (nodes row))
  hops-passes j x ps e =
      record {
        ps = map suc ps;
        order = order_of (youngs (take j (nodes row)) []) x;
        runs = runs-as-hops j ps ∙ ap (Option.map (order_of (youngs (take j (nodes row)) []))) e;
      }

  pub passes-hops : (j : ℕ) → Passes ku kl (take j (nodes row)) → (ps : List ℕ) × (x : ℕ) × (hops ku kl (take j ss) 0 ps ≡ some x)
  passes-hops j h =
      let q = from_one ku kl (take j (nodes row)) [] h.ps h.order h.runs in
      let m = mapped (order_of (youngs (take j (nodes row)) [])) (hops ku kl (take j ss) 0 q.0) h.order
      (sym (runs-as-hops j q.0) ∙ ap (run ku kl (take j (nodes row)) []) (sym q.1) ∙ h.runs) in
      (q.0, m.0, m.1)

  pub length-told : {ns : List Node} {o : List ℕ} {ts : List Step} → Tells ns o ts → length ns ≡ length ts
  length-told Tells.nil = refl
  length-told (Tells.full e l) = ap suc l
  length-told (Tells.more e t) = ap suc (length-told t)

  whole_run : (ps : List ℕ) → run ku kl (nodes row) [] (map suc ps) ≡ Option.map (order_of (youngs (nodes row) [])) (hops ku kl ss 0 ps)
  whole_run ps =
      let n : take (length ss) (nodes row) ≡ nodes row = take_all (length ss) (nodes row) (omega (arith, length-told tells)) in
      let m : take (length ss) ss ≡ ss = take-length ss in
      ap (λ ns. run ku kl ns [] (map suc ps)) (sym n) ∙ runs-as-hops (length ss) ps
      ∙ ap₂ (λ ns ts. Option.map (order_of (youngs ns [])) (hops ku kl ts 0 ps)) n m

  -- positions that lead through all the steps are a placing
  pub hops-placing : (ps : List ℕ) (x : ℕ) → hops ku kl ss 0 ps ≡ some x → Placing ku kl (nodes row) (map suc ps)
  hops-placing ps x e =
      let r : run ku kl (nodes row) [] (map suc ps) ≡ some (order_of (youngs (nodes row) []) x) =
      whole_run ps ∙ ap (Option.map (order_of (youngs (nodes row) []))) e in
      r ∙ ap some (ends-empty ku kl row whole (map suc ps) (order_of (youngs (nodes row) []) x) r)

  pub placing-hops : (qs : List ℕ) → Placing ku kl (nodes row) qs → (ps : List ℕ) × (qs ≡ map suc ps) × (x : ℕ) × (hops ku kl ss 0 ps ≡ some x)
  placing-hops qs h =
      let q = from_one ku kl (nodes row) [] qs [] h in
      let m = mapped (order_of (youngs (nodes row) [])) (hops ku kl ss 0 q.0) []
      (sym (whole_run q.0) ∙ ap (run ku kl (nodes row) []) (sym q.1) ∙ h) in
      (q.0, q.1, m.0, m.1)

  -- the first positions on ranks are the first placing
  pub hops-first : (ps : List ℕ) (x : ℕ) → hops ku kl ss 0 ps ≡ some x
      → ((qs : List ℕ) (y : ℕ) → hops ku kl ss 0 qs ≡ some y → (qs ≡ ps) ⊎ Earlier ps qs) → IsFirst ku kl (nodes row) (map suc ps)
  hops-first ps x e least =
      record {
        placing = hops-placing ps x e;
        others = λ qs h. let p = placing-hops qs h in go qs p.0 p.1 (least p.0 p.2 p.3);
      }
    where
      go : (qs rs : List ℕ) → qs ≡ map suc rs → (rs ≡ ps) ⊎ Earlier ps rs → (qs ≡ map suc ps) ⊎ Earlier (map suc ps) qs
      go qs rs q (inl z) = inl (q ∙ ap (map suc) z)
      go qs rs q (inr l) = inr (rw q (earlier-suc l))

  -- where r steps have a way and r + 1 have none, node r + 1 is the failing node
  pub hops-stops : (r : ℕ) → r < length (nodes row) → (ps : List ℕ) (x : ℕ) → hops ku kl (take r ss) 0 ps ≡ some x
      → ((qs : List ℕ) (y : ℕ) → hops ku kl (take (suc r) ss) 0 qs ≡ some y → ⊥) → StopsAt ku kl (nodes row) (suc r)
  hops-stops r h ps x e no_more =
      record {
        within = h;
        stuck = λ p. let q = passes-hops (suc r) p in no_more q.0 q.1 q.2;
        sooner = λ j l.
            let p = passes-take ku kl j (take r (nodes row)) (hops-passes r x ps e) in
            rw (take-take j r (nodes row) (omega arith)) at p;
      }
