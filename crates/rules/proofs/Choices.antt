-- A choice of p at each B has one placing, with the smallest s at each blank: p at M and E follows from the order. Of all placings with those
-- choices it comes first; choices and their placings have one reading order; so the first placing is that of the first choice.
use mathlib.Core.Path.{◌≡◌, refl, sym, ap, ◌∙◌}
use mathlib.Core.Bool.{Bool}
use mathlib.Core.List.{List, [], ◌∷◌, tail as list-tail}
use mathlib.Core.Logic.Iff
use mathlib.Core.Logic.{◌↔◌, ◌⊎◌, inl, inr}
use Prim.Native.Nat.{ℕ, suc, ◌+◌, ◌-◌, ◌≤◌, ◌<◌}
use lib.ListN.{length}
use lib.Dec.{eqb→eq}
use native.Mathlib.Nat.{eq-or-lt_of_le}
use native.Mathlib.Omega.{arith}
use Rattle.rules.specs.Basic.{put, cut}
use Rattle.rules.specs.declared.Kind.TheVariants.{B, M, E, N}
use Rattle.rules.specs.Row.{before, Node, node}
use Rattle.rules.specs.Street.{run, last, counted, kind, stands, next, Placing, positions, choices, Choice, Earlier, here, there, IsFirst, empty}
use Rattle.rules.proofs.Earlier.{earlier-asymmetric, earlier-tail, earlier-map, earlier-lengths, earlier-transitive}
use Rattle.rules.proofs.Fits.{FitsAt}
use Rattle.rules.proofs.Runs.{Leads, at-ends, onward, onward-leads}
use Rattle.rules.proofs.Search.{ends-empty}

-- the smallest s at a blank is b − Kl or 0: it fits wherever there is space for b wires, and any other that fits is larger
pub lowest-fits : (ku kl b : ℕ) → b ≤ ku + kl → FitsAt N ku kl (suc (b - kl)) b
unfolding last
lowest-fits ku kl b h = omega arith

pub lowest-least : {ku kl p b : ℕ} → FitsAt N ku kl p b → suc (b - kl) ≤ p
unfolding last
lowest-least f = omega (arith, f.low, f.lower)

-- at or before, in reading order
abbrev pub Reached : List ℕ → List ℕ → Type 0
Reached ps qs = (qs ≡ ps) ⊎ Earlier ps qs

reached-cons : (p : ℕ) {ps qs : List ℕ} → Reached ps qs → Reached (p ∷ ps) (p ∷ qs)
reached-cons p (inl e) = inl (ap {B = List ℕ} (λ l. p ∷ l) e)
reached-cons p (inr l) = inr (there refl l)

reached-head : {p q : ℕ} {ps qs : List ℕ} → p ≤ q → Reached ps qs → Reached (p ∷ ps) (q ∷ qs)
reached-head {p} {q} {ps} {qs} h r = go (eq-or-lt_of_le h)
  where
    go : (p ≡ q) ⊎ (p < q) → Reached (p ∷ ps) (q ∷ qs)
    go (inl e) = rw e (reached-cons q r)
    go (inr l) = inr (here l)

-- the positions that follow from a list's choices at the Bs
abbrev pub lowered : ℕ → List Node → List ℕ → List ℕ → List ℕ
lowered kl ns o ps = positions kl ns o (choices ns ps)

-- they lead where the list does, make the same choices, and stand at or before it
pub record Lowered (fine : List ℕ → Bool) (ku kl : ℕ) (ns : List Node) (o ps : List ℕ) : Type 0 where
  pub leads : Leads fine ku kl ns o (lowered kl ns o ps)
  pub same : choices ns (lowered kl ns o ps) ≡ choices ns ps
  pub reached : Reached (lowered kl ns o ps) ps

module _ (fine : List ℕ → Bool) (ku kl : ℕ) where
  pub lowers : (ns : List Node) (o ps : List ℕ) → Leads fine ku kl ns o ps → Lowered fine ku kl ns o ps
  unfolding run positions choices next stands counted kind
  lowers [] o [] t = record { leads = t; same = refl; reached = inl refl }
  lowers [] o (p ∷ ps) t = absurd t
  lowers (n ∷ ns) o [] t = absurd t
  lowers (node B x ∷ ns) o (p ∷ ps) t =
      let g = onward fine ku kl (node B x) ns o p ps t in
      let r = lowers ns (put (p - 1) x o) ps g.rest in
      record {
        leads = onward-leads fine ku kl (node B x) ns o p (lowered kl ns (put (p - 1) x o) ps) (record { stood = g.stood; fitted = g.fitted; rest = r.leads });
        same = ap {B = List ℕ} (λ l. p ∷ l) r.same;
        reached = reached-cons p r.reached;
      }
  lowers (node M x ∷ ns) o (p ∷ ps) t =
      let g = onward fine ku kl (node M x) ns o p ps t in
      let r = lowers ns o ps g.rest in
      let e : p ≡ suc (before x o) = eqb→eq p (suc (before x o)) g.stood in
      record {
        leads = rw (← e) (onward-leads fine ku kl (node M x) ns o p (lowered kl ns o ps) (record { stood = g.stood; fitted = g.fitted; rest = r.leads }));
        same = r.same;
        reached = rw (← e) (reached-cons p r.reached);
      }
  lowers (node E x ∷ ns) o (p ∷ ps) t =
      let g = onward fine ku kl (node E x) ns o p ps t in
      let r = lowers ns (cut (p - 1) o) ps g.rest in
      let e : p ≡ suc (before x o) = eqb→eq p (suc (before x o)) g.stood in
      let f : before x o ≡ p - 1 = omega arith in
      record {
        leads = rw (← e, f) (onward-leads fine ku kl (node E x) ns o p (lowered kl ns (cut (p - 1) o) ps) (record { stood = g.stood; fitted = g.fitted; rest = r.leads }));
        same = rw f r.same;
        reached = rw (← e, f) (reached-cons p r.reached);
      }
  lowers (node N x ∷ ns) o (p ∷ ps) t =
      let g = onward fine ku kl (node N x) ns o p ps t in
      let r = lowers ns o ps g.rest in
      let q : ℕ = suc (length o - kl) in
      record {
        leads = onward-leads fine ku kl (node N x) ns o q (lowered kl ns o ps)
            (record { stood = tt; fitted = lowest-fits ku kl (length o) g.fitted.sum; rest = r.leads });
        same = r.same;
        reached = reached-head (lowest-least g.fitted) r.reached;
      }

earlier-behind : (p : ℕ) {ps qs cs ds : List ℕ} → Earlier ps qs ↔ Earlier cs ds → Earlier (p ∷ ps) (p ∷ qs) ↔ Earlier cs ds
earlier-behind p h = (λ l. h.0 (earlier-tail refl l), λ l. there refl (h.1 l))

-- positions that follow from choices first differ where the choices do
pub positions-order : (kl : ℕ) (ns : List Node) (o cs ds : List ℕ) → choices ns (positions kl ns o cs) ≡ cs → choices ns (positions kl ns o ds) ≡ ds
    → Earlier (positions kl ns o cs) (positions kl ns o ds) ↔ Earlier cs ds
unfolding positions choices
positions-order kl [] o cs ds a b = rw (← a, ← b) Iff.rfl
positions-order kl (node B x ∷ ns) o [] ds a b = (λ l. absurd (omega (arith, earlier-lengths l)), λ l. absurd (omega (arith, earlier-lengths l)))
positions-order kl (node B x ∷ ns) o (c ∷ cs) [] a b = (λ l. absurd (omega (arith, earlier-lengths l)), λ l. absurd (omega (arith, earlier-lengths l)))
positions-order kl (node B x ∷ ns) o (c ∷ cs) (d ∷ ds) a b =
    let ih : c ≡ d → Earlier (positions kl ns (put (c - 1) x o) cs) (positions kl ns (put (d - 1) x o) ds) ↔ Earlier cs ds = λ e.
    rw (← e) (positions-order kl ns (put (c - 1) x o) cs ds (ap list-tail a) (rw e (ap list-tail b))) in
    (earlier-map (λ e. (ih e).0), earlier-map (λ e. (ih e).1))
positions-order kl (node M x ∷ ns) o cs ds a b = earlier-behind (suc (before x o)) (positions-order kl ns o cs ds a b)
positions-order kl (node E x ∷ ns) o cs ds a b = earlier-behind (suc (before x o)) (positions-order kl ns (cut (before x o) o) cs ds a b)
positions-order kl (node N x ∷ ns) o cs ds a b = earlier-behind (suc (length o - kl)) (positions-order kl ns o cs ds a b)

module _ (ku kl : ℕ) (ns : List Node) where
  -- a placing's choices at the Bs, with the smallest s at each blank, are a placing too
  pub placing-lowered : (ps : List ℕ) → Placing ku kl ns ps → Lowered empty ku kl ns [] ps
  unfolding empty
  placing-lowered ps h = lowers empty ku kl ns [] ps (at-ends empty h tt)

  pub placing-choice : (ps : List ℕ) → Placing ku kl ns ps → Choice ku kl ns (choices ns ps)
  placing-choice ps h =
      let l = placing-lowered ps h in
      record { each = l.same; placing = ends-empty (run ku kl ns [] (lowered kl ns [] ps)) l.leads }

  pub choice-placing : (cs : List ℕ) → Choice ku kl ns cs → Placing ku kl ns (positions kl ns [] cs)
  choice-placing cs c = c.placing

  pub differ-at-B : (cs ds : List ℕ) → Choice ku kl ns cs → Choice ku kl ns ds
      → Earlier (positions kl ns [] cs) (positions kl ns [] ds) ↔ Earlier cs ds
  differ-at-B cs ds c d = positions-order kl ns [] cs ds c.each d.each

  -- the first placing has the smallest s at each blank
  pub first-lowest : (ps : List ℕ) → IsFirst ku kl ns ps → ps ≡ lowered kl ns [] ps
  first-lowest ps f = go (placing-lowered ps f.placing).reached (f.others (lowered kl ns [] ps) (placing-choice ps f.placing).placing)
    where
      go : Reached (lowered kl ns [] ps) ps → Reached ps (lowered kl ns [] ps) → ps ≡ lowered kl ns [] ps
      go (inl e) r = e
      go (inr l) (inl e) = sym e
      go (inr l) (inr m) = absurd (earlier-asymmetric l m)

  -- and its choices at the Bs come first of all placings'
  pub first-choices : (ps : List ℕ) → IsFirst ku kl ns ps → (qs : List ℕ) → Placing ku kl ns qs → Reached (choices ns ps) (choices ns qs)
  first-choices ps f qs q = go (f.others (lowered kl ns [] qs) d.placing)
    where
      c : Choice ku kl ns (choices ns ps)
      c = placing-choice ps f.placing

      d : Choice ku kl ns (choices ns qs)
      d = placing-choice qs q

      go : Reached ps (lowered kl ns [] qs) → Reached (choices ns ps) (choices ns qs)
      go (inl e) = inl (sym d.each ∙ ap (choices ns) e)
      go (inr l) = inr ((differ-at-B (choices ns ps) (choices ns qs) c d).0 (rw (first-lowest ps f) at l))

  pub first-choice : (ps : List ℕ) → IsFirst ku kl ns ps → (cs : List ℕ) → Choice ku kl ns cs → Reached (choices ns ps) cs
  first-choice ps f cs c = rw c.each at (first-choices ps f (positions kl ns [] cs) c.placing)

  -- the placing of the choice that comes first is the first
  pub choice-first : (cs : List ℕ) → Choice ku kl ns cs →
      ((ds : List ℕ) → Choice ku kl ns ds → Reached cs ds) → IsFirst ku kl ns (positions kl ns [] cs)
  choice-first cs c h = record { placing = c.placing; others = λ qs q. go qs q (h (choices ns qs) (placing-choice qs q)) (placing-lowered qs q).reached }
    where
      ps : List ℕ
      ps = positions kl ns [] cs

      later : {qs rs : List ℕ} → Earlier ps qs → Reached qs rs → Earlier ps rs
      later l (inl e) = rw e l
      later l (inr m) = earlier-transitive l m

      go : (qs : List ℕ) → Placing ku kl ns qs → Reached cs (choices ns qs) → Reached (lowered kl ns [] qs) qs → Reached ps qs
      go qs q (inl e) r = rw (ap (positions kl ns []) e) at r
      go qs q (inr l) r = inr (later ((differ-at-B cs (choices ns qs) c (placing-choice qs q)).1 l) r)
