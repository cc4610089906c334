-- Blanks change nothing else: a choice at the Bs places nodes exactly when it places those that are no blanks, so the first placings are one there,
-- and so is the failing node.
use mathlib.Core.Path.{◌≡◌, refl, sym, ap, ◌∙◌}
use mathlib.Core.Bool.{Bool, true}
use mathlib.Core.List.{List, [], ◌∷◌}
use mathlib.Core.Logic.{◌↔◌}
use Prim.Native.Nat.{ℕ, zero, suc, ◌+◌, ◌-◌, ◌≤◌}
use native.Mathlib.Omega.{arith}
use lib.ListN.{length, take}
use lib.Seq.{take-take}
use lib.Dec.{eqb→eq}
use Rattle.rules.specs.Basic.{put, cut}
use Rattle.rules.specs.declared.Kind.TheVariants.{B, M, E, N}
use Rattle.rules.specs.Row.{before, Node, node}
use Rattle.rules.specs.Street.{counted, kind, stands, next, run, Placing, positions, choices, Choice, IsFirst, Passes, StopsAt, empty}
use Rattle.rules.proofs.Runs.{Leads, at-ends, onward, onward-leads}
use Rattle.rules.proofs.Search.{ends-empty}
use Rattle.rules.proofs.Choices.{lowest-fits, lowered, lowers, placing-choice, first-lowest, first-choice, choice-first}
use Rattle.rules.proofs.Failing.{runs-passes, passes-runs, passes-take}
use Rattle.rules.proofs.Blanks.{next_le}

-- the nodes that are no blanks, and the positions there
unfoldable pub bare : List Node → List Node
bare [] = []
bare (node B x ∷ ns) = node B x ∷ bare ns
bare (node M x ∷ ns) = node M x ∷ bare ns
bare (node E x ∷ ns) = node E x ∷ bare ns
bare (node N x ∷ ns) = bare ns

unfoldable pub bare_of : List Node → List ℕ → List ℕ
bare_of [] ps = []
bare_of (n ∷ ns) [] = []
bare_of (node B x ∷ ns) (p ∷ ps) = p ∷ bare_of ns ps
bare_of (node M x ∷ ns) (p ∷ ps) = p ∷ bare_of ns ps
bare_of (node E x ∷ ns) (p ∷ ps) = p ∷ bare_of ns ps
bare_of (node N x ∷ ns) (p ∷ ps) = bare_of ns ps

pub bare-positions : (kl : ℕ) (ns : List Node) (o cs : List ℕ) → bare_of ns (positions kl ns o cs) ≡ positions kl (bare ns) o cs
unfolding bare bare_of positions
bare-positions kl [] o cs = refl
bare-positions kl (node B x ∷ ns) o [] = refl
bare-positions kl (node B x ∷ ns) o (c ∷ cs) = ap {B = List ℕ} (λ l. c ∷ l) (bare-positions kl ns (put (c - 1) x o) cs)
bare-positions kl (node M x ∷ ns) o cs = ap {B = List ℕ} (λ l. suc (before x o) ∷ l) (bare-positions kl ns o cs)
bare-positions kl (node E x ∷ ns) o cs = ap {B = List ℕ} (λ l. suc (before x o) ∷ l) (bare-positions kl ns (cut (before x o) o) cs)
bare-positions kl (node N x ∷ ns) o cs = bare-positions kl ns o cs

choices-nil : (ns : List Node) → choices ns [] ≡ []
unfolding choices
choices-nil [] = refl
choices-nil (n ∷ ns) = refl

pub bare-choices : (ns : List Node) (ps : List ℕ) → choices (bare ns) (bare_of ns ps) ≡ choices ns ps
unfolding bare bare_of choices
bare-choices [] ps = refl
bare-choices (n ∷ ns) [] = choices-nil (bare (n ∷ ns))
bare-choices (node B x ∷ ns) (p ∷ ps) = ap {B = List ℕ} (λ l. p ∷ l) (bare-choices ns ps)
bare-choices (node M x ∷ ns) (p ∷ ps) = bare-choices ns ps
bare-choices (node E x ∷ ns) (p ∷ ps) = bare-choices ns ps
bare-choices (node N x ∷ ns) (p ∷ ps) = bare-choices ns ps

module _ (fine : List ℕ → Bool) (ku kl : ℕ) where
  -- the same node before other nodes
  instead : (n : Node) (ns ms : List Node) (o : List ℕ) (p : ℕ) (ps qs : List ℕ)
      → (length (next n o p) ≤ ku + kl → Leads fine ku kl ns (next n o p) ps → Leads fine ku kl ms (next n o p) qs)
      → Leads fine ku kl (n ∷ ns) o (p ∷ ps) → Leads fine ku kl (n ∷ ms) o (p ∷ qs)
  instead n ns ms o p ps qs go t =
      let g = onward fine ku kl n ns o p ps t in
      onward-leads fine ku kl n ms o p qs (record { stood = g.stood; fitted = g.fitted; rest = go (next_le ku kl n o p g.fitted) g.rest })

  -- blanks may go
  pub bare_leads : (ns : List Node) (o ps : List ℕ) → Leads fine ku kl ns o ps → Leads fine ku kl (bare ns) o (bare_of ns ps)
  unfolding bare bare_of run next
  bare_leads [] o [] t = t
  bare_leads [] o (p ∷ ps) t = absurd t
  bare_leads (n ∷ ns) o [] t = absurd t
  bare_leads (node B x ∷ ns) o (p ∷ ps) t = instead (node B x) ns (bare ns) o p ps (bare_of ns ps) (λ l. bare_leads ns (put (p - 1) x o) ps) t
  bare_leads (node M x ∷ ns) o (p ∷ ps) t = instead (node M x) ns (bare ns) o p ps (bare_of ns ps) (λ l. bare_leads ns o ps) t
  bare_leads (node E x ∷ ns) o (p ∷ ps) t = instead (node E x) ns (bare ns) o p ps (bare_of ns ps) (λ l. bare_leads ns (cut (p - 1) o) ps) t
  bare_leads (node N x ∷ ns) o (p ∷ ps) t = bare_leads ns o ps (onward fine ku kl (node N x) ns o p ps t).rest

  -- and come back, with the smallest s
  pub leads_bare : (ns : List Node) (o cs : List ℕ) → length o ≤ ku + kl → Leads fine ku kl (bare ns) o (positions kl (bare ns) o cs)
      → Leads fine ku kl ns o (positions kl ns o cs)
  unfolding bare positions run stands counted kind next
  leads_bare [] o cs h t = t
  leads_bare (node B x ∷ ns) o [] h t = absurd t
  leads_bare (node B x ∷ ns) o (c ∷ cs) h t =
      let w : List ℕ = put (c - 1) x o in
      instead (node B x) (bare ns) ns o c (positions kl (bare ns) w cs) (positions kl ns w cs) (leads_bare ns w cs) t
  leads_bare (node M x ∷ ns) o cs h t =
      instead (node M x) (bare ns) ns o (suc (before x o)) (positions kl (bare ns) o cs) (positions kl ns o cs) (leads_bare ns o cs) t
  leads_bare (node E x ∷ ns) o cs h t =
      let w : List ℕ = cut (before x o) o in
      let e : suc (before x o) - 1 ≡ before x o = omega arith in
      instead (node E x) (bare ns) ns o (suc (before x o)) (positions kl (bare ns) w cs) (positions kl ns w cs)
      (λ l u. rw e (leads_bare ns w cs (rw e at l) (rw e at u))) t
  leads_bare (node N x ∷ ns) o cs h t =
      onward-leads fine ku kl (node N x) ns o (suc (length o - kl)) (positions kl ns o cs)
      (record { stood = tt; fitted = lowest-fits ku kl (length o) h; rest = leads_bare ns o cs h t })

  -- at a node that is no blank p follows from the choices at the Bs, whatever s is at the blanks
  lowered-bare : (ns : List Node) (o ps : List ℕ) → Leads fine ku kl ns o ps → bare_of ns (lowered kl ns o ps) ≡ bare_of ns ps
  unfolding bare_of run positions choices next stands
  lowered-bare [] o [] t = refl
  lowered-bare [] o (p ∷ ps) t = absurd t
  lowered-bare (n ∷ ns) o [] t = absurd t
  lowered-bare (node B x ∷ ns) o (p ∷ ps) t =
      ap {B = List ℕ} (λ l. p ∷ l) (lowered-bare ns (put (p - 1) x o) ps (onward fine ku kl (node B x) ns o p ps t).rest)
  lowered-bare (node M x ∷ ns) o (p ∷ ps) t =
      let g = onward fine ku kl (node M x) ns o p ps t in
      let e : p ≡ suc (before x o) = eqb→eq p (suc (before x o)) g.stood in
      cc (lowered-bare ns o ps g.rest)
  lowered-bare (node E x ∷ ns) o (p ∷ ps) t =
      let g = onward fine ku kl (node E x) ns o p ps t in
      let e : p ≡ suc (before x o) = eqb→eq p (suc (before x o)) g.stood in
      let f : before x o ≡ p - 1 = omega arith in
      cc (lowered-bare ns (cut (p - 1) o) ps g.rest)
  lowered-bare (node N x ∷ ns) o (p ∷ ps) t = lowered-bare ns o ps (onward fine ku kl (node N x) ns o p ps t).rest

module _ (ku kl : ℕ) (ns : List Node) where
  pub placing-positions : (ps : List ℕ) → Placing ku kl ns ps → positions kl (bare ns) [] (choices ns ps) ≡ bare_of ns ps
  unfolding empty
  placing-positions ps h = sym (bare-positions kl ns [] (choices ns ps)) ∙ lowered-bare empty ku kl ns [] ps (at-ends empty h tt)

  choice-bare : (cs : List ℕ) → Choice ku kl ns cs → Choice ku kl (bare ns) cs
  unfolding empty
  choice-bare cs c =
      let e : positions kl (bare ns) [] cs ≡ bare_of ns (positions kl ns [] cs) = sym (bare-positions kl ns [] cs) in
      record {
        each = ap (choices (bare ns)) e ∙ bare-choices ns (positions kl ns [] cs) ∙ c.each;
        placing = ends-empty (run ku kl (bare ns) [] (positions kl (bare ns) [] cs))
            (rw e (bare_leads empty ku kl ns [] (positions kl ns [] cs) (at-ends empty c.placing tt)));
      }

  bare-choice : (cs : List ℕ) → Choice ku kl (bare ns) cs → Choice ku kl ns cs
  unfolding empty
  bare-choice cs c =
      record {
        each = sym (bare-choices ns (positions kl ns [] cs)) ∙ ap (choices (bare ns)) (bare-positions kl ns [] cs) ∙ c.each;
        placing = ends-empty (run ku kl ns [] (positions kl ns [] cs))
            (leads_bare empty ku kl ns [] cs (omega arith) (at-ends empty c.placing tt));
      }

  -- nodes and those of them that are no blanks have the same choices
  pub same-choices : (cs : List ℕ) → Choice ku kl ns cs ↔ Choice ku kl (bare ns) cs
  same-choices cs = (choice-bare cs, bare-choice cs)

  -- and the first placing is one and the same there
  pub first-bare : (ps : List ℕ) → IsFirst ku kl ns ps → IsFirst ku kl (bare ns) (bare_of ns ps)
  first-bare ps f =
      let cs : List ℕ = choices ns ps in
      let e : positions kl (bare ns) [] cs ≡ bare_of ns ps = sym (bare-positions kl ns [] cs) ∙ ap (bare_of ns) (sym (first-lowest ku kl ns ps f)) in
      rw e at
      (choice-first ku kl (bare ns) cs (choice-bare cs (placing-choice ku kl ns ps f.placing))
      (λ ds d. first-choice ku kl ns ps f ds (bare-choice ds d)))

-- ---- the failing node

take_bare : (j : ℕ) (ns : List Node) → take (length (bare (take j ns))) (bare ns) ≡ bare (take j ns)
unfolding bare
take_bare zero ns = refl
take_bare (suc j) [] = refl
take_bare (suc j) (node B x ∷ ns) = ap {B = List Node} (λ l. node B x ∷ l) (take_bare j ns)
take_bare (suc j) (node M x ∷ ns) = ap {B = List Node} (λ l. node M x ∷ l) (take_bare j ns)
take_bare (suc j) (node E x ∷ ns) = ap {B = List Node} (λ l. node E x ∷ l) (take_bare j ns)
take_bare (suc j) (node N x ∷ ns) = take_bare j ns

-- one node more is at most one more that is no blank
bare-suc : (j : ℕ) (ns : List Node) → (length (bare (take j ns)) ≤ length (bare ns)) × (length (bare (take (suc j) ns)) ≤ suc (length (bare (take j ns))))
unfolding bare
bare-suc zero [] = omega arith
bare-suc zero (node B x ∷ ns) = omega arith
bare-suc zero (node M x ∷ ns) = omega arith
bare-suc zero (node E x ∷ ns) = omega arith
bare-suc zero (node N x ∷ ns) = omega arith
bare-suc (suc j) [] = omega arith
bare-suc (suc j) (node B x ∷ ns) = omega (arith, bare-suc j ns)
bare-suc (suc j) (node M x ∷ ns) = omega (arith, bare-suc j ns)
bare-suc (suc j) (node E x ∷ ns) = omega (arith, bare-suc j ns)
bare-suc (suc j) (node N x ∷ ns) = bare-suc j ns

module _ (ku kl : ℕ) where
  pub passes-bare : (ns : List Node) → Passes ku kl ns ↔ Passes ku kl (bare ns)
  passes-bare ns = (to, from)
    where
      to : Passes ku kl ns → Passes ku kl (bare ns)
      to h = runs-passes ku kl (bare ns) (bare_of ns h.ps) (bare_leads (λ w. true) ku kl ns [] h.ps (passes-runs ku kl ns h))

      from : Passes ku kl (bare ns) → Passes ku kl ns
      from h =
          let cs : List ℕ = choices (bare ns) h.ps in
          runs-passes ku kl ns (positions kl ns [] cs)
          (leads_bare (λ w. true) ku kl ns [] cs (omega arith) (lowers (λ w. true) ku kl (bare ns) [] h.ps (passes-runs ku kl (bare ns) h)).leads)

  -- nodes fail at the node where those that are no blanks do
  pub stops-bare : (ns : List Node) (i : ℕ) → StopsAt ku kl ns (suc i) → StopsAt ku kl (bare ns) (length (bare (take (suc i) ns)))
  stops-bare ns i s =
      let b : List Node = bare (take i ns) in
      record {
        within = (bare-suc (suc i) ns).0;
        stuck = λ h. s.stuck ((passes-bare (take (suc i) ns)).1 (rw (take_bare (suc i) ns) at h));
        sooner = λ j h.
            rw (← take-take j (length b) (bare ns) (omega (arith, bare-suc i ns)), take_bare i ns)
            (passes-take ku kl j b ((passes-bare (take i ns)).0 (s.sooner i (omega arith))));
      }
