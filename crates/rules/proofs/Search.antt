-- The search finds the first of all positions that lead to a fine order, or none where there are none; so first is the first placing.
use mathlib.Core.Path.{◌≡◌, refl, sym, ap}
use mathlib.Core.Bool.{Bool, true, false}
use mathlib.Core.List.{List, [], ◌∷◌}
use mathlib.Core.Logic.{◌⊎◌, inl, inr, ⊎_elim}
use mathlib.Core.Option.{Option, none, some}
use Prim.Native.Nat.{ℕ, zero, suc, ◌+◌, ◌≤◌, ◌<◌}
use lib.ListN.{length}
use native.Mathlib.Nat.{eq-or-lt_of_le}
use native.Mathlib.Omega.{arith}
use Rattle.rules.specs.Basic.{keep, and_then, or_else}
use Rattle.rules.specs.declared.Kind.{Kind}
use Rattle.rules.specs.declared.Kind.TheVariants.{B, M, E, N}
use Rattle.rules.specs.Row.{Node}
use Rattle.rules.specs.Street.{step, run, last, counted, kind, Placing, Earlier, here, there, IsFirst}
use Rattle.rules.specs.Street.{first_from, also, way, empty, first}
use Rattle.rules.proofs.Earlier.{earlier-asymmetric}
use Rattle.rules.proofs.Runs.{Ends, Leads, at-ends, onward}

-- of the lists with the property P, the first in reading order
pub record Foremost (P : List ℕ → Type 0) (ps : List ℕ) : Type 0 where
  pub holds : P ps
  pub others : (qs : List ℕ) → P qs → (qs ≡ ps) ⊎ Earlier ps qs

-- what is found is the first list with the property; where nothing is, no list has it
abbrev pub Right : (List ℕ → Type 0) → Option (List ℕ) → Type 0
Right P none = (qs : List ℕ) → P qs → ⊥
Right P (some ps) = Foremost P ps

pub right-map : (P Q : List ℕ → Type 0) → ((qs : List ℕ) → P qs → Q qs) → ((qs : List ℕ) → Q qs → P qs) →
    (r : Option (List ℕ)) → Right P r → Right Q r
right-map P Q f g none h = λ qs x. h qs (g qs x)
right-map P Q f g (some ps) h = record { holds = f ps h.holds; others = λ qs x. h.others qs (g qs x) }

pub foremost-unique : (P : List ℕ → Type 0) (ps qs : List ℕ) → Foremost P ps → Foremost P qs → ps ≡ qs
foremost-unique P ps qs f g = go (f.others qs g.holds) (g.others ps f.holds)
  where
    go : (qs ≡ ps) ⊎ Earlier ps qs → (ps ≡ qs) ⊎ Earlier qs ps → ps ≡ qs
    go (inl e) h = sym e
    go (inr l) (inl e) = e
    go (inr l) (inr m) = absurd (earlier-asymmetric l m)

pub right_unique : (P : List ℕ → Type 0) (r s : Option (List ℕ)) → Right P r → Right P s → r ≡ s
right_unique P none none f g = refl
right_unique P none (some qs) f g = absurd (f qs g.holds)
right_unique P (some ps) none f g = absurd (g ps f.holds)
right_unique P (some ps) (some qs) f g = ap {B = Option (List ℕ)} some (foremost-unique P ps qs f g)

-- a list with the property whose first number is one of k from p on
data Begins (P : List ℕ → Type 0) (p k : ℕ) : List ℕ → Type 0 where
  begins : {q : ℕ} {qs : List ℕ} → p ≤ q → q < p + k → P (q ∷ qs) → Begins P p k (q ∷ qs)

module _ (P : List ℕ → Type 0) where
  begins-holds : (p k : ℕ) (qs : List ℕ) → Begins P p k qs → P qs
  begins-holds p k qs (begins a b x) = x

  begins-none : (p : ℕ) (qs : List ℕ) → Begins P p 0 qs → ⊥
  begins-none p qs (begins a b x) = omega arith

  begins-widen : (p k : ℕ) (qs : List ℕ) → Begins P (suc p) k qs → Begins P p (suc k) qs
  begins-widen p k qs (begins {q} a b x) = begins {q = q} (omega arith) (omega arith) x

  begins-later : (p k : ℕ) (ps qs : List ℕ) → Begins P (suc p) k qs → Earlier (p ∷ ps) qs
  begins-later p k ps qs (begins a b x) = here a

  -- the first number is p, or one of those after it
  begins-split : (p k : ℕ) (qs : List ℕ) → Begins P p (suc k) qs →
      ((t : List ℕ) × (qs ≡ p ∷ t) × P (p ∷ t)) ⊎ Begins P (suc p) k qs
  begins-split p k qs (begins {q} {qs = t} a b x) = go (eq-or-lt_of_le a)
    where
      go : (p ≡ q) ⊎ (p < q) → ((u : List ℕ) × (q ∷ t ≡ p ∷ u) × P (p ∷ u)) ⊎ Begins P (suc p) k (q ∷ t)
      go (inl e) = inl (t, (cc), (rw e x))
      go (inr l) = inr (begins {q = q} l (omega arith) x)

  -- trying p, p + 1 and so on is right where each try is
  first_from-right : (f : ℕ → Option (List ℕ)) → ((p : ℕ) → Right (λ qs. P (p ∷ qs)) (f p)) →
      (p k : ℕ) → Right (Begins P p k) (first_from (λ q. also q (f q)) p k)
  unfolding first_from also or_else
  first_from-right f h p zero = begins-none p
  first_from-right f h p (suc k) = go (f p) (first_from (λ q. also q (f q)) (suc p) k) (h p) (first_from-right f h (suc p) k)
    where
      go : (a r : Option (List ℕ)) → Right (λ qs. P (p ∷ qs)) a → Right (Begins P (suc p) k) r →
          Right (Begins P p (suc k)) (or_else (also p a) r)
      go none r ha hr = right-map (Begins P (suc p) k) (Begins P p (suc k)) (begins-widen p k) narrow r hr
        where
          narrow : (qs : List ℕ) → Begins P p (suc k) qs → Begins P (suc p) k qs
          narrow qs b = ⊎_elim (λ u. absurd (ha u.0 u.2)) (λ c. c) (begins-split p k qs b)
      go (some ps) r ha hr = record { holds = begins {q = p} (omega arith) (omega arith) ha.holds; others = others }
        where
          same : (qs t : List ℕ) → qs ≡ p ∷ t → (t ≡ ps) ⊎ Earlier ps t → (qs ≡ p ∷ ps) ⊎ Earlier (p ∷ ps) qs
          same qs t e (inl s) = inl (cc)
          same qs t e (inr l) = inr (rw e (there refl l))

          others : (qs : List ℕ) → Begins P p (suc k) qs → (qs ≡ p ∷ ps) ⊎ Earlier (p ∷ ps) qs
          others qs b =
              ⊎_elim (λ u. same qs u.0 u.1 (ha.others u.0 u.2)) (λ c. inr (begins-later p k ps qs c))
              (begins-split p k qs b)

last-le : (k : Kind) (b : ℕ) → last k (counted k b) ≤ suc b
unfolding last counted
last-le B b = omega arith
last-le M b = omega arith
last-le E b = omega arith
last-le N b = omega arith

module _ (fine : List ℕ → Bool) (ku kl : ℕ) where
  -- the search tries every position that a node may have
  leads-begins : (n : Node) (ns : List Node) (o qs : List ℕ) → Leads fine ku kl (n ∷ ns) o qs →
      Begins (Leads fine ku kl (n ∷ ns) o) 1 (suc (length o)) qs
  unfolding run
  leads-begins n ns o [] t = absurd t
  leads-begins n ns o (q ∷ qs) t =
      let f = (onward fine ku kl n ns o q qs t).fitted in
      let h : q < 1 + suc (length o) = omega (arith, last-le (kind n) (length o)) in
      begins f.low h t

  pub way-right : (ns : List Node) (o : List ℕ) → Right (Leads fine ku kl ns o) (way fine ku kl ns o)
  unfolding way run keep and_then
  way-right [] o = end (fine o) refl
    where
      end : (b : Bool) → fine o ≡ b → Right (Leads fine ku kl [] o) (keep b [])
      end true e = record { holds = rw e tt; others = only }
        where
          only : (qs : List ℕ) → Leads fine ku kl [] o qs → (qs ≡ []) ⊎ Earlier [] qs
          only [] t = inl refl
          only (q ∷ qs) t = absurd t
      end false e = nothing
        where
          nothing : (qs : List ℕ) → Leads fine ku kl [] o qs → ⊥
          nothing [] t = rw e at t
          nothing (q ∷ qs) t = t
  way-right (n ∷ ns) o =
      right-map (Begins Here 1 (suc (length o))) Here (begins-holds Here 1 (suc (length o))) (leads-begins n ns o)
      (way fine ku kl (n ∷ ns) o)
      (first_from-right Here (λ p. and_then (step ku kl n o p) (λ o'. way fine ku kl ns o'))
      (λ p. on (step ku kl n o p) (λ o'. way-right ns o')) 1 (suc (length o)))
    where
      Here : List ℕ → Type 0
      Here = Leads fine ku kl (n ∷ ns) o

      on : (x : Option (List ℕ)) → ((o' : List ℕ) → Right (Leads fine ku kl ns o') (way fine ku kl ns o')) →
          Right (λ qs. Ends fine (and_then x (λ o'. run ku kl ns o' qs))) (and_then x (λ o'. way fine ku kl ns o'))
      on none h = λ qs t. t
      on (some o') h = h o'

pub ends-empty : (r : Option (List ℕ)) → Ends empty r → r ≡ some []
unfolding empty
ends-empty none t = absurd t
ends-empty (some []) t = refl
ends-empty (some (x ∷ w)) t = absurd t

empty-ends : {r : Option (List ℕ)} → r ≡ some [] → Ends empty r
unfolding empty
empty-ends e = at-ends empty e tt

module _ (ku kl : ℕ) (ns : List Node) where
  pub first-right : Right (Placing ku kl ns) (first ku kl ns)
  unfolding first
  first-right =
      right-map (Leads empty ku kl ns []) (Placing ku kl ns) (λ qs t. ends-empty (run ku kl ns [] qs) t) (λ qs e. empty-ends e)
      (first ku kl ns) (way-right empty ku kl ns [])

  pub first_some : (ps : List ℕ) → first ku kl ns ≡ some ps → IsFirst ku kl ns ps
  first_some ps e =
      let f : Foremost (Placing ku kl ns) ps = rw e at first-right in
      record { placing = f.holds; others = f.others }

  pub first-none : first ku kl ns ≡ none → (qs : List ℕ) → Placing ku kl ns qs → ⊥
  first-none e = rw e at first-right

  pub first-unique : (ps : List ℕ) → IsFirst ku kl ns ps → first ku kl ns ≡ some ps
  first-unique ps f =
      right_unique (Placing ku kl ns) (first ku kl ns) (some ps) first-right (record { holds = f.placing; others = f.others })

  pub is-first-unique : (ps qs : List ℕ) → IsFirst ku kl ns ps → IsFirst ku kl ns qs → ps ≡ qs
  is-first-unique ps qs f g = cc (first-unique ps f, first-unique qs g)

  pub no-placing : ((qs : List ℕ) → Placing ku kl ns qs → ⊥) → first ku kl ns ≡ none
  no-placing f = right_unique (Placing ku kl ns) (first ku kl ns) none first-right f
