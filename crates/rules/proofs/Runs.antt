-- A run ends well exactly where each node's net stands at its position and the limits hold there; runs of parts are parts of runs.
use mathlib.Core.Path.{◌≡◌, refl, ap}
use mathlib.Core.Bool.{Bool, true, false, ◌&&◌}
use mathlib.Core.List.{List, [], ◌∷◌, ◌++◌}
use mathlib.Core.Option.{Option, none, some}
use Prim.Native.Nat.{ℕ, zero, suc}
use lib.ListN.{length, take}
use lib.Dec.{T}
use native.Mathlib.Omega.{arith}
use Rattle.rules.specs.Basic.{keep, and_then}
use Rattle.rules.specs.Row.{Node}
use Rattle.rules.specs.Street.{step, run, stands, fits_at, counted, kind, next}
use Rattle.rules.proofs.Fits.{FitsAt, fits_at→, →fits_at}

-- there is an order, and it is fine
abbrev pub Ends : (List ℕ → Bool) → Option (List ℕ) → Type 0
Ends fine none = ⊥
Ends fine (some w) = T (fine w)

pub ends_at : (fine : List ℕ → Bool) (r : Option (List ℕ)) → Ends fine r → (w : List ℕ) × (r ≡ some w) × T (fine w)
ends_at fine none t = absurd t
ends_at fine (some w) t = (w, refl, t)

pub at-ends : (fine : List ℕ → Bool) {r : Option (List ℕ)} {w : List ℕ} → r ≡ some w → T (fine w) → Ends fine r
at-ends fine e t = rw e t

-- the positions ps take the nodes from the order o to one that is fine
abbrev pub Leads : (List ℕ → Bool) → (ku kl : ℕ) → List Node → List ℕ → List ℕ → Type 0
Leads fine ku kl ns o ps = Ends fine (run ku kl ns o ps)

-- the positions ps take the nodes from the order o to another
abbrev pub Runs : (ku kl : ℕ) → List Node → List ℕ → List ℕ → Type 0
Runs ku kl ns o ps = Leads (λ w. true) ku kl ns o ps

-- what makes positions lead on from a node
pub record Onward (fine : List ℕ → Bool) (ku kl : ℕ) (n : Node) (ns : List Node) (o : List ℕ) (p : ℕ) (ps : List ℕ) : Type 0 where
  pub stood : T (stands n o p)
  pub fitted : FitsAt (kind n) ku kl p (counted (kind n) (length o))
  pub rest : Leads fine ku kl ns (next n o p) ps

test-true : (b : Bool) → T b → b ≡ true
test-true true t = refl
test-true false t = absurd t

module _ (fine : List ℕ → Bool) (ku kl : ℕ) (n : Node) (ns : List Node) (o : List ℕ) (p : ℕ) (ps : List ℕ) where
  abbrev fit : Bool
  fit = fits_at (kind n) ku kl p (counted (kind n) (length o))

  pub onward : Leads fine ku kl (n ∷ ns) o (p ∷ ps) → Onward fine ku kl n ns o p ps
  unfolding run step keep and_then
  onward t = go (stands n o p) fit refl refl t
    where
      go : (s f : Bool) → stands n o p ≡ s → fit ≡ f → Ends fine (and_then (keep (s && f) (next n o p)) (λ o'. run ku kl ns o' ps)) →
          Onward fine ku kl n ns o p ps
      go true true es ef t =
          record { stood = rw es tt; fitted = fits_at→ ku kl p (counted (kind n) (length o)) (kind n) (rw ef tt); rest = t }
      go true false es ef t = absurd t
      go false f es ef t = absurd t

  pub onward-leads : Onward fine ku kl n ns o p ps → Leads fine ku kl (n ∷ ns) o (p ∷ ps)
  unfolding run step keep and_then
  onward-leads g =
      rw (test-true (stands n o p) g.stood, test-true fit (→fits_at ku kl p (counted (kind n) (length o)) (kind n) g.fitted)) g.rest

module _ (ku kl : ℕ) where
  pub runs-rest : (n : Node) (ns : List Node) (o : List ℕ) (p : ℕ) (ps : List ℕ) →
      Runs ku kl (n ∷ ns) o (p ∷ ps) → Runs ku kl ns (next n o p) ps
  runs-rest n ns o p ps t = (onward (λ w. true) ku kl n ns o p ps t).rest

  pub runs-length : (ns : List Node) (o ps : List ℕ) → Runs ku kl ns o ps → length ps ≡ length ns
  unfolding run
  runs-length [] o [] t = refl
  runs-length [] o (p ∷ ps) t = absurd t
  runs-length (n ∷ ns) o [] t = absurd t
  runs-length (n ∷ ns) o (p ∷ ps) t = ap suc (runs-length ns (next n o p) ps (runs-rest n ns o p ps t))

  -- the first nodes, then the others from where those end
  pub run-append : (ns ms : List Node) (o ps qs : List ℕ) → length ps ≡ length ns →
      run ku kl (ns ++ ms) o (ps ++ qs) ≡ and_then (run ku kl ns o ps) (λ w. run ku kl ms w qs)
  unfolding run and_then
  run-append [] ms o [] qs e = refl
  run-append [] ms o (p ∷ ps) qs e = absurd (omega arith)
  run-append (n ∷ ns) ms o [] qs e = absurd (omega arith)
  run-append (n ∷ ns) ms o (p ∷ ps) qs e = go (step ku kl n o p) (λ o'. run-append ns ms o' ps qs (omega arith))
    where
      both : List ℕ → Option (List ℕ)
      both o' = run ku kl (ns ++ ms) o' (ps ++ qs)

      go : (x : Option (List ℕ)) → ((o' : List ℕ) → both o' ≡ and_then (run ku kl ns o' ps) (λ w. run ku kl ms w qs)) →
          and_then x both ≡ and_then (and_then x (λ o'. run ku kl ns o' ps)) (λ w. run ku kl ms w qs)
      go none h = refl
      go (some o') h = h o'

  pub runs-take : (j : ℕ) (ns : List Node) (o ps : List ℕ) → Runs ku kl ns o ps → Runs ku kl (take j ns) o (take j ps)
  unfolding run
  runs-take zero ns o ps t = tt
  runs-take (suc j) [] o [] t = tt
  runs-take (suc j) [] o (p ∷ ps) t = absurd t
  runs-take (suc j) (n ∷ ns) o [] t = absurd t
  runs-take (suc j) (n ∷ ns) o (p ∷ ps) t =
      let g = onward (λ w. true) ku kl n ns o p ps t in
      onward-leads (λ w. true) ku kl n (take j ns) o p (take j ps)
      (record { stood = g.stood; fitted = g.fitted; rest = runs-take j ns (next n o p) ps g.rest })
