-- How many nets nodes without a fault have: each node begins one, ends one, or does neither.
use mathlib.Core.Path.{◌≡◌, refl, sym, ◌∙◌}
use mathlib.Core.Logic.{◌⊎◌, ⊎_elim}
use mathlib.Core.Bool.{Bool, true, false}
use mathlib.Core.List.{List, [], ◌∷◌}
use Prim.Native.Nat.{ℕ, zero, suc, ◌+◌, ◌*◌, ◌≤◌, ◌<◌}
use native.Mathlib.Omega.{arith}
use lib.ListN.{length, length-map}
use lib.Dec.{leb, ltb}
use borrow.Author.Tests.{lt-ltb, le-ltb, lt-leb}
use Rattle.rules.specs.declared.Kind.{Kind}
use Rattle.rules.specs.declared.Kind.TheVariants.{B, M, E, N}
use Rattle.rules.specs.Street.{last, counted}
use Rattle.rules.specs.Sheet.{kind_in, Entry, entry, begun, begun_by}
use Rattle.rules.specs.Judgement.{left}
use Rattle.rules.proofs.Fits.{FitsAt}
use Rattle.rules.proofs.Legal.{Legal, done, then}
use Rattle.sheet.specs.Fields.{entry_in, entries_in, Faultless}
use Rattle.sheet.specs.Told.{kind_at}
use Rattle.std.specs.Bool.{MatchBool}
use Rattle.std.specs.List.{AllWithin, HoldsAt}
use Rattle.sheet.proofs.Walks.{faultless-legal}

-- 1 for a node that neither begins nor ends a net
abbrev between : Kind → ℕ
between B = 0
between M = 1
between E = 0
between N = 1

-- such nodes among entries
pub betweens : List Entry → ℕ
betweens [] = 0
betweens (entry f a ∷ es) = between (kind_in f) + betweens es

-- a net that begins ends
betweens-nets : {ku kl b : ℕ} {es : List Entry} → Legal ku kl b es → (n : ℕ) → 2 * begun_by n es + b + betweens es ≡ 2 * n + length es
unfolding begun_by begun betweens left last counted
betweens-nets done n = omega arith
betweens-nets {ku} {kl} (then {b} {f} {a} {es} h l) n = go (kind_in f) h (betweens-nets l (begun (kind_in f) n))
  where
    go : (k : Kind) → FitsAt k ku kl (suc a) (counted k b) → 2 * begun_by (begun k n) es + left k b + betweens es ≡ 2 * begun k n + length es
        → 2 * begun_by (begun k n) es + b + (between k + betweens es) ≡ 2 * n + suc (length es)
    go B h e = omega arith
    go M h e = omega arith
    go E h e = omega (arith, h.high)
    go N h e = omega arith

-- a node begins a net or ends one
abbrev pub Outer : ℕ → Type 0
Outer x = (kind_at (entry_in x) ≡ B) ⊎ (kind_at (entry_in x) ≡ E)

-- it does neither
abbrev pub Inner : ℕ → Type 0
Inner x = (kind_at (entry_in x) ≡ M) ⊎ (kind_at (entry_in x) ≡ N)

betweens-cons : (e : Entry) (es : List Entry) → betweens (e ∷ es) ≡ between (kind_at e) + betweens es
unfolding betweens kind_at
betweens-cons (entry f a) es = refl

betweens-none : (fs : List ℕ) → AllWithin Outer fs 0 (length fs) → betweens (entries_in fs) ≡ 0
unfolding betweens
betweens-none [] h = refl
betweens-none (x ∷ fs) h =
    let zero : between (kind_at (entry_in x)) ≡ 0 = ⊎_elim (λ e. rw e) (λ e. rw e) (h 0 0 (omega arith) (omega arith)) in
    let rest = betweens-none fs (λ k d l m. h (suc k) d (omega arith) (omega arith)) in
    omega (arith, betweens-cons (entry_in x) (entries_in fs), zero, rest)

betweens-some : (fs : List ℕ) (k : ℕ) → k < length fs → HoldsAt Inner fs k → 1 ≤ betweens (entries_in fs)
betweens-some [] k l h = absurd (omega arith)
betweens-some (x ∷ fs) zero l h =
    let one : between (kind_at (entry_in x)) ≡ 1 = ⊎_elim (λ e. rw e) (λ e. rw e) (h 0) in
    omega (arith, betweens-cons (entry_in x) (entries_in fs), one)
betweens-some (x ∷ fs) (suc k) l h =
    omega (arith, betweens-cons (entry_in x) (entries_in fs), betweens-some fs k (omega arith) h)

module _ {ku kl : ℕ} (fs : List ℕ) (c : Faultless ku kl fs) where
  -- how many nets they have
  abbrev nets : ℕ
  nets = begun_by 0 (entries_in fs)

  all-nets : 2 * nets + betweens (entries_in fs) ≡ length fs
  all-nets = omega (arith, betweens-nets (faultless-legal c) 0, length-map fs entry_in)

  -- fewer than 512 nodes have at most 255 nets
  pub nets-short : length fs < 512 → leb 512 (length fs) ≡ ltb 255 nets
  nets-short h = lt-leb 512 (length fs) h ∙ sym (le-ltb 255 nets (omega (arith, all-nets)))

  -- where all 512 nodes are the first or the last of their nets there are 256 nets, and else at most 255
  pub nets-told : 512 ≤ length fs → (r : Bool) → MatchBool r (AllWithin Outer fs 0 (length fs)) ((k : ℕ) × (k < length fs) × HoldsAt Inner fs k) → r ≡ ltb 255 nets
  nets-told q true h = sym (lt-ltb 255 nets (omega (arith, all-nets, betweens-none fs h)))
  nets-told q false h = sym (le-ltb 255 nets (omega (arith, all-nets, c.few, betweens-some fs h.0 h.1 h.2)))
