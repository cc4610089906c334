-- Nodes that pass do so from the first on, and failing is the failing node: the only one where they stop.
use mathlib.Core.Path.{◌≡◌, refl}
use mathlib.Core.Bool.{Bool, true, false, true≢false, false≢true}
use mathlib.Core.List.{List, []}
use mathlib.Core.Logic.{◌↔◌, ◌⊎◌, inl, inr}
use mathlib.Core.Option.{Option, none, some}
use Prim.Native.Nat.{ℕ, zero, suc, ◌≤◌, ◌<◌}
use lib.ListN.{length, take}
use lib.Seq.{take-length}
use lib.Dec.{leb}
use borrow.Author.Tests.{leb-true, leb-false}
use native.Mathlib.Nat.{eq-or-lt_of_le}
use native.Mathlib.Omega.{arith}
use Rattle.rules.specs.Basic.{is_none}
use Rattle.rules.specs.Row.{Node}
use Rattle.rules.specs.Street.{run, Passes, StopsAt, way, failing}
use Rattle.rules.proofs.Least.{least-le, least-holds, least-before}
use Rattle.rules.proofs.Runs.{Runs, ends_at, at-ends, runs-take}
use Rattle.rules.proofs.Search.{Right, way-right}

module _ (ku kl : ℕ) where
  pub runs-passes : (ns : List Node) (ps : List ℕ) → Runs ku kl ns [] ps → Passes ku kl ns
  runs-passes ns ps t = let w = ends_at (λ o. true) (run ku kl ns [] ps) t in record { ps = ps; order = w.0; runs = w.1 }

  pub passes-runs : (ns : List Node) (h : Passes ku kl ns) → Runs ku kl ns [] h.ps
  passes-runs ns h = at-ends (λ o. true) h.runs tt

  pub passes-nil : Passes ku kl []
  unfolding run
  passes-nil = record { ps = []; order = []; runs = refl }

  pub passes-take : (j : ℕ) (ns : List Node) → Passes ku kl ns → Passes ku kl (take j ns)
  passes-take j ns h = runs-passes (take j ns) (take j h.ps) (runs-take ku kl j ns [] h.ps (passes-runs ns h))

  pub passes-yes : (ns : List Node) → is_none (way (λ o. true) ku kl ns []) ≡ false → Passes ku kl ns
  unfolding is_none
  passes-yes ns e = go (way (λ o. true) ku kl ns []) (way-right (λ o. true) ku kl ns []) e
    where
      go : (r : Option (List ℕ)) → Right (Runs ku kl ns []) r → is_none r ≡ false → Passes ku kl ns
      go none h e = absurd (true≢false e)
      go (some ps) h e = runs-passes ns ps h.holds

  pub passes-no : (ns : List Node) → is_none (way (λ o. true) ku kl ns []) ≡ true → Passes ku kl ns → ⊥
  unfolding is_none
  passes-no ns e p = go (way (λ o. true) ku kl ns []) (way-right (λ o. true) ku kl ns []) e
    where
      go : (r : Option (List ℕ)) → Right (Runs ku kl ns []) r → is_none r ≡ true → ⊥
      go none h e = h p.ps (passes-runs ns p)
      go (some ps) h e = false≢true e

  pub passes-test : (ns : List Node) → is_none (way (λ o. true) ku kl ns []) ≡ false ↔ Passes ku kl ns
  passes-test ns = (passes-yes ns, λ p. go p (is_none (way (λ o. true) ku kl ns [])) refl)
    where
      go : Passes ku kl ns → (b : Bool) → is_none (way (λ o. true) ku kl ns []) ≡ b → b ≡ false
      go p true e = absurd (passes-no ns e p)
      go p false e = refl

  -- the test whose least number failing is
  abbrev stuck_after : List Node → ℕ → Bool
  stuck_after ns i = is_none (way (λ o. true) ku kl (take (suc i) ns) [])

  pub failing-le : (ns : List Node) → failing ku kl ns ≤ length ns
  unfolding failing
  failing-le ns = least-le (stuck_after ns) (length ns)

  pub failing-sooner : (ns : List Node) (j : ℕ) → j ≤ failing ku kl ns → Passes ku kl (take j ns)
  unfolding failing
  failing-sooner ns zero h = passes-nil
  failing-sooner ns (suc j) h = passes-yes (take (suc j) ns) (least-before (stuck_after ns) (length ns) j h)

  pub failing-stops : (ns : List Node) → failing ku kl ns < length ns → StopsAt ku kl ns (suc (failing ku kl ns))
  unfolding failing
  failing-stops ns h =
      record {
        within = h;
        stuck = passes-no (take (suc (failing ku kl ns)) ns) (least-holds (stuck_after ns) (length ns) h);
        sooner = λ j l. failing-sooner ns j (omega arith);
      }

  pub failing-passes : (ns : List Node) → failing ku kl ns ≡ length ns → Passes ku kl ns
  failing-passes ns e = rw (take-length ns) at (failing-sooner ns (length ns) (omega arith))

  stops-le : (ns : List Node) (i j : ℕ) → StopsAt ku kl ns i → StopsAt ku kl ns j → i ≤ j
  stops-le ns i j f g = go (leb i j) refl
    where
      go : (b : Bool) → leb i j ≡ b → i ≤ j
      go true e = leb-true i j e
      go false e = absurd (g.stuck (f.sooner j (leb-false i j e)))

  pub stops-unique : (ns : List Node) (i j : ℕ) → StopsAt ku kl ns i → StopsAt ku kl ns j → i ≡ j
  stops-unique ns i j f g = omega (arith, stops-le ns i j f g, stops-le ns j i g f)

  pub stops-failing : (ns : List Node) (i : ℕ) → StopsAt ku kl ns i → i ≡ suc (failing ku kl ns)
  stops-failing ns i f = go (eq-or-lt_of_le (failing-le ns))
    where
      go : (failing ku kl ns ≡ length ns) ⊎ (failing ku kl ns < length ns) → i ≡ suc (failing ku kl ns)
      go (inl e) = absurd (f.stuck (passes-take i ns (failing-passes ns e)))
      go (inr l) = stops-unique ns i (suc (failing ku kl ns)) f (failing-stops ns l)
