-- Which horizontals of a film lie over a unit stretch: before the next event those of the open wires, and never two of one net.
use mathlib.Core.Path.{◌≡◌, refl, sym, ap, ◌∙◌, subst}
use mathlib.Core.Bool.{true}
use mathlib.Core.List.Memᴰ
use mathlib.Core.List.{List, Memᴰ}
use mathlib.Core.Logic.{inl, inr}
use mathlib.Core.Option.{Option}
use Prim.Native.Nat.{ℕ, ◌≤◌, ◌<◌}
use native.Mathlib.Omega.{arith}
use borrow.Author.Tests.{le-leb, lt-ltb, eq-eqb}
use Rattle.rules.specs.Basic.{pick}
use Rattle.rules.specs.Film.{Rec, across, Wire, ran, wall, bent}
use Rattle.rules.specs.WireRules.{over, overs}
use Rattle.rules.proofs.Open.{times}
use Rattle.wires.specs.Levels.{Over}
use Rattle.wires.proofs.Among.{All, more-in}
use Rattle.wires.proofs.Gap.{Moves, still, move}
use Rattle.wires.proofs.Trace.{Trace, Track}
use Rattle.wires.proofs.Steps.{open_nets, in-nets, Runs, Good, Steps, more-times, not-wall, turn-event}
use Rattle.wires.proofs.Rules.{Ahead, run-ahead, ahead, cuts}
use Rattle.wires.proofs.Joins.{run_ends}

pub over-in : {film more : List Rec} {x c h : ℕ} → ((r : Rec) → Memᴰ r film → Memᴰ r more) → Over film x c h → Over more x c h
over-in f o = record { left = o.left; right = o.right; among = f (across _ _ o.left o.right) o.among; begins = o.begins; ends = o.ends }

-- before column x the film has the runs of the open wires
pub over-open : {ku kl x n c h : ℕ} {ws : List Wire} {film : List Rec} → Steps ku kl x ws film → c < x → Over film n c h → (l : ℕ) × Runs ws n h l
over-open {x = x} {n} {c} {h} {ws} s k o = go (ahead s (across n h o.left o.right) o.among)
  where
    go : Ahead x ws (across n h o.left o.right) → (l : ℕ) × Runs ws n h l
    go (run-ahead a (inl p)) = absurd (omega (arith, o.begins))
    go (run-ahead a (inr p)) = (o.left, p)

pub over-wire : {pitch ku kl i x : ℕ} {ws : List Wire} {pins : List (Option ℕ)} {hs : List ℕ} {film : List Rec} → Trace pitch ku kl i x ws pins hs film
    → (w : Wire) → Memᴰ w ws → (c : ℕ) → w.since ≤ c → c < x → Over film w.net c w.height
unfolding ran
over-wire t w d c a b = let q = run_ends t w d in record { left = w.since; right = q.0; among = q.2; begins = a; ends = omega (arith, q.1) }

-- ---- never two of one net

over-true : (n c h l r : ℕ) → l ≤ c → c < r → over n c (across n h l r) ≡ true
unfolding over
over-true n c h l r a b = rw (eq-eqb n n refl, le-leb l c a, lt-ltb c r b)

overs-one : (n c : ℕ) {r : Rec} {film : List Rec} → Memᴰ r film → over n c r ≡ true → 1 ≤ overs n c film
unfolding overs pick
overs-one n c (Memᴰ.head {x} {xs} e) o = rw (ap (over n c) (sym e) ∙ o) (omega arith)
overs-one n c (Memᴰ.tail d) o = omega (arith, overs-one n c d o)

overs-same : (n c : ℕ) {r q : Rec} {film : List Rec} → overs n c film ≤ 1 → Memᴰ r film → Memᴰ q film → over n c r ≡ true → over n c q ≡ true → r ≡ q
unfolding overs pick
overs-same n c h (Memᴰ.head e) (Memᴰ.head f) o p = e ∙ sym f
overs-same n c h (Memᴰ.head e) (Memᴰ.tail d) o p = absurd (omega (arith, overs-one n c d p, rw (ap (over n c) (sym e) ∙ o) at h))
overs-same n c h (Memᴰ.tail d) (Memᴰ.head e) o p = absurd (omega (arith, overs-one n c d o, rw (ap (over n c) (sym e) ∙ p) at h))
overs-same n c h (Memᴰ.tail d) (Memᴰ.tail e) o p = overs-same n c (omega arith) d e o p

pub over-same : {ku kl x n c h k : ℕ} {ws : List Wire} {film : List Rec} → Steps ku kl x ws film → times n (open_nets ws) ≤ 1
    → (o : Over film n c h) (p : Over film n c k) → across n h o.left o.right ≡ across n k p.left p.right
over-same {n = n} {c} {h} {k} s t o p =
    overs-same n c (cuts s n t c) o.among p.among (over-true n c h o.left o.right o.begins o.ends) (over-true n c k p.left p.right p.begins p.ends)

pub over-once : {ku kl x n c h k : ℕ} {ws : List Wire} {film : List Rec} → Steps ku kl x ws film → times n (open_nets ws) ≤ 1 → Over film n c h → Over film n c k → h ≡ k
over-once s t o p = let e = over-same s t o p in cc

-- ---- the moves of a gap

module _ {P : ℕ → Type 0} where
  pub moves-last : {x y : ℕ} {ws vs : List Wire} {film : List Rec} → Moves P x ws film y vs → x ≤ y
  moves-last still = omega arith
  moves-last (move p k m m' a t) = omega (arith, moves-last t)

  -- runs end before the column after the last move, and are of nets that were open
  pub moves-runs : {x y n h l r : ℕ} {ws vs : List Wire} {film : List Rec} → Moves P x ws film y vs → Memᴰ (across n h l r) film → (r < y) × (0 < times n (open_nets ws))
  unfolding ran wall bent
  moves-runs still d = absurd (Memᴰ.not-nil d)
  moves-runs {n = n} {r = r} (move {x} {w = w} {ws = ws} p k m m' a t) (Memᴰ.head e) =
      let r≡ : r ≡ x = cc in
      let n≡ : w.net ≡ n = cc in
      (omega (arith, moves-last t), subst (λ z. 0 < times z (open_nets ws)) n≡ (in-nets (more-in m)))
  moves-runs (move p k m m' a t) (Memᴰ.tail (Memᴰ.head e)) = absurd (not-wall e)
  moves-runs {n = n} (move p k m m' a t) (Memᴰ.tail (Memᴰ.tail d)) = let q = moves-runs t d in (q.0, omega (arith, q.1, more-times n m, more-times n m'))

pub moves-good : {ku kl x y : ℕ} {ws vs : List Wire} {film : List Rec} → Moves (Track ku kl) x ws film y vs → All (Good ku kl x) ws → All (Good ku kl y) vs
moves-good still g = g
moves-good {ku} {kl} (move {x = x} p k m m' a t) g = moves-good t ((turn-event ku kl x x (omega arith) p k m m' a).good g)
