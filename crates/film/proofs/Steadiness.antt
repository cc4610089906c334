-- Where every wire has the height that it has to reach, a gap changes nothing and draws nothing.
use mathlib.Core.Path.{◌≡◌, refl, ap, ◌∙◌}
use mathlib.Core.Bool.{Bool, true, false}
use mathlib.Core.List.{List, [], ◌∷◌}
use Prim.Native.Nat.{ℕ, suc, ◌+◌, ◌-◌, ◌≤◌, ◌<◌}
use native.Mathlib.Nat.{add-zero}
use native.Mathlib.Omega.{arith}
use lib.ListN.{length, get_or}
use borrow.Author.Tests.{le-ltb}
use Rattle.std.specs.Bool.{MatchBool}
use Rattle.std.specs.List.{AllWithin, range_with_len}
use Rattle.std.proofs.lemmas.List.FromFn.{get_or-range_with_len, length-range_with_len}
use Rattle.rules.specs.Basic.{pick}
use Rattle.rules.specs.Film.{Wire, Sweep, bent, drawn, climb, sink, gap}
use Rattle.film.specs.declared.moves.Plotter.{Plotter}
use Rattle.film.specs.declared.node.Node.{Node}
use Rattle.film.specs.Stamps.{laid}
use Rattle.film.specs.Wires.{missing}
use Rattle.film.specs.Moves.{aim, Reaches, Steady, Swept}

-- nothing moves
abbrev still : ℕ → List Wire → Sweep
still x ws = record { wires = ws; column = x; film = [] }

-- the wires of a list, of which q stand above, have their heights to reach
abbrev There : (ℕ → ℕ) → ℕ → List Wire → Type 0
There t q ws = (i : ℕ) → i < length ws → (get_or ws i missing).height ≡ t (q + i)

there-rest : (t : ℕ → ℕ) (q : ℕ) (w : Wire) (ws : List Wire) → There t q (w ∷ ws) → There t (suc q) ws
there-rest t q w ws h i l = h (suc i) (omega arith) ∙ ap t (omega arith)

climb-still : (t : ℕ → ℕ) (q x : ℕ) (ws : List Wire) → There t q ws → climb t q x ws ≡ still x ws
unfolding climb pick bent drawn
climb-still t q x [] h = refl
climb-still t q x (w ∷ ws) h =
    let e : w.height ≡ t q = h 0 (omega arith) ∙ ap t (add-zero q) in
    rw (le-ltb w.height (t q) (omega arith), climb-still t (suc q) x ws (there-rest t q w ws h))

sink-still : (t : ℕ → ℕ) (q x : ℕ) (ws : List Wire) → There t q ws → sink t q x ws ≡ still x ws
unfolding sink pick bent drawn
sink-still t q x [] h = refl
sink-still t q x (w ∷ ws) h =
    let e : w.height ≡ t q = h 0 (omega arith) ∙ ap t (add-zero q) in
    rw (le-ltb (t q) w.height (omega arith), sink-still t (suc q) x ws (there-rest t q w ws h))

gap-still : (t : ℕ → ℕ) (x : ℕ) (ws : List Wire) → There t 0 ws → gap t x ws ≡ still (suc x) ws
unfolding gap
gap-still t x ws h = rw (climb-still t 0 (suc x) ws h, sink-still t 0 (suc x) ws h)

pub steady-swept : (n : Node) (p : Plotter) (k : ℕ) → 1 ≤ p.pen.column → Reaches n p.pen.wires → Swept (gap (aim n) (p.pen.column - 1) p.pen.wires) k p p
unfolding laid
steady-swept n p k h r =
    let e : gap (aim n) (p.pen.column - 1) p.pen.wires ≡ still (suc (p.pen.column - 1)) p.pen.wires =
    gap-still (aim n) (p.pen.column - 1) p.pen.wires (λ i l. r i l ∙ ap (aim n) (omega arith)) in
    rw e
    (record {
      same = refl;
      nets = refl;
      count = refl;
      list = refl;
      column = omega arith;
      records = omega arith;
      bytes = refl;
      across = omega arith;
      room = omega arith;
    })

pub steady-reaches : (n : Node) (ws : List Wire) (b : Bool) → Steady n ws b → b ≡ true → Reaches n ws
steady-reaches n ws true r e = r
steady-reaches n ws false r e = let z : ◌≡◌ {A = ℕ} 0 1 = cc in absurd (omega arith)

-- where a test passes at each place, every wire has its height
pub all_steady : (n : Node) (ws : List Wire) (k : ℕ) (b : Bool) (Q : Type 0) → length ws ≤ k
    → MatchBool b (AllWithin (λ q. (get_or ws q missing).height ≡ aim n q) (range_with_len 0 k) 0 (length (range_with_len 0 k))) Q → Steady n ws b
all_steady n ws k true Q h all = λ q l.
    let z : 0 + q ≡ q = omega arith in
    let e : get_or (range_with_len 0 k) q 0 ≡ q = get_or-range_with_len 0 k q 0 (omega arith) ∙ z in
    rw e at (all q 0 (omega arith) (omega (arith, length-range_with_len 0 k)))
all_steady n ws k false Q h all = tt
