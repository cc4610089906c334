-- In a gap each net moves at the column that the rules give it, and there alone.
use mathlib.Core.Path.{◌≡◌, refl, sym, ap, ap₂, ◌∙◌, subst}
use mathlib.Core.Bool.{Bool, true, false}
use mathlib.Core.List.Memᴰ
use mathlib.Core.List.{List, [], ◌∷◌, ◌++◌, Memᴰ}
use mathlib.Core.Logic.{◌≢◌}
use Prim.Native.Nat.{ℕ, suc, ◌+◌, ◌≤◌, ◌<◌}
use native.Mathlib.Omega.{arith}
use lib.Dec.{ltb, eqb}
use borrow.Author.Tests.{ltb-true, ltb-false, le-ltb, eq-eqb, ne_eqb}
use Rattle.rules.specs.Basic.{pick}
use Rattle.rules.specs.Film.{Rec, Wire, ran, bent, drawn, climb, sink, gap}
use Rattle.rules.proofs.Open.{times}
use Rattle.wires.specs.Levels.{Stop, height_in, rises, sinks, count, above, below, turn_at}
use Rattle.wires.proofs.Among.{All, nil, cons, all-at, all_map, here}
use Rattle.wires.proofs.Gap.{climb-nets}
use Rattle.wires.proofs.Steps.{open_nets, other-net}

-- the heights to reach, by place and by net
pub data Aims (t R : ℕ → ℕ) : ℕ → List ℕ → Type 0 where
  no-aim : {q : ℕ} → Aims t R q []
  aim : {q y : ℕ} {o : List ℕ} → t q ≡ R y → Aims t R (suc q) o → Aims t R q (y ∷ o)

-- wire v moves to height h at column m, where the test passes
record Turned (go : Bool) (h m : ℕ) (v : Wire) (film : List Rec) (wires : List Wire) : Type 0 where
  ends : go ≡ true → Memᴰ (ran m v) film
  goes : Memᴰ (bent go h m v) wires

here-first : (b : Bool) (h x : ℕ) (w : Wire) (film : List Rec) (ws : List Wire) → Turned b h x w (drawn b h x w ++ film) (bent b h x w ∷ ws)
unfolding drawn
here-first true h x w film ws = record { ends = λ e. Memᴰ.head refl; goes = Memᴰ.head refl }
here-first false h x w film ws = record { ends = λ e. let z : ◌≡◌ {A = ℕ} 0 1 = cc in absurd (omega arith); goes = Memᴰ.head refl }

here-last : (b : Bool) (h x : ℕ) (w : Wire) (film : List Rec) (ws : List Wire) → Turned b h x w (film ++ drawn b h x w) (bent b h x w ∷ ws)
unfolding drawn
here-last true h x w film ws = record { ends = λ e. Memᴰ.append_right film (Memᴰ.head refl); goes = Memᴰ.head refl }
here-last false h x w film ws = record { ends = λ e. let z : ◌≡◌ {A = ℕ} 0 1 = cc in absurd (omega arith); goes = Memᴰ.head refl }

same_turn : {b c : Bool} {h k m x : ℕ} {w v : Wire} {film : List Rec} {ws : List Wire} → b ≡ c → h ≡ k → x ≡ m → v ≡ w → Turned b h x w film ws → Turned c k m v film ws
same_turn {w = w} {v} {film} {ws} e f g i t = rw (i, ← e, ← f, ← g) t

-- no net stands twice
abbrev Once : List ℕ → Type 0
Once o = (x : ℕ) → times x o ≤ 1

later-once : (y : ℕ) (o : List ℕ) → Once (y ∷ o) → Once o
unfolding times
later-once y o h x = omega (arith, h x)

other : (w : Wire) (ws : List Wire) {v : Wire} → Once (open_nets (w ∷ ws)) → Memᴰ v ws → eqb w.net v.net ≡ false
other w ws {v} h d = ne_eqb w.net v.net (other-net {w = w} here (h v.net) d)

more-before : {b : Bool} {h m : ℕ} {v u : Wire} {film : List Rec} {ws : List Wire} (p : List Rec) → Turned b h m v film ws → Turned b h m v (p ++ film) (u ∷ ws)
more-before p t = record { ends = λ e. Memᴰ.append_right p (t.ends e); goes = Memᴰ.tail t.goes }

more-after : {b : Bool} {h m : ℕ} {v u : Wire} {film : List Rec} {ws : List Wire} (p : List Rec) → Turned b h m v film ws → Turned b h m v (film ++ p) (u ∷ ws)
more-after p t = record { ends = λ e. Memᴰ.append_left p (t.ends e); goes = Memᴰ.tail t.goes }

module _ (f : ℕ → Bool) (n k : ℕ) (o : List ℕ) where
  above-here : n ≡ k → above f k (n ∷ o) ≡ 0
  unfolding above pick
  above-here e = rw (eq-eqb n k e)

  above-next : eqb n k ≡ false → above f k (n ∷ o) ≡ pick (f n) 1 0 + above f k o
  unfolding above pick
  above-next e = rw e

  below-here : n ≡ k → below f k (n ∷ o) ≡ count f o
  unfolding below pick
  below-here e = rw (eq-eqb n k e)

  below_next : eqb n k ≡ false → below f k (n ∷ o) ≡ below f k o
  unfolding below pick
  below_next e = rw e

picked : (b c : Bool) (x : ℕ) → b ≡ c → pick b (suc x) x ≡ x + pick c 1 0
unfolding pick
picked true c x e = rw (← e) (omega arith)
picked false c x e = rw (← e) (omega arith)

module _ (t R : ℕ → ℕ) (f : ℕ → Bool) where
  -- ---- up-movers: f says which nets rise

  climb-column : (q x : ℕ) (ws : List Wire) → Aims t R q (open_nets ws) → All (λ w. ltb w.height (R w.net) ≡ f w.net) ws
      → (climb t q x ws).column ≡ x + count f (open_nets ws)
  unfolding climb count pick
  climb-column q x [] a g = omega arith
  climb-column q x (w ∷ ws) (aim e a) (cons r g) =
      climb-column (suc q) (pick (ltb w.height (t q)) (suc x) x) ws a g ∙ omega (arith, picked (ltb w.height (t q)) (f w.net) x (ap (ltb w.height) e ∙ r))

  climb-turns : (q x : ℕ) (ws : List Wire) → Aims t R q (open_nets ws) → All (λ w. ltb w.height (R w.net) ≡ f w.net) ws → Once (open_nets ws)
      → (v : Wire) → Memᴰ v ws → Turned (f v.net) (R v.net) (x + above f v.net (open_nets ws)) v (climb t q x ws).film (climb t q x ws).wires
  unfolding climb
  climb-turns q x [] a g o v d = absurd (Memᴰ.not-nil d)
  climb-turns q x (w ∷ ws) (aim e a) (cons r g) o v (Memᴰ.head i) =
      let n : w.net ≡ v.net = ap (λ u. u.net) (sym i) in
      same_turn (ap (ltb w.height) e ∙ r ∙ ap f n) (e ∙ ap R n) (omega (arith, above-here f w.net v.net (open_nets ws) n)) i
      (here-first (ltb w.height (t q)) (t q) x w (climb t (suc q) (pick (ltb w.height (t q)) (suc x) x) ws).film
      (climb t (suc q) (pick (ltb w.height (t q)) (suc x) x) ws).wires)
  climb-turns q x (w ∷ ws) (aim e a) (cons r g) o v (Memᴰ.tail d) =
      same_turn refl refl
      (omega (arith, picked (ltb w.height (t q)) (f w.net) x (ap (ltb w.height) e ∙ r), above-next f w.net v.net (open_nets ws) (other w ws o d))) refl
      (more-before (drawn (ltb w.height (t q)) (t q) x w)
      (climb-turns (suc q) (pick (ltb w.height (t q)) (suc x) x) ws a g (later-once w.net (open_nets ws) o) v d))

  -- whatever holds of wires, moved or not, at whatever column
  climb-all : (C : Wire → Type 0) (q x : ℕ) (ws : List Wire) → Aims t R q (open_nets ws)
      → All (λ w. (m : ℕ) → C (bent (ltb w.height (R w.net)) (R w.net) m w)) ws → All C (climb t q x ws).wires
  unfolding climb
  climb-all C q x [] a c = nil
  climb-all C q x (w ∷ ws) (aim e a) (cons h c) =
      cons (subst (λ k. C (bent (ltb w.height k) k x w)) (sym e) (h x)) (climb-all C (suc q) (pick (ltb w.height (t q)) (suc x) x) ws a c)

  -- ---- down-movers: f says which nets sink

  sink-column : (q x : ℕ) (ws : List Wire) → Aims t R q (open_nets ws) → All (λ w. ltb (R w.net) w.height ≡ f w.net) ws
      → (sink t q x ws).column ≡ x + count f (open_nets ws)
  unfolding sink count
  sink-column q x [] a g = omega arith
  sink-column q x (w ∷ ws) (aim e a) (cons r g) =
      picked (ltb (t q) w.height) (f w.net) (sink t (suc q) x ws).column (ap (λ k. ltb k w.height) e ∙ r)
      ∙ omega (arith, sink-column (suc q) x ws a g)

  sink-turns : (q x : ℕ) (ws : List Wire) → Aims t R q (open_nets ws) → All (λ w. ltb (R w.net) w.height ≡ f w.net) ws → Once (open_nets ws)
      → (v : Wire) → Memᴰ v ws → Turned (f v.net) (R v.net) (x + below f v.net (open_nets ws)) v (sink t q x ws).film (sink t q x ws).wires
  unfolding sink
  sink-turns q x [] a g o v d = absurd (Memᴰ.not-nil d)
  sink-turns q x (w ∷ ws) (aim e a) (cons r g) o v (Memᴰ.head i) =
      let n : w.net ≡ v.net = ap (λ u. u.net) (sym i) in
      same_turn (ap (λ k. ltb k w.height) e ∙ r ∙ ap f n) (e ∙ ap R n)
      (omega (arith, below-here f w.net v.net (open_nets ws) n, sink-column (suc q) x ws a g)) i
      (here-last (ltb (t q) w.height) (t q) (sink t (suc q) x ws).column w (sink t (suc q) x ws).film (sink t (suc q) x ws).wires)
  sink-turns q x (w ∷ ws) (aim e a) (cons r g) o v (Memᴰ.tail d) =
      same_turn refl refl (omega (arith, below_next f w.net v.net (open_nets ws) (other w ws o d))) refl
      (more-after (drawn (ltb (t q) w.height) (t q) (sink t (suc q) x ws).column w) (sink-turns (suc q) x ws a g (later-once w.net (open_nets ws) o) v d))

-- ---- the gap from one node to the next

-- what becomes of an open wire: it moves at its column, or it stays
pub record Passed (s u : Stop) (x : ℕ) (v : Wire) (film : List Rec) (wires : List Wire) : Type 0 where
  pub moved : v.height ≢ height_in u v.net
      → Memᴰ (ran (x + turn_at s u v.net) v) film × Memᴰ (bent true (height_in u v.net) (x + turn_at s u v.net) v) wires
  pub stayed : v.height ≡ height_in u v.net → Memᴰ v wires

module _ (tg : ℕ → ℕ) (s u : Stop) (x : ℕ) (ws : List Wire) (aims : Aims tg (height_in u) 0 (open_nets ws)) (same : open_nets ws ≡ s.onward)
    (heights : All (λ w. w.height ≡ height_in s w.net) ws) (once : Once (open_nets ws)) where
  abbrev R : ℕ → ℕ
  R = height_in u

  risen : All (λ w. ltb w.height (R w.net) ≡ rises s u w.net) ws
  unfolding rises
  risen = all_map (λ w e. ap (λ h. ltb h (R w.net)) e) heights

  sunk : All (λ w. ltb (R w.net) w.height ≡ sinks s u w.net) (climb tg 0 (suc x) ws).wires
  unfolding bent sinks
  sunk = climb-all tg R (rises s u) (λ w. ltb (R w.net) w.height ≡ sinks s u w.net) 0 (suc x) ws aims (all_map (λ w e m. go w e m (ltb w.height (R w.net)) refl) heights)
    where
      go : (w : Wire) → w.height ≡ height_in s w.net → (m : ℕ) (b : Bool) → ltb w.height (R w.net) ≡ b
          → ltb (R (bent b (R w.net) m w).net) (bent b (R w.net) m w).height ≡ sinks s u (bent b (R w.net) m w).net
      go w e m true q =
          let h : w.height < R w.net = ltb-true w.height (R w.net) q in
          le-ltb (R w.net) (R w.net) (omega arith) ∙ sym (le-ltb (R w.net) (height_in s w.net) (omega arith))
      go w e m false q = ap (ltb (R w.net)) e

  turn_up : (n : ℕ) → rises s u n ≡ true → suc x + above (rises s u) n (open_nets ws) ≡ x + turn_at s u n
  unfolding turn_at pick
  turn_up n e = rw (e, same) (omega arith)

  turn-down : (n : ℕ) → rises s u n ≡ false → suc x + count (rises s u) (open_nets ws) + below (sinks s u) n (open_nets ws) ≡ x + turn_at s u n
  unfolding turn_at pick
  turn-down n e = rw (e, same) (omega arith)

  pub gap-turns : (v : Wire) → Memᴰ v ws → Passed s u x v (gap tg x ws).film (gap tg x ws).wires
  unfolding gap bent rises sinks
  gap-turns v d =
      go (rises s u v.net) refl (sinks s u v.net) refl (climb-turns tg R (rises s u) 0 (suc x) ws aims risen once v d)
    where
      n : ℕ
      n = v.net

      f₁ : List Rec
      f₁ = (climb tg 0 (suc x) ws).film

      w₁ : List Wire
      w₁ = (climb tg 0 (suc x) ws).wires

      y : ℕ
      y = (climb tg 0 (suc x) ws).column

      n≡ : open_nets w₁ ≡ open_nets ws
      n≡ = climb-nets tg 0 (suc x) ws

      then-sink : (w : Wire) → Memᴰ w w₁
          → Turned (sinks s u w.net) (R w.net) (y + below (sinks s u) w.net (open_nets w₁)) w (sink tg 0 y w₁).film (sink tg 0 y w₁).wires
      then-sink = sink-turns tg R (sinks s u) 0 y w₁ (subst (Aims tg R 0) (sym n≡) aims) sunk (subst Once (sym n≡) once)

      height : v.height ≡ height_in s n
      height = all-at heights d

      down : y + below (sinks s u) n (open_nets w₁) ≡ suc x + count (rises s u) (open_nets ws) + below (sinks s u) n (open_nets ws)
      down = ap₂ (λ a o. a + below (sinks s u) n o) (climb-column tg R (rises s u) 0 (suc x) ws aims risen) n≡

      go : (a : Bool) → rises s u n ≡ a → (b : Bool) → sinks s u n ≡ b → Turned (rises s u n) (R n) (suc x + above (rises s u) n (open_nets ws)) v f₁ w₁
          → Passed s u x v (f₁ ++ (sink tg 0 y w₁).film) (sink tg 0 y w₁).wires
      go true p true q c = absurd (omega (arith, ltb-true (height_in s n) (R n) p, ltb-true (R n) (height_in s n) q))
      go true p false q c =
          let c' = same_turn p refl (turn_up n p) refl c in
          let k = same_turn q refl refl refl (then-sink (bent true (R n) (x + turn_at s u n) v) c'.goes) in
          record {
            moved = λ z. (Memᴰ.append_left (sink tg 0 y w₁).film (c'.ends refl), k.goes);
            stayed = λ z. absurd (omega (arith, height, ltb-true (height_in s n) (R n) p));
          }
      go false p true q c =
          let c' = same_turn p refl refl refl c in
          let k = same_turn q refl (down ∙ turn-down n p) refl (then-sink v c'.goes) in
          record {
            moved = λ z. (Memᴰ.append_right f₁ (k.ends refl), k.goes);
            stayed = λ z. absurd (omega (arith, height, ltb-true (R n) (height_in s n) q));
          }
      go false p false q c =
          let c' = same_turn p refl refl refl c in
          let k = same_turn q refl refl refl (then-sink v c'.goes) in
          record {
            moved = λ z. absurd (z (omega (arith, height, ltb-false (height_in s n) (R n) p, ltb-false (R n) (height_in s n) q)));
            stayed = λ z. k.goes;
          }
