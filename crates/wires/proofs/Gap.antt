-- The gap: from any strictly falling heights to any others, each wire's move crosses no other wire, and each has a column of its own.
use mathlib.Core.Path.{◌≡◌, refl, sym, ap, ap₂, ◌∙◌, subst, subst₂}
use mathlib.Core.Bool.{Bool, true, false}
use mathlib.Core.List.{List, [], ◌∷◌, ◌++◌, map, append_assoc}
use mathlib.Core.Logic.{◌≢◌}
use Prim.Native.Nat.{ℕ, suc, ◌+◌, ◌≤◌, ◌<◌, min, max}
use native.Mathlib.Omega.{arith}
use lib.ListN.{length, length-map}
use lib.Dec.{ltb}
use borrow.Author.Tests.{ltb-true, ltb-false, le-ltb}
use Rattle.rules.specs.Basic.{pick}
use Rattle.rules.specs.Film.{Rec, Wire, ran, wall, bent, drawn, climb, sink, gap}
use Rattle.wires.proofs.Among.{All, nil, cons, all_append, all_map, More, more-mid}

-- height v lies outside the closed stretch between a and b
abbrev pub Clear : (a b v : ℕ) → Type 0
Clear a b v = min a b ≤ v → v ≤ max a b → ⊥

abbrev pub Aside : (a b : ℕ) → Wire → Type 0
Aside a b v = Clear a b v.height

-- moves from wires ws to wires vs, in columns x to y − 1, one after the other: each to a height of P, with every other wire clear of it
pub data Moves (P : ℕ → Type 0) : (x : ℕ) → List Wire → List Rec → (y : ℕ) → List Wire → Type 0 where
  still : {x : ℕ} {ws : List Wire} → Moves P x ws [] x ws
  move : {x h y : ℕ} {w : Wire} {others ws us vs : List Wire} {film : List Rec} → P h → h ≢ w.height
      → More w others ws → More (bent true h x w) others us → All (Aside h w.height) others
      → Moves P (suc x) us film y vs → Moves P x ws (ran x w ∷ wall x h w ∷ film) y vs

pub moves-join : {P : ℕ → Type 0} {x y z : ℕ} {us vs ws : List Wire} {f g : List Rec} → Moves P x us f y vs → Moves P y vs g z ws → Moves P x us (f ++ g) z ws
moves-join still n = n
moves-join (move p d m m' a r) n = move p d m m' a (moves-join r n)

-- heights strictly fall from top to bottom
pub data Falling : List Wire → Type 0 where
  bare : Falling []
  under : {w : Wire} {ws : List Wire} → All (λ v. v.height < w.height) ws → Falling ws → Falling (w ∷ ws)

-- and so do the n heights to reach from place q on
abbrev pub Falls : (ℕ → ℕ) → (q n : ℕ) → Type 0
Falls t q n = (i j : ℕ) → q ≤ i → i < j → j < q + n → t j < t i

-- something holds of each of those
abbrev pub Each : (ℕ → Type 0) → (q n : ℕ) → Type 0
Each C q n = (i : ℕ) → q ≤ i → i < q + n → C i

-- each wire has the height to reach at its place
pub data Reached (t : ℕ → ℕ) : ℕ → List Wire → Type 0 where
  no-wire : {q : ℕ} → Reached t q []
  wire : {q : ℕ} {w : Wire} {ws : List Wire} → w.height ≡ t q → Reached t (suc q) ws → Reached t q (w ∷ ws)

-- each wire is there or above
data Above (t : ℕ → ℕ) : ℕ → List Wire → Type 0 where
  none_above : {q : ℕ} → Above t q []
  above : {q : ℕ} {w : Wire} {ws : List Wire} → t q ≤ w.height → Above t (suc q) ws → Above t q (w ∷ ws)

-- what holds of the heights to reach holds of wires that have them
pub reached-all : {t : ℕ → ℕ} (C : ℕ → Type 0) {q : ℕ} {ws : List Wire} → Reached t q ws → Each (λ i. C (t i)) q (length ws) → All (λ v. C v.height) ws
reached-all C no-wire f = nil
reached-all C (wire {q} e r) f = cons (subst C (sym e) (f q (omega arith) (omega arith))) (reached-all C r (λ i a b. f i (omega arith) (omega arith)))

module _ {P : ℕ → Type 0} where
  shift : {x y : ℕ} {film : List Rec} (us : List Wire) (w v : Wire) (ws vs : List Wire)
      → Moves P x ((us ++ (w ∷ [])) ++ ws) film y ((us ++ (v ∷ [])) ++ vs) → Moves P x (us ++ w ∷ ws) film y (us ++ v ∷ vs)
  shift {x} {y} {film} us w v ws vs m =
      subst₂ (λ a b. Moves P x a film y b) (append_assoc us (w ∷ []) ws) (append_assoc us (v ∷ []) vs) m

module _ (t : ℕ → ℕ) where
  -- ---- up-movers

  pub climb-nets : (q x : ℕ) (ws : List Wire) → map (λ w. w.net) (climb t q x ws).wires ≡ map (λ w. w.net) ws
  unfolding climb bent pick
  climb-nets q x [] = refl
  climb-nets q x (w ∷ ws) = step (ltb w.height (t q)) (climb-nets (suc q) (suc x) ws) (climb-nets (suc q) x ws)
    where
      step : (up : Bool) → map (λ w. w.net) (climb t (suc q) (suc x) ws).wires ≡ map (λ w. w.net) ws
          → map (λ w. w.net) (climb t (suc q) x ws).wires ≡ map (λ w. w.net) ws
          → map (λ w. w.net) (bent up (t q) x w ∷ (climb t (suc q) (pick up (suc x) x) ws).wires) ≡ map (λ w. w.net) (w ∷ ws)
      step true e e' = ap {B = List ℕ} (λ l. w.net ∷ l) e
      step false e e' = ap {B = List ℕ} (λ l. w.net ∷ l) e'

  -- no wire comes to the height m
  climb-under : (m q x : ℕ) (ws : List Wire) → All (λ v. v.height < m) ws → Each (λ i. t i < m) q (length ws)
      → All (λ v. v.height < m) (climb t q x ws).wires
  unfolding climb bent
  climb-under m q x [] a g = nil
  climb-under m q x (w ∷ ws) (cons h a) g =
      cons (step (ltb w.height (t q))) (climb-under m (suc q) (pick (ltb w.height (t q)) (suc x) x) ws a (λ i k l. g i (omega arith) (omega arith)))
    where
      step : (up : Bool) → (bent up (t q) x w).height < m
      step true = g q (omega arith) (omega arith)
      step false = h

  climb-falling : (q x : ℕ) (ws : List Wire) → Falling ws → Falls t q (length ws) → Falling (climb t q x ws).wires
  unfolding climb bent
  climb-falling q x [] f g = bare
  climb-falling q x (w ∷ ws) (under b f) g =
      under (climb-under (bent (ltb w.height (t q)) (t q) x w).height (suc q) (pick (ltb w.height (t q)) (suc x) x) ws
      (all_map (λ v h. first (ltb w.height (t q)) refl v h) b)
      (λ i k l. reach (ltb w.height (t q)) refl i (g q i (omega arith) k (omega arith))))
      (climb-falling (suc q) (pick (ltb w.height (t q)) (suc x) x) ws f (λ i j h k l. g i j (omega arith) k (omega arith)))
    where
      first : (up : Bool) → ltb w.height (t q) ≡ up → (v : Wire) → v.height < w.height → v.height < (bent up (t q) x w).height
      first true e v h = omega (arith, ltb-true)
      first false e v h = h

      reach : (up : Bool) → ltb w.height (t q) ≡ up → (i : ℕ) → t i < t q → t i < (bent up (t q) x w).height
      reach true e i h = h
      reach false e i h = omega (arith, ltb-false)

  climb-above : (q x : ℕ) (ws : List Wire) → Above t q (climb t q x ws).wires
  unfolding climb bent
  climb-above q x [] = none_above
  climb-above q x (w ∷ ws) = above (step (ltb w.height (t q)) refl) (climb-above (suc q) (pick (ltb w.height (t q)) (suc x) x) ws)
    where
      step : (up : Bool) → ltb w.height (t q) ≡ up → t q ≤ (bent up (t q) x w).height
      step true e = omega arith
      step false e = ltb-false w.height (t q) e

  -- topmost first: those above are past the heights to reach, those below still under the one that moves
  climb-moves : {P : ℕ → Type 0} (us ws : List Wire) (q x : ℕ) → Falling ws → Falls t q (length ws) → Each (λ i. P (t i)) q (length ws)
      → All (λ u. Each (λ i. t i < u.height) q (length ws)) us
      → Moves P x (us ++ ws) (climb t q x ws).film (climb t q x ws).column (us ++ (climb t q x ws).wires)
  unfolding climb bent drawn pick
  climb-moves us [] q x f g p a = still
  climb-moves {P} us (w ∷ ws) q x (under b f) g p a =
      step (ltb w.height (t q)) refl
      (λ v y e. climb-moves (us ++ (v ∷ [])) ws (suc q) y f (λ i j h k l. g i j (omega arith) k (omega arith)) (λ i h k. p i (omega arith) (omega arith))
      (all_append (all_map (λ u c i h k. c i (omega arith) (omega arith)) a)
      (cons (λ i h k. omega (arith, g q i (omega arith) h (omega arith))) nil)))
    where
      step : (up : Bool) → ltb w.height (t q) ≡ up
          → ((v : Wire) (y : ℕ) → t q ≤ v.height
          → Moves P y ((us ++ (v ∷ [])) ++ ws) (climb t (suc q) y ws).film (climb t (suc q) y ws).column ((us ++ (v ∷ [])) ++ (climb t (suc q) y ws).wires))
          → Moves P x (us ++ w ∷ ws) (drawn up (t q) x w ++ (climb t (suc q) (pick up (suc x) x) ws).film)
          (climb t (suc q) (pick up (suc x) x) ws).column (us ++ bent up (t q) x w ∷ (climb t (suc q) (pick up (suc x) x) ws).wires)
      step true e ih =
          let v : Wire = bent true (t q) x w in
          let h : w.height < t q = ltb-true w.height (t q) e in
          move (p q (omega arith) (omega arith)) (λ (z : t q ≡ w.height). omega arith) (more-mid us ws) (more-mid us ws)
          (all_append (all_map (λ u c k l. omega (arith, c q (omega arith) (omega arith))) a) (all_map (λ u c k l. omega arith) b))
          (shift us v v ws (climb t (suc q) (suc x) ws).wires (ih v (suc x) (omega arith)))
      step false e ih = shift us w w ws (climb t (suc q) x ws).wires (ih w x (ltb-false w.height (t q) e))

  -- ---- down-movers

  sink-nets : (q x : ℕ) (ws : List Wire) → map (λ w. w.net) (sink t q x ws).wires ≡ map (λ w. w.net) ws
  unfolding sink bent
  sink-nets q x [] = refl
  sink-nets q x (w ∷ ws) = ap₂ {C = List ℕ} (λ n l. n ∷ l) (step (ltb (t q) w.height)) (sink-nets (suc q) x ws)
    where
      step : (down : Bool) → (bent down (t q) (sink t (suc q) x ws).column w).net ≡ w.net
      step true = refl
      step false = refl

  sink-reached : (q x : ℕ) {ws : List Wire} → Above t q ws → Reached t q (sink t q x ws).wires
  unfolding sink bent
  sink-reached q x none_above = no-wire
  sink-reached q x (above {w = w} {ws} h a) = wire (step (ltb (t q) w.height) refl) (sink-reached (suc q) x a)
    where
      step : (down : Bool) → ltb (t q) w.height ≡ down → (bent down (t q) (sink t (suc q) x ws).column w).height ≡ t q
      step true e = refl
      step false e = omega (arith, ltb-false)

  -- bottommost first: those above are where they were, those below have reached their heights
  sink-moves : {P : ℕ → Type 0} (us ws : List Wire) (q x : ℕ) → Falling ws → Falls t q (length ws) → Each (λ i. P (t i)) q (length ws) → Above t q ws
      → All (λ u. All (λ v. v.height < u.height) ws) us
      → Moves P x (us ++ ws) (sink t q x ws).film (sink t q x ws).column (us ++ (sink t q x ws).wires)
  unfolding sink bent drawn pick
  sink-moves us [] q x f g p k a = still
  sink-moves {P} us (w ∷ ws) q x (under b f) g p (above h k) a =
      moves-join
      (shift us w w ws vs
      (sink-moves (us ++ (w ∷ [])) ws (suc q) x f (λ i j h k l. g i j (omega arith) k (omega arith)) (λ i h k. p i (omega arith) (omega arith)) k
      (all_append (all_map (λ u c. below c) a) (cons b nil))))
      (step (ltb (t q) w.height) refl)
    where
      head : {C : Wire → Type 0} → All C (w ∷ ws) → C w
      head (cons c l) = c

      below : {C : Wire → Type 0} → All C (w ∷ ws) → All C ws
      below (cons c l) = l

      vs : List Wire
      vs = (sink t (suc q) x ws).wires

      y : ℕ
      y = (sink t (suc q) x ws).column

      step : (down : Bool) → ltb (t q) w.height ≡ down → Moves P y (us ++ w ∷ vs) (drawn down (t q) y w) (pick down (suc y) y) (us ++ bent down (t q) y w ∷ vs)
      step true e =
          let l : t q < w.height = ltb-true (t q) w.height e in
          let n : length vs ≡ length ws = sym (length-map vs (λ v. v.net)) ∙ ap length (sink-nets (suc q) x ws) ∙ length-map ws (λ v. v.net) in
          move (p q (omega arith) (omega arith)) (λ (z : t q ≡ w.height). omega arith) (more-mid us vs) (more-mid us vs)
          (all_append (all_map (λ u c r s. omega (arith, head c)) a)
          (reached-all (Clear (t q) w.height) (sink-reached (suc q) x k) (λ i r s u v. omega (arith, g q i (omega arith) r (omega arith)))))
          still
      step false e = still

  -- ---- the gap after column x

  pub gap-nets : (x : ℕ) (ws : List Wire) → map (λ w. w.net) (gap t x ws).wires ≡ map (λ w. w.net) ws
  unfolding gap
  gap-nets x ws = sink-nets 0 (climb t 0 (suc x) ws).column (climb t 0 (suc x) ws).wires ∙ climb-nets 0 (suc x) ws

  pub gap-reached : (x : ℕ) (ws : List Wire) → Reached t 0 (gap t x ws).wires
  unfolding gap
  gap-reached x ws = sink-reached 0 (climb t 0 (suc x) ws).column (climb-above 0 (suc x) ws)

  pub gap-moves : {P : ℕ → Type 0} (x : ℕ) (ws : List Wire) → Falling ws → Falls t 0 (length ws) → Each (λ i. P (t i)) 0 (length ws)
      → Moves P (suc x) ws (gap t x ws).film (gap t x ws).column (gap t x ws).wires
  unfolding gap
  gap-moves {P} x ws f g p =
      let vs : List Wire = (climb t 0 (suc x) ws).wires in
      let y : ℕ = (climb t 0 (suc x) ws).column in
      let n : length vs ≡ length ws = sym (length-map vs (λ v. v.net)) ∙ ap length (climb-nets 0 (suc x) ws) ∙ length-map ws (λ v. v.net) in
      moves-join (climb-moves [] ws 0 (suc x) f g p nil)
      (sink-moves [] vs 0 y (climb-falling 0 (suc x) ws f g) (rw n g) (rw n p) (climb-above 0 (suc x) ws) nil)

  -- no wire moves twice
  two-columns : (q x y : ℕ) (ws : List Wire)
      → (sink t q y (climb t q x ws).wires).column + (climb t q x ws).column ≤ y + x + length ws
  unfolding climb sink bent pick
  two-columns q x y [] = omega arith
  two-columns q x y (w ∷ ws) = step (ltb w.height (t q)) (two-columns (suc q) (suc x) y ws) (two-columns (suc q) x y ws)
    where
      step : (up : Bool) → (sink t (suc q) y (climb t (suc q) (suc x) ws).wires).column + (climb t (suc q) (suc x) ws).column ≤ y + suc x + length ws
          → (sink t (suc q) y (climb t (suc q) x ws).wires).column + (climb t (suc q) x ws).column ≤ y + x + length ws
          → (sink t q y (bent up (t q) x w ∷ (climb t (suc q) (pick up (suc x) x) ws).wires)).column + (climb t (suc q) (pick up (suc x) x) ws).column
          ≤ y + x + suc (length ws)
      step true h k = rw (le-ltb (t q) (t q) (omega arith)) (omega arith)
      step false h k = down (ltb (t q) w.height)
        where
          r : ℕ
          r = (sink t (suc q) y (climb t (suc q) x ws).wires).column

          down : (d : Bool) → pick d (suc r) r + (climb t (suc q) x ws).column ≤ y + x + suc (length ws)
          down true = omega arith
          down false = omega arith

  pub gap-column : (x : ℕ) (ws : List Wire) → (gap t x ws).column ≤ suc x + length ws
  unfolding gap
  gap-column x ws = omega (arith, two-columns 0 (suc x) (climb t 0 (suc x) ws).column ws)
