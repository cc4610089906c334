-- A film as a trace of events from left to right, each at a column of its own, with every other open wire clear of it.
use mathlib.Core.Path.{◌≡◌}
use mathlib.Core.Bool.{true}
use mathlib.Core.List.{List, [], ◌∷◌, ◌++◌}
use mathlib.Core.Logic.{◌≢◌}
use mathlib.Core.Option.{Option, none, some}
use Prim.Native.Nat.{ℕ, suc, ◌+◌, ◌-◌, ◌*◌, ◌≤◌}
use native.Mathlib.Omega.{arith}
use Rattle.rules.specs.Film.{Rec, Wire, axis, ran, wall, bent}
use Rattle.rules.proofs.GivenBack.{pinned}
use Rattle.wires.proofs.Among.{All, More}
use Rattle.wires.proofs.Gap.{Aside, Moves, still, move}

-- the tracks −Kl to Ku, without the axis
pub record Track (ku kl h : ℕ) : Type 0 where
  pub low : axis - kl ≤ h
  pub high : h ≤ axis + ku
  pub off : h ≢ axis

-- events from column x and node i on, with the wires ws open: the nets at the pins, the heights of the nodes' own wires there, and the film
pub data Trace (pitch ku kl : ℕ) : (i x : ℕ) → List Wire → (pins : List (Option ℕ)) (hs : List ℕ) → List Rec → Type 0 where
  stop : {i x : ℕ} → Trace pitch ku kl i x [] [] [] []
  -- a wire moves to height h at column y
  turn : {i x y h : ℕ} {w : Wire} {others ws vs : List Wire} {pins : List (Option ℕ)} {hs : List ℕ} {film : List Rec} → x ≤ y → Track ku kl h → h ≢ w.height
      → More w others ws → More (bent true h y w) others vs → All (Aside h w.height) others
      → Trace pitch ku kl i (suc y) vs pins hs film → Trace pitch ku kl i x ws pins hs (ran y w ∷ wall y h w ∷ film)
  -- node i: a wire begins, goes on or ends, with a stub to the pin
  begin : {i x : ℕ} {w : Wire} {ws vs : List Wire} {pins : List (Option ℕ)} {hs : List ℕ} {film : List Rec} → x ≤ pitch * i → w.since ≡ pitch * i → Track ku kl w.height
      → More w ws vs → All (Aside axis w.height) ws → All (λ v. v.net ≢ w.net) ws
      → Trace pitch ku kl (suc i) (suc (pitch * i)) vs pins hs film → Trace pitch ku kl i x ws (some w.net ∷ pins) (w.height ∷ hs) (wall (pitch * i) axis w ∷ film)
  meet : {i x : ℕ} {w : Wire} {others ws : List Wire} {pins : List (Option ℕ)} {hs : List ℕ} {film : List Rec} → x ≤ pitch * i
      → More w others ws → All (Aside axis w.height) others
      → Trace pitch ku kl (suc i) (suc (pitch * i)) ws pins hs film → Trace pitch ku kl i x ws (some w.net ∷ pins) (w.height ∷ hs) (wall (pitch * i) axis w ∷ film)
  end : {i x : ℕ} {w : Wire} {ws vs : List Wire} {pins : List (Option ℕ)} {hs : List ℕ} {film : List Rec} → x ≤ pitch * i
      → More w vs ws → All (Aside axis w.height) vs → pinned w.net pins ≡ 0
      → Trace pitch ku kl (suc i) (suc (pitch * i)) vs pins hs film
      → Trace pitch ku kl i x ws (some w.net ∷ pins) (w.height ∷ hs) (wall (pitch * i) axis w ∷ ran (pitch * i) w ∷ film)
  -- node i is a blank: all wires pass it, and nothing is drawn
  blank : {i x h : ℕ} {ws : List Wire} {pins : List (Option ℕ)} {hs : List ℕ} {film : List Rec} → x ≤ pitch * i
      → Trace pitch ku kl (suc i) (suc (pitch * i)) ws pins hs film → Trace pitch ku kl i x ws (none ∷ pins) (h ∷ hs) film

-- the moves of a gap come first
pub moves-then : {pitch ku kl i x y : ℕ} {ws vs : List Wire} {pins : List (Option ℕ)} {hs : List ℕ} {f film : List Rec}
    → Moves (Track ku kl) x ws f y vs → Trace pitch ku kl i y vs pins hs film → Trace pitch ku kl i x ws pins hs (f ++ film)
moves-then still t = t
moves-then (move {x} p d m n a r) t = turn {x = x} {y = x} (omega arith) p d m n a (moves-then r t)
