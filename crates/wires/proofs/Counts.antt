-- How many records of a net stand before a spot: of those that the sweep has yet to list, only the open runs begin before the present column.
use mathlib.Core.Path.{◌≡◌, refl, ap}
use mathlib.Core.Bool.{Bool, true, false, ◌&&◌}
use mathlib.Core.List.{List, [], ◌∷◌}
use Prim.Native.Nat.{ℕ, ◌+◌, ◌*◌, ◌≤◌, ◌<◌}
use native.Mathlib.Omega.{arith}
use lib.Dec.{eqb, ltb}
use borrow.Author.Tests.{lt-ltb, le-ltb}
use Rattle.rules.specs.Film.{Rec, Wire}
use Rattle.rules.specs.WireRules.{net_of}
use Rattle.rules.proofs.Open.{one, times}
use Rattle.wires.proofs.Among.{nil, cons, More, here, there}
use Rattle.wires.proofs.Steps.{open_nets}
use Rattle.wires.proofs.RecordOrder.{spot}
use Rattle.wires.proofs.Strokes.{Old, Strokes, none, ends, begins, touches}

-- 1 for what is net n's and stands before spot z, where m is its net and s its spot
unfoldable pub mark : (n z m s : ℕ) → ℕ
mark n z m s = one (eqb m n && ltb s z)

pub mark-early : (n z m s : ℕ) → s < z → mark n z m s ≡ one (eqb m n)
unfolding mark
mark-early n z m s h = rw (lt-ltb s z h) (ap one (go (eqb m n)))
  where
    go : (p : Bool) → p && true ≡ p
    go true = refl
    go false = refl

pub mark-late : (n z m s : ℕ) → z ≤ s → mark n z m s ≡ 0
unfolding mark one
mark-late n z m s h = rw (le-ltb s z h) (ap one (go (eqb m n)))
  where
    go : (p : Bool) → p && false ≡ false
    go true = refl
    go false = refl

-- so many of records, and of the runs of wires
unfoldable pub under : (n z : ℕ) → List Rec → ℕ
under n z [] = 0
under n z (r ∷ rs) = mark n z (net_of r) (spot r) + under n z rs

unfoldable pub runs : (n z : ℕ) → List Wire → ℕ
runs n z [] = 0
runs n z (w ∷ ws) = mark n z w.net (2 * w.since + 1) + runs n z ws

pub runs-more : (n z : ℕ) {w : Wire} {l m : List Wire} → More w l m → runs n z m ≡ mark n z w.net (2 * w.since + 1) + runs n z l
unfolding runs
runs-more n z here = refl
runs-more n z (there k) = omega (arith, runs-more n z k)

-- a wire that is open before spot z counts with its net
pub runs-all : (n z x : ℕ) {ws : List Wire} → Old x ws → 2 * x ≤ z → runs n z ws ≡ times n (open_nets ws)
unfolding runs times
runs-all n z x nil h = refl
runs-all n z x (cons {x = w} s o) h = omega (arith, mark-early n z w.net (2 * w.since + 1) (omega arith), runs-all n z x o h)

pub early : {x : ℕ} {ws : List Wire} {film : List Rec} → Strokes x ws film → (n z : ℕ) → z ≤ 2 * x → under n z film ≡ runs n z ws
unfolding under runs net_of spot
early none n z k = refl
early (ends o m f s) n z k = omega (arith, early s n z k, runs-more n z m)
early (begins {x} {y} {w = w} o h e m f s) n z k =
    omega (arith, early s n z (omega arith), runs-more n z m, mark-late n z w.net (2 * y) (omega arith), mark-late n z w.net (2 * w.since + 1) (omega arith))
early (touches {x} {y} {w = w} o h i s) n z k = omega (arith, early s n z (omega arith), mark-late n z w.net (2 * y) (omega arith))
