-- A film record by record: a run that ends, a vertical that begins one, a vertical on an open run.
use mathlib.Core.Path.{◌≡◌, refl, sym}
use mathlib.Core.Bool.{true}
use mathlib.Core.List.{List, [], ◌∷◌, Memᴰ}
use mathlib.Core.Logic.{◌≢◌}
use mathlib.Core.Option.{Option}
use Prim.Native.Nat.{ℕ, suc, ◌*◌, ◌≤◌, ◌<◌}
use native.Mathlib.Omega.{arith}
use Rattle.rules.specs.Film.{Rec, across, upright, Wire, ran, wall, bent}
use Rattle.wires.proofs.Among.{All, all_from, all_map, all-less, More, more-in}
use Rattle.wires.proofs.Trace.{Trace, stop, turn, begin, meet, end, blank}
use Rattle.wires.proofs.Steps.{other-net, turn-event, begin-event, meet-event, end-event}
use Rattle.wires.proofs.Joins.{Fine, fine, fine-later}

-- the present runs of the wires began before column x
abbrev pub Old : ℕ → List Wire → Type 0
Old x ws = All (λ v. v.since < x) ws

-- no other wire has w's net
abbrev pub Fresh : Wire → List Wire → Type 0
Fresh w ws = All (λ v. v.net ≢ w.net) ws

-- records from column x on, with the wires ws open
pub data Strokes : ℕ → List Wire → List Rec → Type 0 where
  none : {x : ℕ} → Strokes x [] []
  ends : {x y : ℕ} {w : Wire} {others ws : List Wire} {film : List Rec} → Old x ws → More w others ws → Fresh w others
      → Strokes x others film → Strokes x ws (across w.net w.height w.since y ∷ film)
  begins : {x y l h : ℕ} {w : Wire} {ws vs : List Wire} {film : List Rec} → Old x ws → x ≤ y → w.since ≡ y → More w ws vs → Fresh w ws
      → Strokes (suc y) vs film → Strokes x ws (upright w.net l y h ∷ film)
  touches : {x y l h : ℕ} {w : Wire} {ws : List Wire} {film : List Rec} → Old x ws → x ≤ y → Memᴰ w ws
      → Strokes (suc y) ws film → Strokes x ws (upright w.net l y h ∷ film)

-- what comes from column z on comes from an earlier column on, where the wires are older
sooner : {x z : ℕ} {ws : List Wire} {film : List Rec} → x ≤ z → Old x ws → Strokes z ws film → Strokes x ws film
sooner h o none = none
sooner h o (ends p m f s) = ends o m f (sooner h (all-less m o) s)
sooner h o (begins {y = y} p l e m f s) = begins {y = y} o (omega arith) e m f s
sooner h o (touches {y = y} p l i s) = touches {y = y} o (omega arith) i s

module _ {ku kl x : ℕ} {ws : List Wire} (f : Fine ku kl x ws) where
  old : (y : ℕ) → x ≤ y → Old y ws
  old y h = all_map (λ v g. omega (arith, g.since)) f.good

  fresh : {w : Wire} {others : List Wire} → More w others ws → Fresh w others
  fresh {w} {others} m = all_from others (λ v i e. other-net m (f.once v.net) i (sym e))

-- a move ends a run and begins one; an E's stub touches the run that ends there; at a blank nothing is drawn
pub strokes : {pitch ku kl i x : ℕ} {ws : List Wire} {pins : List (Option ℕ)} {hs : List ℕ} {film : List Rec} → Trace pitch ku kl i x ws pins hs film → Fine ku kl x ws
    → Strokes x ws film
unfolding ran wall bent
strokes stop f = none
strokes {ku = ku} {kl} {x = x} (turn {y = y} {h = h} {w = w} a t k m m' c r) f =
    ends (old f x (omega arith)) m (fresh f m)
    (begins {w = bent true h y w} (all-less m (old f x (omega arith))) a refl m' (fresh f m) (strokes r (fine (turn-event ku kl x y a t k m m' c) f)))
strokes {pitch} {ku} {kl} {i} {x} (begin {w = w} a s t m c u r) f =
    begins {w = w} (old f x (omega arith)) a s m u (strokes r (fine (begin-event ku kl x (pitch * i) a s t m c u) f))
strokes {pitch} {ku} {kl} {i} {x} (meet {w = w} a m c r) f =
    touches {w = w} (old f x (omega arith)) a (more-in m) (strokes r (fine (meet-event ku kl x (pitch * i) a m c) f))
strokes {pitch} {ku} {kl} {i} {x} (end {w = w} a m c z r) f =
    touches {w = w} (old f x (omega arith)) a (more-in m)
    (ends {w = w} (old f (suc (pitch * i)) (omega arith)) m (fresh f m) (strokes r (fine (end-event ku kl x (pitch * i) a m c) f)))
strokes {x = x} (blank a r) f = sooner (omega arith) (old f x (omega arith)) (strokes r (fine-later (omega arith) f))
