-- No two records of a film tie: one event a column for a net, and a run begins at a vertical.
use mathlib.Core.Path.{◌≡◌, refl, sym, ap, ◌∙◌}
use mathlib.Core.List.{List, Memᴰ}
use Prim.Native.Nat.{ℕ, suc, ◌+◌, ◌*◌, ◌≤◌}
use native.Mathlib.Omega.{arith}
use Rattle.rules.specs.Film.{Rec, across, upright, Wire}
use Rattle.rules.specs.WireRules.{net_of}
use Rattle.wires.proofs.Among.{All, nil, cons, all-at, all_map, More, more-in, more-still}
use Rattle.wires.proofs.Steps.{among-more}
use Rattle.wires.proofs.RecordOrder.{spot}
use Rattle.wires.proofs.Sorted.{Untied, Apart, no_record, apart}
use Rattle.wires.proofs.Strokes.{Old, Fresh, Strokes, none, ends, begins, touches}

-- a record from column x on, with the wires ws open there: it begins there or is the run of one of them
data Later (x : ℕ) (ws : List Wire) (r : Rec) : Type 0 where
  new : 2 * x ≤ spot r → Later x ws r
  open-run : (w : Wire) → Memᴰ w ws → net_of r ≡ w.net → spot r ≡ 2 * w.since + 1 → Later x ws r

module _ {x : ℕ} {ws : List Wire} {r : Rec} where
  -- before a run ends, before one begins, and before a touch
  unended : {w : Wire} {others : List Wire} → More w others ws → Later x others r → Later x ws r
  unended m (new h) = new h
  unended m (open-run v i n e) = open-run v (more-still m i) n e

  unbegun : {y : ℕ} {w : Wire} {vs : List Wire} → x ≤ y → w.since ≡ y → More w ws vs → Later (suc y) vs r → Later x ws r
  unbegun h s m (new k) = new (omega arith)
  unbegun h s m (open-run v i n e) = among-more m (λ q. let z = ap (λ u. u.since) q in new (omega arith)) (λ j. open-run v j n e) i

  untouched : {y : ℕ} → x ≤ y → Later (suc y) ws r → Later x ws r
  untouched h (new k) = new (omega arith)
  untouched h (open-run v i n e) = open-run v i n e

wall-later : {x y n l h : ℕ} {ws : List Wire} → x ≤ y → Later x ws (upright n l y h)
unfolding spot
wall-later h = new (omega arith)

later : {x : ℕ} {ws : List Wire} {film : List Rec} → Strokes x ws film → All (Later x ws) film
unfolding net_of spot
later none = nil
later (ends {w = w} o m f s) = cons (open-run w (more-in m) refl refl) (all_map (λ r. unended m) (later s))
later (begins o h e m f s) = cons (wall-later h) (all_map (λ r. unbegun h e m) (later s))
later (touches o h i s) = cons (wall-later h) (all_map (λ r. untouched h) (later s))

-- a run that ends is the only one of its net, and a vertical's spot is even
run-untied : {x y : ℕ} {w : Wire} {others ws : List Wire} {r : Rec} → Old x ws → More w others ws → Fresh w others → Later x others r
    → Untied (across w.net w.height w.since y) r
unfolding net_of spot
run-untied o m f (new h) = record { differ = λ n e. omega (arith, all-at o (more-in m)) }
run-untied o m f (open-run v i n e) = record { differ = λ k q. all-at f i (sym n ∙ sym k) }

wall-untied : {y n l h : ℕ} {vs : List Wire} {r : Rec} → Later (suc y) vs r → Untied (upright n l y h) r
unfolding net_of spot
wall-untied (new k) = record { differ = λ n e. omega arith }
wall-untied (open-run v i n e) = record { differ = λ k q. omega arith }

pub untied : {x : ℕ} {ws : List Wire} {film : List Rec} → Strokes x ws film → Apart film
untied none = no_record
untied (ends o m f s) = apart (all_map (λ r. run-untied o m f) (later s)) (untied s)
untied (begins o h e m f s) = apart (all_map (λ r. wall-untied) (later s)) (untied s)
untied (touches o h i s) = apart (all_map (λ r. wall-untied) (later s)) (untied s)
