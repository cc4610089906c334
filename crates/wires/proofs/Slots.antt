-- Laid in the sweep's order from any first slots, each record goes to the slot that is its net's first and the number of the net's records before it:
-- what the two numbers of each net say while the sweep goes on, and that each stroke finds its slot and keeps them so.
use mathlib.Core.Path.{◌≡◌, refl, sym, ap, ◌∙◌}
use mathlib.Core.Bool.{Bool, true, false}
use mathlib.Core.List.{List, ◌∷◌, Memᴰ}
use mathlib.Core.Logic.{◌≢◌}
use Prim.Native.Nat.{ℕ, suc, ◌+◌, ◌*◌, ◌≤◌, ◌<◌}
use native.Mathlib.Omega.{arith}
use lib.Dec.{eqb}
use borrow.Author.Tests.{eqb-true, eqb-false, eq-eqb, ne_eqb}
use Rattle.rules.specs.Basic.{pick}
use Rattle.rules.specs.Film.{Rec, across, upright, Wire}
use Rattle.rules.specs.WireRules.{net_of}
use Rattle.rules.proofs.Open.{one, one_same, times}
use Rattle.wires.specs.Laying.{Laying, changed, in_slot, with_vertical, lay, laid}
use Rattle.wires.proofs.Among.{All, all-at, all_more, all-less, More, more-in, more-still}
use Rattle.wires.proofs.Steps.{open_nets, more-times, among-more}
use Rattle.wires.proofs.RecordOrder.{spot}
use Rattle.wires.proofs.Ranks.{each}
use Rattle.wires.proofs.Strokes.{Old, Fresh, Strokes, none, ends, begins, touches}
use Rattle.wires.proofs.Counts.{mark-early, mark-late, under, runs-more, runs-all, early}

-- ---- a number changed for one net

changed-same : (n v : ℕ) (f : ℕ → ℕ) → changed n v f n ≡ v
unfolding changed pick
changed-same n v f = rw (eq-eqb n n refl)

changed-other : (n v : ℕ) (f : ℕ → ℕ) (m : ℕ) → n ≢ m → changed n v f m ≡ f m
unfolding changed pick
changed-other n v f m d = rw (ne_eqb n m d)

changed-add : (n k : ℕ) (f : ℕ → ℕ) (m : ℕ) → changed n (f n + k) f m ≡ f m + k * one (eqb n m)
unfolding changed pick one
changed-add n k f m = go (eqb n m) refl
  where
    go : (t : Bool) → eqb n m ≡ t → pick t (f n + k) (f m) ≡ f m + k * one t
    go true e = let q = ap f (eqb-true n m e) in omega arith
    go false e = omega arith

-- ---- what the numbers say

module _ (base : ℕ → ℕ) (rs : List Rec) where
  -- the slot of a record of the film rs
  unfoldable pub slot : Rec → ℕ
  slot r = base (net_of r) + under (net_of r) (spot r) rs

  -- of rs the records of film are to come, from column x on, and of each net so many are past
  abbrev pub Listed : (x : ℕ) (film : List Rec) (past : ℕ → ℕ) → Type 0
  Listed x film past = (n z : ℕ) → 2 * x ≤ z → under n z rs ≡ past n + under n z film

  listed : {x : ℕ} (past : ℕ → ℕ) (x' : ℕ) (r : Rec) (film : List Rec) → x ≤ x' → spot r < 2 * x' → Listed x (r ∷ film) past
      → Listed x' film (λ n. past n + one (eqb (net_of r) n))
  unfolding under
  listed past x' r film h k d n z a = omega (arith, d n z (omega arith), mark-early n z (net_of r) (spot r) (omega arith))

  -- with the wires ws open, a net's next slot is behind those of its past records and its open run, which holds its own
  pub record Ready (x : ℕ) (ws : List Wire) (film : List Rec) (next held : ℕ → ℕ) : Type 0 where
    pub past : ℕ → ℕ
    pub to-come : Listed x film past
    pub ahead : (n : ℕ) → next n ≡ base n + past n + times n (open_nets ws)
    pub open_at : (w : Wire) → Memᴰ w ws → held w.net ≡ base w.net + under w.net (2 * w.since + 1) rs
    pub free : (n : ℕ) → All (λ w. w.net ≢ n) ws → held n ≡ 0

  -- ---- a run ends

  module _ {x y : ℕ} {w : Wire} {others ws : List Wire} {film : List Rec} (o : Old x ws) (m : More w others ws) (f : Fresh w others) {next held : ℕ → ℕ}
      (d : Ready x ws (across w.net w.height w.since y ∷ film) next held) where
    ends-slot : held w.net ≡ slot (across w.net w.height w.since y)
    unfolding slot net_of spot
    ends-slot = d.open_at w (more-in m)

    ends-ready : Ready x others film next (changed w.net 0 held)
    unfolding net_of spot
    ends-ready =
        record {
          past = λ n. d.past n + one (eqb w.net n);
          to-come = listed d.past x (across w.net w.height w.since y) film (omega arith) (omega (arith, all-at o (more-in m))) d.to-come;
          ahead = λ n. omega (arith, d.ahead n, more-times n m);
          open_at = λ v i. changed-other w.net 0 held v.net (λ e. all-at f i (sym e)) ∙ d.open_at v (more-still m i);
          free = λ n a. freed n a (eqb w.net n) refl;
        }
      where
        freed : (n : ℕ) → All (λ v. v.net ≢ n) others → (t : Bool) → eqb w.net n ≡ t → changed w.net 0 held n ≡ 0
        freed n a true e = rw (← eqb-true w.net n e) (changed-same w.net 0 held)
        freed n a false e =
            let q = eqb-false w.net n e in
            changed-other w.net 0 held n q ∙ d.free n (all_more m q a)

  -- ---- a vertical begins a run

  module _ {x y l h : ℕ} {w : Wire} {ws vs : List Wire} {film : List Rec} (o : Old x ws) (later : x ≤ y) (since : w.since ≡ y) (m : More w ws vs)
      (f : Fresh w ws) (s : Strokes (suc y) vs film) {next held : ℕ → ℕ} (d : Ready x ws (upright w.net l y h ∷ film) next held) where
    -- up to the run that begins there are the open runs alone
    begins-runs : (z : ℕ) → 2 * x ≤ z → z ≤ 2 * y + 1 → under w.net z film ≡ times w.net (open_nets ws)
    begins-runs z a b =
        omega (
          arith,
          early s w.net z (omega arith),
          runs-more w.net z m,
          mark-late w.net z w.net (2 * w.since + 1) (omega arith),
          runs-all w.net z x o a,
        )

    begins-slot : next w.net ≡ slot (upright w.net l y h)
    unfolding slot under net_of spot
    begins-slot =
        omega (
          arith,
          d.ahead w.net,
          d.to-come w.net (2 * y) (omega arith),
          mark-late w.net (2 * y) w.net (2 * y) (omega arith),
          begins-runs (2 * y) (omega arith) (omega arith),
        )

    -- the run stands behind the vertical
    begins-held : next w.net + 1 ≡ base w.net + under w.net (2 * w.since + 1) rs
    unfolding under net_of spot
    begins-held =
        rw since
        (omega (
          arith,
          d.ahead w.net,
          d.to-come w.net (2 * y + 1) (omega arith),
          mark-early w.net (2 * y + 1) w.net (2 * y) (omega arith),
          one_same w.net,
          begins-runs (2 * y + 1) (omega arith) (omega arith),
        ))

    begins-ready : Ready (suc y) vs film (changed w.net (next w.net + 2) next) (changed w.net (next w.net + 1) held)
    unfolding net_of spot
    begins-ready =
        record {
          past = λ n. d.past n + one (eqb w.net n);
          to-come = listed d.past (suc y) (upright w.net l y h) film (omega arith) (omega arith) d.to-come;
          ahead = λ n. omega (arith, changed-add w.net 2 next n, d.ahead n, more-times n m);
          open_at = λ v. among-more m (λ e. rw (e, changed-same w.net (next w.net + 1) held) begins-held)
              (λ i. changed-other w.net (next w.net + 1) held v.net (λ e. all-at f i (sym e)) ∙ d.open_at v i);
          free = λ n a. changed-other w.net (next w.net + 1) held n (all-at a (more-in m)) ∙ d.free n (all-less m a);
        }

  -- ---- a vertical on an open run

  module _ {x y l h : ℕ} (m : ℕ) {ws : List Wire} {film : List Rec} (o : Old x ws) (later : x ≤ y) (s : Strokes (suc y) ws film)
      {next held : ℕ → ℕ} (d : Ready x ws (upright m l y h ∷ film) next held) where
    touches-slot : next m ≡ slot (upright m l y h)
    unfolding slot under net_of spot
    touches-slot =
        omega (
          arith,
          d.ahead m,
          d.to-come m (2 * y) (omega arith),
          mark-late m (2 * y) m (2 * y) (omega arith),
          early s m (2 * y) (omega arith),
          runs-all m (2 * y) x o (omega arith),
        )

    touches-ready : Ready (suc y) ws film (changed m (next m + 1) next) held
    unfolding net_of spot
    touches-ready =
        record {
          past = λ n. d.past n + one (eqb m n);
          to-come = listed d.past (suc y) (upright m l y h) film (omega arith) (omega arith) d.to-come;
          ahead = λ n. omega (arith, changed-add m 1 next n, d.ahead n);
          open_at = d.open_at;
          free = d.free;
        }

-- ---- the film

module _ {F : Type 0} (stamp : ℕ → Rec → F → F) where
  lay-begins : (d : Laying F) (n l x h : ℕ) → d.held n ≡ 0 → lay stamp d (upright n l x h) ≡ with_vertical stamp true n (upright n l x h) d
  unfolding lay
  lay-begins d n l x h e = rw e

  lay-touches : (d : Laying F) (n l x h : ℕ) → 0 < d.held n → lay stamp d (upright n l x h) ≡ with_vertical stamp false n (upright n l x h) d
  unfolding lay
  lay-touches d n l x h k = rw (ne_eqb (d.held n) 0 (λ e. omega arith))

  module _ (base : ℕ → ℕ) (rs : List Rec) where
    -- each record is laid in its slot
    abbrev pub InSlots : List Rec → Laying F → Type 0
    InSlots film d = (laid stamp d film).film ≡ each (in_slot stamp) (slot base rs) film d.film

    laid-first : (r : Rec) (film : List Rec) (d d' : Laying F) → lay stamp d r ≡ d' → d'.film ≡ in_slot stamp (slot base rs r) r d.film
        → InSlots film d' → InSlots (r ∷ film) d
    unfolding laid each
    laid-first r film d d' e g k = ap (λ b. (laid stamp b film).film) e ∙ k ∙ ap (each (in_slot stamp) (slot base rs) film) g

    pub laid-slots : ((n : ℕ) → 0 < base n) → {x : ℕ} {ws : List Wire} {film : List Rec} → Strokes x ws film
        → (d : Laying F) → Ready base rs x ws film d.next d.held → InSlots film d
    unfolding lay with_vertical laid each
    laid-slots pos none d k = refl
    laid-slots pos (ends {y = y} {w = w} {film = film} o m f s) d k =
        let r : Rec = across w.net w.height w.since y in
        laid-first r film d (lay stamp d r) refl (ap (λ j. in_slot stamp j r d.film) (ends-slot base rs o m f k))
        (laid-slots pos s (lay stamp d r) (ends-ready base rs o m f k))
    laid-slots pos (begins {y = y} {l} {h} {w = w} {film = film} o a e m f s) d k =
        let r : Rec = upright w.net l y h in
        laid-first r film d (with_vertical stamp true w.net r d) (lay-begins d w.net l y h (k.free w.net f))
        (ap (λ j. in_slot stamp j r d.film) (begins-slot base rs o a e m f s k))
        (laid-slots pos s (with_vertical stamp true w.net r d) (begins-ready base rs o a e m f s k))
    laid-slots pos (touches {y = y} {l} {h} {w = w} {film = film} o a i s) d k =
        let r : Rec = upright w.net l y h in
        laid-first r film d (with_vertical stamp false w.net r d) (lay-touches d w.net l y h (omega (arith, k.open_at w i, pos w.net)))
        (ap (λ j. in_slot stamp j r d.film) (touches-slot base rs w.net o a s k))
        (laid-slots pos s (with_vertical stamp false w.net r d) (touches-ready base rs w.net o a s k))
