-- A trace joins all nodes of a net, each pin by its stub to the run that is open there, and a run to the next one by its move; nothing else
-- touches a pin, and nothing a blank.
use mathlib.Core.Path.{◌≡◌, refl, sym, ap, ◌∙◌, subst}
use mathlib.Core.Bool.{true}
use mathlib.Core.List.Memᴰ
use mathlib.Core.List.{List, [], ◌∷◌, ◌++◌, Memᴰ}
use mathlib.Core.Logic.{◌≢◌, ◌⊎◌, inl, inr}
use mathlib.Core.Option.{Option, none, some}
use Prim.Native.Nat.{ℕ, zero, suc, ◌+◌, ◌*◌, ◌≤◌, ◌<◌}
use native.Mathlib.Nat.{mul-le-mul_left}
use native.Mathlib.Omega.{arith}
use lib.ListN.{length, get_or}
use Rattle.rules.specs.Film.{Rec, Wire, axis, ran, wall, bent}
use Rattle.rules.specs.WireRules.{net_of, On, Linked, on_one, by_way}
use Rattle.rules.proofs.Open.{one_same, times}
use Rattle.rules.proofs.GivenBack.{hits, pinned}
use Rattle.wires.proofs.Among.{All, all-at, all_map, more-in, more-still}
use Rattle.wires.proofs.Trace.{Trace, stop, turn, begin, meet, end, blank}
use Rattle.wires.proofs.Steps.{open_nets, other-net, among-more, Good, Event, turn-event, begin-event, meet-event, end-event, steps}
use Rattle.wires.proofs.Rules.{on-axis}

pub linked-sym : {net : ℕ} {film : List Rec} {x y x' y' : ℕ} → Linked net film x y x' y' → Linked net film x' y' x y
linked-sym (on_one r d n o o') = on_one r d n o' o
linked-sym (by_way v w a b) = by_way v w (linked-sym b) (linked-sym a)

pub linked-in : {net : ℕ} {film more : List Rec} → ((r : Rec) → Memᴰ r film → Memᴰ r more) → {x y x' y' : ℕ} → Linked net film x y x' y' → Linked net more x y x' y'
linked-in f (on_one r d n o o') = on_one r (f r d) n o o'
linked-in f (by_way v w a b) = by_way v w (linked-in f a) (linked-in f b)

-- what holds of the open wires: they are good at column x, and have a net each
pub record Fine (ku kl x : ℕ) (ws : List Wire) : Type 0 where
  pub good : All (Good ku kl x) ws
  pub once : (m : ℕ) → times m (open_nets ws) ≤ 1

pub fine : {ku kl x y : ℕ} {ws vs : List Wire} {recs : List Rec} → Event ku kl x y ws recs vs → Fine ku kl x ws → Fine ku kl (suc y) vs
fine e f = record { good = e.good f.good; once = λ m. e.once m (f.once m) }

pub fine-later : {ku kl x y : ℕ} {ws : List Wire} → x ≤ y → Fine ku kl x ws → Fine ku kl y ws
fine-later h f = record { good = all_map (λ w g. record { track = g.track; since = omega (arith, g.since) }) f.good; once = f.once }

-- the net at a pin
no-net : {n : ℕ} → none ≡ some n → ⊥
no-net e = let z : ◌≡◌ {A = ℕ} 0 1 = cc in omega arith

same-net : {m n : ℕ} → some m ≡ some n → m ≡ n
same-net e = cc

-- along a run, and up or down a vertical
along : {film : List Rec} (w : Wire) (c x y : ℕ) → Memᴰ (ran c w) film → (w.since ≤ x) × (x ≤ c) → (w.since ≤ y) × (y ≤ c)
    → Linked w.net film x w.height y w.height
unfolding ran On net_of
along w c x y d h k = on_one (ran c w) d refl (refl, h.0, h.1) (refl, k.0, k.1)

beside : {film : List Rec} (w : Wire) (y h : ℕ) → Memᴰ (wall y h w) film → Linked w.net film y w.height y h
unfolding wall On net_of
beside w y h d = on_one {y = w.height} {y' = h} (wall y h w) d refl (refl, omega arith, omega arith) (refl, omega arith, omega arith)

to-node : {net : ℕ} {film : List Rec} {x y z : ℕ} (pitch i k : ℕ) → k ≡ i → Linked net film x y (pitch * i) z → Linked net film x y (pitch * k) z
to-node {net} {film} {x} {y} {z} pitch i k e l = subst (λ n. Linked net film x y (pitch * n) z) (sym e) l

same-wire : {film : List Rec} {v w : Wire} {x y : ℕ} → v ≡ w → Linked w.net film w.since w.height x y → Linked v.net film v.since v.height x y
same-wire {film} {x = x} {y} e l = subst (λ u. Linked u.net film u.since u.height x y) (sym e) l

-- the pin of node i with its net's later pins, and those with one another
with_first : (pitch : ℕ) {film : List Rec} (pins : List (Option ℕ)) (own i : ℕ) → Linked own film (pitch * i) axis (pitch * i) axis
    → ((j k : ℕ) → k ≡ suc i + j → get_or pins j none ≡ some own → Linked own film (pitch * i) axis (pitch * k) axis)
    → ((net j k j' k' : ℕ) → k ≡ suc i + j → k' ≡ suc i + j' → get_or pins j none ≡ some net → get_or pins j' none ≡ some net
    → Linked net film (pitch * k) axis (pitch * k') axis)
    → (net j k j' k' : ℕ) → k ≡ i + j → k' ≡ i + j' → get_or (some own ∷ pins) j none ≡ some net → get_or (some own ∷ pins) j' none ≡ some net
    → Linked net film (pitch * k) axis (pitch * k') axis
with_first pitch pins own i here out rest net zero k zero k' q q' e e' =
    let k≡ : k ≡ i = omega arith in
    let k'≡ : k' ≡ i = omega arith in
    rw (k≡, k'≡, ← same-net e) here
with_first pitch pins own i here out rest net zero k (suc j') k' q q' e e' =
    let k≡ : k ≡ i = omega arith in
    rw (k≡, ← same-net e) (out j' k' (omega arith) (e' ∙ sym e))
with_first pitch pins own i here out rest net (suc j) k zero k' q q' e e' =
    let k'≡ : k' ≡ i = omega arith in
    rw (k'≡, ← same-net e') (linked-sym (out j k (omega arith) (e ∙ sym e')))
with_first pitch pins own i here out rest net (suc j) k (suc j') k' q q' e e' = rest net j k j' k' (omega arith) (omega arith) e e'

-- a blank is no net's
past-blank : (pitch : ℕ) {film : List Rec} (pins : List (Option ℕ)) (i : ℕ)
    → ((net j k j' k' : ℕ) → k ≡ suc i + j → k' ≡ suc i + j' → get_or pins j none ≡ some net → get_or pins j' none ≡ some net
    → Linked net film (pitch * k) axis (pitch * k') axis)
    → (net j k j' k' : ℕ) → k ≡ i + j → k' ≡ i + j' → get_or (none ∷ pins) j none ≡ some net → get_or (none ∷ pins) j' none ≡ some net
    → Linked net film (pitch * k) axis (pitch * k') axis
past-blank pitch pins i rest net zero k j' k' q q' e e' = absurd (no-net e)
past-blank pitch pins i rest net (suc j) k zero k' q q' e e' = absurd (no-net e')
past-blank pitch pins i rest net (suc j) k (suc j') k' q q' e e' = rest net j k j' k' (omega arith) (omega arith) e e'

-- a net that does not come again
gone : (pins : List (Option ℕ)) (j x : ℕ) → pinned x pins ≡ 0 → get_or pins j none ≡ some x → ⊥
unfolding pinned hits
gone [] j x z e = no-net e
gone (m ∷ pins) zero x z e = omega (arith, one_same x, rw e at z)
gone (m ∷ pins) (suc j) x z e = gone pins j x (omega arith) e

-- of what an event draws, a stub alone is on the axis
on-stub : (x : ℕ) (w : Wire) (r : Rec) (c : ℕ) → r ≡ wall x axis w → On r c axis → (c ≡ x) × (some w.net ≡ some (net_of r))
unfolding wall On net_of
on-stub x w r c e o = let p = subst (λ z. On z c axis) e o in (p.0, ap (λ z. some (net_of z)) (sym e))

off-run : (x : ℕ) (w : Wire) (r : Rec) (c : ℕ) → w.height ≢ axis → r ≡ ran x w → On r c axis → ⊥
unfolding ran On
off-run x w r c h e o = h (sym (subst (λ z. On z c axis) e o).0)

at-column : (x h : ℕ) (w : Wire) (r : Rec) (c : ℕ) → r ≡ wall x h w → On r c axis → c ≡ x
unfolding wall On
at-column x h w r c e o = (subst (λ z. On z c axis) e o).0

stub-alone : (x : ℕ) (w : Wire) (r : Rec) (c : ℕ) → Memᴰ r (wall x axis w ∷ []) → On r c axis → (c ≡ x) × (some w.net ≡ some (net_of r))
stub-alone x w r c (Memᴰ.head e) o = on-stub x w r c e o
stub-alone x w r c (Memᴰ.tail d) o = absurd (Memᴰ.not-nil d)

stub-and-run : (x : ℕ) (w : Wire) → w.height ≢ axis → (r : Rec) (c : ℕ) → Memᴰ r (wall x axis w ∷ ran x w ∷ []) → On r c axis
    → (c ≡ x) × (some w.net ≡ some (net_of r))
stub-and-run x w h r c (Memᴰ.head e) o = on-stub x w r c e o
stub-and-run x w h r c (Memᴰ.tail (Memᴰ.head e)) o = absurd (off-run x w r c h e o)
stub-and-run x w h r c (Memᴰ.tail (Memᴰ.tail d)) o = absurd (Memᴰ.not-nil d)

module _ {pitch ku kl : ℕ} where
  -- the run of an open wire ends at some column
  pub run_ends : {i x : ℕ} {ws : List Wire} {pins : List (Option ℕ)} {hs : List ℕ} {film : List Rec} → Trace pitch ku kl i x ws pins hs film → (v : Wire) → Memᴰ v ws
      → (c : ℕ) × (x ≤ c) × Memᴰ (ran c v) film
  run_ends stop v d = absurd (Memᴰ.not-nil d)
  run_ends (turn {y = y} l t n m m' a r) v d =
      among-more m (λ e. (y, l, Memᴰ.head (ap (ran y) e)))
      (λ i. let q = run_ends r v (more-still m' i) in (q.0, omega (arith, q.1), Memᴰ.tail (Memᴰ.tail q.2)))
      d
  run_ends (begin l s t m a f r) v d = let q = run_ends r v (more-still m d) in (q.0, omega (arith, q.1), Memᴰ.tail q.2)
  run_ends (blank l r) v d = let q = run_ends r v d in (q.0, omega (arith, q.1), q.2)
  run_ends (meet l m a r) v d = let q = run_ends r v d in (q.0, omega (arith, q.1), Memᴰ.tail q.2)
  run_ends (end {i = i} l m a z r) v d =
      among-more m (λ e. (pitch * i, l, Memᴰ.tail (Memᴰ.head (ap (ran (pitch * i)) e))))
      (λ j. let q = run_ends r v j in (q.0, omega (arith, q.1), Memᴰ.tail (Memᴰ.tail q.2)))
      d

  -- an open run is joined to every later pin of its net
  onward : {i x : ℕ} {ws : List Wire} {pins : List (Option ℕ)} {hs : List ℕ} {film : List Rec} → Trace pitch ku kl i x ws pins hs film → Fine ku kl x ws → (v : Wire) → Memᴰ v ws
      → (j k : ℕ) → k ≡ i + j → get_or pins j none ≡ some v.net → Linked v.net film v.since v.height (pitch * k) axis
  unfolding bent
  onward stop f v d j k q e = absurd (Memᴰ.not-nil d)
  onward (turn {x = x} {y} {h} {w} {film = film} l t n m m' a r) f v d j k q e =
      let f' = fine (turn-event ku kl x y l t n m m' a) f in
      among-more m
      (λ p. let s = (all-at f.good (more-in m)).since in
      same-wire p
      (by_way y w.height (along w y w.since y (Memᴰ.head refl) (omega arith) (omega arith))
      (by_way y h (beside w y h (Memᴰ.tail (Memᴰ.head refl)))
      (linked-in (λ r i. Memᴰ.tail (Memᴰ.tail i)) (onward r f' (bent true h y w) (more-in m') j k q (e ∙ ap (λ u. some u.net) p))))))
      (λ p. linked-in (λ r i. Memᴰ.tail (Memᴰ.tail i)) (onward r f' v (more-still m' p) j k q e))
      d
  onward (begin {x = x} l s t m a u r) f v d zero k q e = absurd (all-at u d (sym (same-net e)))
  onward (begin {i} {x} l s t m a u r) f v d (suc j) k q e =
      linked-in (λ r i. Memᴰ.tail i) (onward r (fine (begin-event ku kl x (pitch * i) l s t m a u) f) v (more-still m d) j k (omega arith) e)
  onward (meet {i} {x} {w} l m a r) f v d zero k q e =
      among-more m
      (λ p. let s = (all-at f.good (more-in m)).since in
      let c = run_ends r w (more-in m) in
      to-node pitch i k (omega arith) (same-wire p
      (by_way (pitch * i) w.height (along w c.0 w.since (pitch * i) (Memᴰ.tail c.2) (omega arith) (omega arith))
      (beside w (pitch * i) axis (Memᴰ.head refl)))))
      (λ p. absurd (other-net m (f.once v.net) p (same-net e)))
      d
  onward (meet {i} {x} {w} l m a r) f v d (suc j) k q e =
      linked-in (λ r i. Memᴰ.tail i) (onward r (fine (meet-event ku kl x (pitch * i) l m a) f) v d j k (omega arith) e)
  onward (end {i} {x} {w} l m a z r) f v d zero k q e =
      among-more m
      (λ p. let s = (all-at f.good (more-in m)).since in
      to-node pitch i k (omega arith) (same-wire p
      (by_way (pitch * i) w.height (along w (pitch * i) w.since (pitch * i) (Memᴰ.tail (Memᴰ.head refl)) (omega arith) (omega arith))
      (beside w (pitch * i) axis (Memᴰ.head refl)))))
      (λ p. absurd (other-net m (f.once v.net) p (same-net e)))
      d
  onward (end {i} {x} {w} {pins = pins} l m a z r) f v d (suc j) k q e =
      among-more m
      (λ p. absurd (gone pins j w.net z (e ∙ ap (λ u. some u.net) p)))
      (λ p. linked-in (λ r i. Memᴰ.tail (Memᴰ.tail i)) (onward r (fine (end-event ku kl x (pitch * i) l m a) f) v p j k (omega arith) e))
      d
  onward (blank l r) f v d zero k q e = absurd (no-net e)
  onward (blank l r) f v d (suc j) k q e = onward r (fine-later (omega arith) f) v d j k (omega arith) e

  -- all pins of a net are joined
  pub joins : {i x : ℕ} {ws : List Wire} {pins : List (Option ℕ)} {hs : List ℕ} {film : List Rec} → Trace pitch ku kl i x ws pins hs film → Fine ku kl x ws
      → (net j k j' k' : ℕ) → k ≡ i + j → k' ≡ i + j' → get_or pins j none ≡ some net → get_or pins j' none ≡ some net
      → Linked net film (pitch * k) axis (pitch * k') axis
  joins stop f = λ net j k j' k' q q' e e'. absurd (no-net e)
  joins (turn {x = x} {y} l t n m m' a r) f = λ net j k j' k' q q' e e'.
      linked-in (λ r i. Memᴰ.tail (Memᴰ.tail i)) (joins r (fine (turn-event ku kl x y l t n m m' a) f) net j k j' k' q q' e e')
  joins (begin {i} {x} {w} {pins = pins} l s t m a u r) f =
      let f' = fine (begin-event ku kl x (pitch * i) l s t m a u) f in
      with_first pitch pins w.net i
      (by_way (pitch * i) w.height (linked-sym (beside w (pitch * i) axis (Memᴰ.head refl))) (beside w (pitch * i) axis (Memᴰ.head refl)))
      (λ j k q e. by_way (pitch * i) w.height (linked-sym (beside w (pitch * i) axis (Memᴰ.head refl)))
      (linked-in (λ r i. Memᴰ.tail i) (rw s at (onward r f' w (more-in m) j k q e))))
      (λ net j k j' k' q q' e e'. linked-in (λ r i. Memᴰ.tail i) (joins r f' net j k j' k' q q' e e'))
  joins (meet {i} {x} {w} {pins = pins} l m a r) f =
      let f' = fine (meet-event ku kl x (pitch * i) l m a) f in
      let s = (all-at f.good (more-in m)).since in
      let c = run_ends r w (more-in m) in
      with_first pitch pins w.net i
      (by_way (pitch * i) w.height (linked-sym (beside w (pitch * i) axis (Memᴰ.head refl))) (beside w (pitch * i) axis (Memᴰ.head refl)))
      (λ j k q e. by_way (pitch * i) w.height (linked-sym (beside w (pitch * i) axis (Memᴰ.head refl)))
      (by_way w.since w.height (along w c.0 (pitch * i) w.since (Memᴰ.tail c.2) (omega arith) (omega arith))
      (linked-in (λ r i. Memᴰ.tail i) (onward r f' w (more-in m) j k q e))))
      (λ net j k j' k' q q' e e'. linked-in (λ r i. Memᴰ.tail i) (joins r f' net j k j' k' q q' e e'))
  joins (end {i} {x} {w} {pins = pins} l m a z r) f =
      let f' = fine (end-event ku kl x (pitch * i) l m a) f in
      with_first pitch pins w.net i
      (by_way (pitch * i) w.height (linked-sym (beside w (pitch * i) axis (Memᴰ.head refl))) (beside w (pitch * i) axis (Memᴰ.head refl)))
      (λ j k q e. absurd (gone pins j w.net z e))
      (λ net j k j' k' q q' e e'. linked-in (λ r i. Memᴰ.tail (Memᴰ.tail i)) (joins r f' net j k j' k' q q' e e'))
  joins (blank {i} {pins = pins} l r) f = past-blank pitch pins i (joins r (fine-later (omega arith) f))

  -- each pin of a net has its stub
  pub stub : {i x : ℕ} {ws : List Wire} {pins : List (Option ℕ)} {hs : List ℕ} {film : List Rec} → Trace pitch ku kl i x ws pins hs film
      → (net j k : ℕ) → k ≡ i + j → get_or pins j none ≡ some net
      → (w : Wire) × Memᴰ (wall (pitch * k) axis w) film × (w.net ≡ net) × (w.height ≡ get_or hs j axis)
  stub stop net j k q e = absurd (no-net e)
  stub (turn l t n m m' a r) net j k q e = let s = stub r net j k q e in (s.0, Memᴰ.tail (Memᴰ.tail s.1), s.2, s.3)
  stub (begin {i} {w = w} l s t m a u r) net zero k q e = let k≡ : k ≡ i = omega arith in rw k≡ (w, Memᴰ.head refl, same-net e, refl)
  stub (begin l s t m a u r) net (suc j) k q e = let s = stub r net j k (omega arith) e in (s.0, Memᴰ.tail s.1, s.2, s.3)
  stub (meet {i} {w = w} l m a r) net zero k q e = let k≡ : k ≡ i = omega arith in rw k≡ (w, Memᴰ.head refl, same-net e, refl)
  stub (meet l m a r) net (suc j) k q e = let s = stub r net j k (omega arith) e in (s.0, Memᴰ.tail s.1, s.2, s.3)
  stub (end {i} {w = w} l m a z r) net zero k q e = let k≡ : k ≡ i = omega arith in rw k≡ (w, Memᴰ.head refl, same-net e, refl)
  stub (end l m a z r) net (suc j) k q e = let s = stub r net j k (omega arith) e in (s.0, Memᴰ.tail (Memᴰ.tail s.1), s.2, s.3)
  stub (blank l r) net zero k q e = absurd (no-net e)
  stub (blank l r) net (suc j) k q e = stub r net j k (omega arith) e

  -- ---- what touches a pin

  -- no node is before column x
  reach : {i x : ℕ} {ws : List Wire} {pins : List (Option ℕ)} {hs : List ℕ} {film : List Rec} → Trace pitch ku kl i x ws pins hs film
      → (j k : ℕ) → k ≡ i + j → j < length pins → x ≤ pitch * k
  reach stop j k q h = absurd (omega arith)
  reach (turn l t n m m' a r) j k q h = omega (arith, reach r j k q h)
  reach (begin {i} l s t m a u r) j k q h = omega (arith, mul-le-mul_left {m = i} {n = k} pitch (omega arith))
  reach (meet {i} l m a r) j k q h = omega (arith, mul-le-mul_left {m = i} {n = k} pitch (omega arith))
  reach (end {i} l m a z r) j k q h = omega (arith, mul-le-mul_left {m = i} {n = k} pitch (omega arith))
  reach (blank {i} l r) j k q h = omega (arith, mul-le-mul_left {m = i} {n = k} pitch (omega arith))

  -- the records recs of node i touch its pin alone, and those behind it later pins
  own-node : {i : ℕ} {vs : List Wire} {pins : List (Option ℕ)} {hs : List ℕ} {film : List Rec} (pin : Option ℕ) (recs : List Rec)
      → Trace pitch ku kl (suc i) (suc (pitch * i)) vs pins hs film → Fine ku kl (suc (pitch * i)) vs
      → ((r : Rec) (c : ℕ) → Memᴰ r recs → On r c axis → (c ≡ pitch * i) × (pin ≡ some (net_of r)))
      → ((r : Rec) (j k : ℕ) → Memᴰ r film → k ≡ suc i + j → j < length pins → On r (pitch * k) axis → get_or pins j none ≡ some (net_of r))
      → (r : Rec) (j k : ℕ) → Memᴰ r (recs ++ film) → k ≡ i + j → j < suc (length pins) → On r (pitch * k) axis → get_or (pin ∷ pins) j none ≡ some (net_of r)
  own-node {i} {pins = pins} {film = film} pin recs t f here later r j k d q h o = go j (Memᴰ.append_cases recs d) q h
    where
      go : (j : ℕ) → Memᴰ r recs ⊎ Memᴰ r film → k ≡ i + j → j < suc (length pins) → get_or (pin ∷ pins) j none ≡ some (net_of r)
      go zero (inl m) q h = (here r (pitch * k) m o).1
      go zero (inr m) q h = let e : pitch * k ≡ pitch * i = ap (λ z. pitch * z) (omega arith) in absurd (omega (arith, on-axis (steps t) f.good r (pitch * k) m o))
      go (suc j) (inl m) q h = absurd (omega (arith, (here r (pitch * k) m o).0, reach t j k (omega arith) (omega arith)))
      go (suc j) (inr m) q h = later r j k m (omega arith) (omega arith) o

  -- a pin is touched by its own net alone, and a blank by none
  pub own : {i x : ℕ} {ws : List Wire} {pins : List (Option ℕ)} {hs : List ℕ} {film : List Rec} → Trace pitch ku kl i x ws pins hs film → Fine ku kl x ws
      → (r : Rec) (j k : ℕ) → Memᴰ r film → k ≡ i + j → j < length pins → On r (pitch * k) axis → get_or pins j none ≡ some (net_of r)
  own stop f = λ r j k d q h o. absurd (Memᴰ.not-nil d)
  own (turn {i} {x} {y} {h} {w} {pins = pins} {film = film} l t n m m' a rest) f = λ r j k d q b o. go r j k q b o (own rest (fine (turn-event ku kl x y l t n m m' a) f) r j k) d
    where
      go : (r : Rec) (j k : ℕ) → k ≡ i + j → j < length pins → On r (pitch * k) axis
          → (Memᴰ r film → k ≡ i + j → j < length pins → On r (pitch * k) axis → get_or pins j none ≡ some (net_of r))
          → Memᴰ r (ran y w ∷ wall y h w ∷ film) → get_or pins j none ≡ some (net_of r)
      go r j k q b o ih (Memᴰ.head e) = absurd (off-run y w r (pitch * k) (all-at f.good (more-in m)).track.off e o)
      go r j k q b o ih (Memᴰ.tail (Memᴰ.head e)) = absurd (omega (arith, at-column y h w r (pitch * k) e o, reach rest j k q b))
      go r j k q b o ih (Memᴰ.tail (Memᴰ.tail d)) = ih d q b o
  own (begin {i} {x} {w} l s t m a u rest) f =
      let f' = fine (begin-event ku kl x (pitch * i) l s t m a u) f in
      own-node (some w.net) (wall (pitch * i) axis w ∷ []) rest f' (stub-alone (pitch * i) w) (own rest f')
  own (meet {i} {x} {w} l m a rest) f =
      let f' = fine (meet-event ku kl x (pitch * i) l m a) f in
      own-node (some w.net) (wall (pitch * i) axis w ∷ []) rest f' (stub-alone (pitch * i) w) (own rest f')
  own (end {i} {x} {w} l m a z rest) f =
      let f' = fine (end-event ku kl x (pitch * i) l m a) f in
      own-node (some w.net) (wall (pitch * i) axis w ∷ ran (pitch * i) w ∷ []) rest f' (stub-and-run (pitch * i) w (all-at f.good (more-in m)).track.off) (own rest f')
  own (blank {i} l rest) f =
      let f' = fine-later {y = suc (pitch * i)} (omega arith) f in
      own-node none [] rest f' (λ r c d o. absurd (Memᴰ.not-nil d)) (own rest f')
