-- The film of events keeps nets apart, meets a cut once for a net, stays on the tracks, and overfills none.
use mathlib.Core.Path.{◌≡◌, refl, sym, ◌∙◌}
use mathlib.Core.List.Memᴰ
use mathlib.Core.List.{List, [], ◌∷◌, ◌++◌, Memᴰ}
use mathlib.Core.Logic.{◌≢◌, ◌⊎◌, inl, inr}
use Prim.Native.Nat.{ℕ, suc, ◌+◌, ◌-◌, ◌≤◌, ◌<◌, min, max}
use native.Mathlib.Omega.{arith}
use Rattle.rules.specs.Film.{Rec, across, upright, Wire, axis}
use Rattle.rules.specs.WireRules.{net_of, On, overs}
use Rattle.rules.proofs.Open.{times}
use Rattle.wires.proofs.Among.{All, all-at, lt-or-ge}
use Rattle.wires.proofs.Gap.{Clear}
use Rattle.wires.proofs.Trace.{Track}
use Rattle.wires.proofs.Steps.{open_nets, Runs, Part, run, vertical, Good, crossings, crossings-times, Event, Steps, done, step}

-- a record from column x on, with the wires ws open there: it begins there or is the run of one of them
pub data Ahead (x : ℕ) (ws : List Wire) : Rec → Type 0 where
  run-ahead : {n h l r : ℕ} → x ≤ r → (x ≤ l) ⊎ Runs ws n h l → Ahead x ws (across n h l r)
  wall-ahead : {n l c h : ℕ} → x ≤ c → Ahead x ws (upright n l c h)

part-ahead : {net a b x y : ℕ} {ws vs : List Wire} {r : Rec} → x ≤ y → Part net a b y ws vs r → Ahead x ws r
part-ahead k (run {r = r} n e u v q t) = run-ahead {r = r} (omega arith) (inr q)
part-ahead k (vertical {x = x} n e u v) = wall-ahead {c = x} (omega arith)

part-net : {net a b y : ℕ} {ws vs : List Wire} {r : Rec} → Part net a b y ws vs r → net_of r ≡ net
unfolding net_of
part-net (run n e u v q t) = n
part-net (vertical n e u v) = n

-- a point of an event is at its column or before, in the stretch that it crosses
part-on : {net a b y : ℕ} {ws vs : List Wire} (c z : ℕ) {r : Rec} → Part net a b y ws vs r → On r c z → (c ≤ y) × (min a b ≤ z) × (z ≤ max a b)
unfolding On
part-on c z (run n e u v q t) o = (omega arith, omega arith, omega arith)
part-on c z (vertical n e u v) o = (omega arith, omega arith, omega arith)

-- a point of a later record at a column that is past is on an open run
past-on : {y : ℕ} {vs : List Wire} (c z : ℕ) {r : Rec} → Ahead (suc y) vs r → On r c z → c ≤ y → (l : ℕ) × Runs vs (net_of r) z l
unfolding On net_of
past-on c z (run-ahead k (inl p)) o t = absurd (omega arith)
past-on c z (run-ahead {l = l} k (inr p)) o t = (l, record { wire = p.wire; among = p.among; net = p.net; height = p.height ∙ sym o.0; since = p.since })
past-on c z (wall-ahead k) o t = absurd (omega arith)

overs-append : (m c : ℕ) (f g : List Rec) → overs m c (f ++ g) ≡ overs m c f + overs m c g
unfolding overs
overs-append m c [] g = omega arith
overs-append m c (r ∷ f) g = omega (arith, overs-append m c f g)

part-run : {ku kl x net a b y n h l r : ℕ} {ws vs : List Wire} → All (Good ku kl x) ws → x ≤ y → Part net a b y ws vs (across n h l r) → Track ku kl h × (l < r)
part-run g k (run n e u v q t) =
    let w = all-at g q.among in
    (rw q.height at w.track, omega (arith, w.since, q.since))

part-wall : (ku kl : ℕ) {net a b y n l x h : ℕ} {ws vs : List Wire} → Part net a b y ws vs (upright n l x h)
    → (a ≢ b) × (axis - kl ≤ min a b) × (max a b ≤ axis + ku) → (l < h) × (axis - kl ≤ l) × (h ≤ axis + ku)
part-wall ku kl (vertical n e u v) s = (omega arith, omega arith, omega arith)

module _ {ku kl : ℕ} where
  earlier : {x y : ℕ} {ws vs : List Wire} {recs : List Rec} {r : Rec} → Event ku kl x y ws recs vs → Ahead (suc y) vs r → Ahead x ws r
  earlier e (run-ahead {n} {h} {l} {r} k (inl q)) = run-ahead {l = l} {r = r} (omega (arith, e.later)) (inl (omega (arith, e.later)))
  earlier {x} {y} {ws} e (run-ahead {n} {h} {l} {r} k (inr q)) = run-ahead {r = r} (omega (arith, e.later)) (turned (e.kept q.wire q.among))
    where
      turned : Memᴰ q.wire ws ⊎ (q.wire.since ≡ y) → (x ≤ l) ⊎ Runs ws n h l
      turned (inl i) = inr (record { wire = q.wire; among = i; net = q.net; height = q.height; since = q.since })
      turned (inr s) = inl (omega (arith, e.later, q.since))
  earlier e (wall-ahead {c = c} k) = wall-ahead {c = c} (omega (arith, e.later))

  pub ahead : {x : ℕ} {ws : List Wire} {film : List Rec} → Steps ku kl x ws film → (r : Rec) → Memᴰ r film → Ahead x ws r
  ahead done r d = absurd (Memᴰ.not-nil d)
  ahead {x} {ws} (step {y = y} {vs = vs} {recs = recs} {film = film} e s) r d = go (Memᴰ.append_cases recs d) (λ i. ahead s r i)
    where
      go : Memᴰ r recs ⊎ Memᴰ r film → (Memᴰ r film → Ahead (suc y) vs r) → Ahead x ws r
      go (inl i) ih = part-ahead e.later (all-at e.parts i)
      go (inr i) ih = earlier e (ih i)

  -- ---- nets stay apart

  across-events : {x y : ℕ} {ws vs : List Wire} {recs : List Rec} (c z : ℕ) (r r' : Rec) (e : Event ku kl x y ws recs vs)
      → Part e.net e.a e.b y ws vs r → Ahead (suc y) vs r' → On r c z → On r' c z → net_of r ≡ net_of r'
  across-events {vs = vs} c z r r' e p k o o' =
      let i = part-on c z p o in
      let q = (past-on c z k o' i.0).1 in
      go i.1 i.2 q (e.clear q.wire q.among)
    where
      go : {l : ℕ} → min e.a e.b ≤ z → z ≤ max e.a e.b → (q : Runs vs (net_of r') z l)
          → (q.wire.net ≡ e.net) ⊎ Clear e.a e.b q.wire.height → net_of r ≡ net_of r'
      go u v q (inl n) = part-net p ∙ sym n ∙ q.net
      go u v q (inr f) = absurd (f (omega (arith, q.height)) (omega (arith, q.height)))

  pub apart : {x : ℕ} {ws : List Wire} {film : List Rec} → Steps ku kl x ws film → (r r' : Rec) (c z : ℕ) → Memᴰ r film → Memᴰ r' film
      → On r c z → On r' c z → net_of r ≡ net_of r'
  apart done r r' c z d d' o o' = absurd (Memᴰ.not-nil d)
  apart (step {y = y} {vs = vs} {recs = recs} {film = film} e s) r r' c z d d' o o' =
      go (Memᴰ.append_cases recs d) (Memᴰ.append_cases recs d') (λ i j. apart s r r' c z i j o o')
    where
      go : Memᴰ r recs ⊎ Memᴰ r film → Memᴰ r' recs ⊎ Memᴰ r' film
          → (Memᴰ r film → Memᴰ r' film → net_of r ≡ net_of r') → net_of r ≡ net_of r'
      go (inl i) (inl j) ih = part-net (all-at e.parts i) ∙ sym (part-net (all-at e.parts j))
      go (inl i) (inr j) ih = across-events c z r r' e (all-at e.parts i) (ahead s r' j) o o'
      go (inr i) (inl j) ih = sym (across-events c z r' r e (all-at e.parts j) (ahead s r i) o' o)
      go (inr i) (inr j) ih = ih i j

  -- ---- no track is overfilled

  beyond : {x y : ℕ} {ws vs : List Wire} {recs : List Rec} {n h l r n' l' r' : ℕ} (e : Event ku kl x y ws recs vs)
      → Part e.net e.a e.b y ws vs (across n h l r) → Ahead (suc y) vs (across n' h l' r') → r < l'
  beyond e (run n k u v q t) (run-ahead i (inl j)) = omega arith
  beyond e (run n k u v q t) (run-ahead i (inr j)) = absurd (t j.wire j.among j.height)

  pub filled : {x : ℕ} {ws : List Wire} {film : List Rec} → Steps ku kl x ws film → (n h l r n' l' r' : ℕ)
      → Memᴰ (across n h l r) film → Memᴰ (across n' h l' r') film
      → (across n h l r ≡ across n' h l' r') ⊎ ((r < l') ⊎ (r' < l))
  filled done n h l r n' l' r' d d' = absurd (Memᴰ.not-nil d)
  filled (step {recs = recs} {film = film} e s) n h l r n' l' r' d d' =
      go (Memᴰ.append_cases recs d) (Memᴰ.append_cases recs d') (λ i j. filled s n h l r n' l' r' i j)
    where
      go : Memᴰ (across n h l r) recs ⊎ Memᴰ (across n h l r) film → Memᴰ (across n' h l' r') recs ⊎ Memᴰ (across n' h l' r') film
          → (Memᴰ (across n h l r) film → Memᴰ (across n' h l' r') film → (across n h l r ≡ across n' h l' r') ⊎ ((r < l') ⊎ (r' < l)))
          → (across n h l r ≡ across n' h l' r') ⊎ ((r < l') ⊎ (r' < l))
      go (inl i) (inl j) ih = inl (e.single n h l r n' h l' r' i j)
      go (inl i) (inr j) ih = inr (inl (beyond e (all-at e.parts i) (ahead s (across n' h l' r') j)))
      go (inr i) (inl j) ih = inr (inr (beyond e (all-at e.parts j) (ahead s (across n h l r) i)))
      go (inr i) (inr j) ih = ih i j

  -- ---- one horizontal of a net over a cut

  -- before column x there are the runs of the open wires alone
  pub overs-open : {x : ℕ} {ws : List Wire} {film : List Rec} → Steps ku kl x ws film → (m c : ℕ) → c < x → overs m c film ≡ crossings m c ws
  unfolding overs crossings
  overs-open done m c h = refl
  overs-open (step {y = y} {recs = recs} {film = film} e s) m c h =
      let k : c < suc y = omega (arith, e.later) in
      omega (arith, overs-append m c recs film, overs-open s m c k, e.crossed m c (omega (arith, e.later)))

  pub cuts : {x : ℕ} {ws : List Wire} {film : List Rec} → Steps ku kl x ws film → (m : ℕ) → times m (open_nets ws) ≤ 1 → (c : ℕ) → overs m c film ≤ 1
  unfolding overs
  cuts done m o c = omega arith
  cuts (step {y = y} {ws = ws} {recs = recs} {film = film} e s) m o c = go (lt-or-ge c y) (cuts s m (e.once m o) c)
    where
      go : (c < y) ⊎ (y ≤ c) → overs m c film ≤ 1 → overs m c (recs ++ film) ≤ 1
      go (inl h) ih = omega (arith, overs-append m c recs film, overs-open s m c (omega arith), e.crossed m c h, crossings-times m c ws)
      go (inr h) ih = omega (arith, overs-append m c recs film, e.behind m c h)

  -- ---- tracks and lengths

  pub on-tracks : {x : ℕ} {ws : List Wire} {film : List Rec} → Steps ku kl x ws film → All (Good ku kl x) ws
      → (n h l r : ℕ) → Memᴰ (across n h l r) film → Track ku kl h × (l < r)
  on-tracks done g n h l r d = absurd (Memᴰ.not-nil d)
  on-tracks (step {recs = recs} {film = film} e s) g n h l r d = go (Memᴰ.append_cases recs d) (λ i. on-tracks s (e.good g) n h l r i)
    where
      go : Memᴰ (across n h l r) recs ⊎ Memᴰ (across n h l r) film → (Memᴰ (across n h l r) film → Track ku kl h × (l < r)) → Track ku kl h × (l < r)
      go (inl i) ih = part-run g e.later (all-at e.parts i)
      go (inr i) ih = ih i

  pub tall : {x : ℕ} {ws : List Wire} {film : List Rec} → Steps ku kl x ws film → All (Good ku kl x) ws
      → (n l c h : ℕ) → Memᴰ (upright n l c h) film → (l < h) × (axis - kl ≤ l) × (h ≤ axis + ku)
  tall done g n l c h d = absurd (Memᴰ.not-nil d)
  tall (step {recs = recs} {film = film} e s) g n l c h d = go (Memᴰ.append_cases recs d) (λ i. tall s (e.good g) n l c h i)
    where
      go : Memᴰ (upright n l c h) recs ⊎ Memᴰ (upright n l c h) film → (Memᴰ (upright n l c h) film → (l < h) × (axis - kl ≤ l) × (h ≤ axis + ku))
          → (l < h) × (axis - kl ≤ l) × (h ≤ axis + ku)
      go (inl i) ih = part-wall ku kl (all-at e.parts i) (e.street g)
      go (inr i) ih = ih i

  -- what touches the axis is a vertical, at column x or later
  pub on-axis : {x : ℕ} {ws : List Wire} {film : List Rec} → Steps ku kl x ws film → All (Good ku kl x) ws
      → (r : Rec) (c : ℕ) → Memᴰ r film → On r c axis → x ≤ c
  unfolding On
  on-axis s g (across n h l r) c d o = absurd ((on-tracks s g n h l r d).0.off (sym o.0))
  on-axis {x} {ws} s g (upright n l y h) c d o = go (ahead s (upright n l y h) d)
    where
      go : Ahead x ws (upright n l y h) → x ≤ c
      go (wall-ahead k) = omega (arith, o.0)
