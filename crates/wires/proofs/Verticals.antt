-- Each vertical of a trace is a stub or the move between two heights, each change of height has its vertical, and no record stands twice.
use mathlib.Core.Path.{◌≡◌, refl, sym, ap, ◌∙◌, subst}
use mathlib.Core.Bool.{true}
use mathlib.Core.List.Memᴰ
use mathlib.Core.List.{List, [], ◌∷◌, ◌++◌, Memᴰ}
use mathlib.Core.Logic.{◌≢◌, ◌⊎◌, inl, inr}
use mathlib.Core.Option.{Option, none, some}
use Prim.Native.Nat.{ℕ, suc, ◌+◌, ◌-◌, ◌*◌, ◌≤◌, ◌<◌, min, max}
use native.Mathlib.Omega.{arith}
use lib.ListN.{get_or}
use Rattle.rules.specs.Film.{Rec, across, upright, Wire, axis, ran, wall, bent}
use Rattle.rules.proofs.Open.{times}
use Rattle.wires.specs.Levels.{Over, Distinct, nothing, another}
use Rattle.wires.proofs.Among.{all-at, here, more-in, lt-or-ge}
use Rattle.wires.proofs.Trace.{Trace, stop, turn, begin, meet, end, blank}
use Rattle.wires.proofs.Steps.{open_nets, other-net, not-wall, Runs, Part, run, vertical, Event, Steps, done, step, turn-event, begin-event, meet-event, end-event}
use Rattle.wires.proofs.Rules.{Ahead, run-ahead, wall-ahead, ahead}
use Rattle.wires.proofs.Joins.{Fine, fine, fine-later}
use Rattle.wires.proofs.Cover.{over-in, over-open, over-wire}

-- ---- what a vertical is

-- in a film from node i on, with these nets at the pins and heights of own wires
pub data Upright (pitch i : ℕ) (pins : List (Option ℕ)) (hs : List ℕ) (film : List Rec) (n l c h : ℕ) : Type 0 where
  a-stub : (j : ℕ) → get_or pins j none ≡ some n → c ≡ pitch * (i + j) → l ≡ min axis (get_or hs j axis) → h ≡ max axis (get_or hs j axis)
      → Upright pitch i pins hs film n l c h
  a_move : (p a b : ℕ) → suc p ≡ c → Over film n p a → Over film n c b → a ≢ b → l ≡ min a b → h ≡ max a b → Upright pitch i pins hs film n l c h

later-node : {pitch i k n l c h : ℕ} {pin : Option ℕ} {pins : List (Option ℕ)} {hs : List ℕ} {film more : List Rec} → ((r : Rec) → Memᴰ r film → Memᴰ r more)
    → Upright pitch (suc i) pins hs film n l c h → Upright pitch i (pin ∷ pins) (k ∷ hs) more n l c h
later-node {pitch} f (a-stub j e g u v) = a-stub (suc j) e (g ∙ ap (λ m. pitch * m) (omega arith)) u v
later-node f (a_move p a b e o o' d u v) = a_move p a b e (over-in f o) (over-in f o') d u v

later-move : {pitch i n l c h : ℕ} {pins : List (Option ℕ)} {hs : List ℕ} {film more : List Rec} → ((r : Rec) → Memᴰ r film → Memᴰ r more)
    → Upright pitch i pins hs film n l c h → Upright pitch i pins hs more n l c h
later-move f (a-stub j e g u v) = a-stub j e g u v
later-move f (a_move p a b e o o' d u v) = a_move p a b e (over-in f o) (over-in f o') d u v

-- the stub of node i
stub-here : {n l c h : ℕ} (pitch i : ℕ) (w : Wire) (pins : List (Option ℕ)) (hs : List ℕ) (film : List Rec) → upright n l c h ≡ wall (pitch * i) axis w
    → Upright pitch i (some w.net ∷ pins) (w.height ∷ hs) film n l c h
unfolding wall
stub-here {n} {l} {c} {h} pitch i w pins hs film e =
    let g : c ≡ pitch * i = cc in
    a-stub 0 (cc) (g ∙ ap (λ m. pitch * m) (omega arith)) (cc) (cc)

module _ {pitch ku kl : ℕ} where
  pub uprights : {i x : ℕ} {ws : List Wire} {pins : List (Option ℕ)} {hs : List ℕ} {film : List Rec} → Trace pitch ku kl i x ws pins hs film → Fine ku kl x ws
      → (n l c h : ℕ) → Memᴰ (upright n l c h) film → Upright pitch i pins hs film n l c h
  unfolding ran wall bent
  uprights stop f n l c h d = absurd (Memᴰ.not-nil d)
  uprights (turn a t k m m' cl r) f n l c h (Memᴰ.head e) = absurd (not-wall (sym e))
  uprights (turn {x = x} {y} {h = g} {w} {film = film} a t k m m' cl r) f n l c h (Memᴰ.tail (Memᴰ.head e)) =
      let s = (all-at f.good (more-in m)).since in
      let n≡ : w.net ≡ n = cc in
      let c≡ : y ≡ c = cc in
      let l≡ : l ≡ min g w.height = cc in
      let h≡ : h ≡ max g w.height = cc in
      let all : List Rec = ran y w ∷ wall y g w ∷ film in
      let o : Over all w.net (y - 1) w.height =
      record { left = w.since; right = y; among = Memᴰ.head refl; begins = omega arith; ends = omega arith } in
      let o' : Over all w.net y g = over-in (λ r i. Memᴰ.tail (Memᴰ.tail i)) (over-wire r (bent true g y w) (more-in m') y (omega arith) (omega arith)) in
      a_move (y - 1) w.height g (omega arith) (subst (λ z. Over all z (y - 1) w.height) n≡ o) (subst (λ z. Over all n z g) c≡ (subst (λ z. Over all z y g) n≡ o'))
      (λ z. k (sym z)) (omega arith) (omega arith)
  uprights (turn {x = x} {y} a t k m m' cl r) f n l c h (Memᴰ.tail (Memᴰ.tail d)) =
      later-move (λ r i. Memᴰ.tail (Memᴰ.tail i)) (uprights r (fine (turn-event ku kl x y a t k m m' cl) f) n l c h d)
  uprights (begin {i} {w = w} {pins = pins} {hs} {film} a s t m cl u r) f n l c h (Memᴰ.head e) = stub-here pitch i w pins hs (wall (pitch * i) axis w ∷ film) e
  uprights (begin {i} {x} a s t m cl u r) f n l c h (Memᴰ.tail d) =
      later-node (λ r i. Memᴰ.tail i) (uprights r (fine (begin-event ku kl x (pitch * i) a s t m cl u) f) n l c h d)
  uprights (meet {i} {w = w} {pins = pins} {hs} {film} a m cl r) f n l c h (Memᴰ.head e) = stub-here pitch i w pins hs (wall (pitch * i) axis w ∷ film) e
  uprights (meet {i} {x} a m cl r) f n l c h (Memᴰ.tail d) =
      later-node (λ r i. Memᴰ.tail i) (uprights r (fine (meet-event ku kl x (pitch * i) a m cl) f) n l c h d)
  uprights (end {i} {w = w} {pins = pins} {hs} {film} a m cl z r) f n l c h (Memᴰ.head e) = stub-here pitch i w pins hs (wall (pitch * i) axis w ∷ ran (pitch * i) w ∷ film) e
  uprights (end a m cl z r) f n l c h (Memᴰ.tail (Memᴰ.head e)) = absurd (not-wall (sym e))
  uprights (end {i} {x} a m cl z r) f n l c h (Memᴰ.tail (Memᴰ.tail d)) =
      later-node (λ r i. Memᴰ.tail (Memᴰ.tail i)) (uprights r (fine (end-event ku kl x (pitch * i) a m cl) f) n l c h d)
  uprights (blank {i} {x} a r) f n l c h d = later-node (λ r i. i) (uprights r (fine-later (omega arith) f) n l c h d)

-- ---- each change of height has its vertical

-- two wires of one net are one
one-wire : {v w : Wire} (ws : List Wire) → ((k : ℕ) → times k (open_nets ws) ≤ 1) → Memᴰ v ws → Memᴰ w ws → v.net ≡ w.net → v ≡ w
unfolding times
one-wire [] o d f q = elim d [ ]
one-wire (u ∷ ws) o (Memᴰ.head e) (Memᴰ.head f) q = e ∙ sym f
one-wire {v} {w} (u ∷ ws) o (Memᴰ.head e) (Memᴰ.tail d) q = absurd (other-net {w = u} here (o w.net) d (ap (λ z. z.net) (sym e) ∙ q))
one-wire {v} {w} (u ∷ ws) o (Memᴰ.tail d) (Memᴰ.head f) q = absurd (other-net {w = u} here (o v.net) d (ap (λ z. z.net) (sym f) ∙ sym q))
one-wire (u ∷ ws) o (Memᴰ.tail d) (Memᴰ.tail f) q = one-wire ws (λ k. omega (arith, o k)) d f q

-- the event of a film, and what is behind it
module _ {ku kl x y : ℕ} {ws vs : List Wire} {recs film : List Rec} (e : Event ku kl x y ws recs vs) (s : Steps ku kl (suc y) vs film) where
  before-event : {n c a : ℕ} → c < y → Over (recs ++ film) n c a → (l : ℕ) × Runs ws n a l
  before-event {n} {c} {a} h o = go (Memᴰ.append_cases recs o.among)
    where
      part : {l r : ℕ} → Part e.net e.a e.b y ws vs (across n a l r) → (m : ℕ) × Runs ws n a m
      part {l} (run p q u v t z) = (l, t)

      rest : Ahead (suc y) vs (across n a o.left o.right) → (m : ℕ) × Runs ws n a m
      rest (run-ahead p (inl q)) = absurd (omega (arith, o.begins))
      rest (run-ahead p (inr q)) = kept (e.kept q.wire q.among)
        where
          kept : Memᴰ q.wire ws ⊎ (q.wire.since ≡ y) → (m : ℕ) × Runs ws n a m
          kept (inl i) = (o.left, record { wire = q.wire; among = i; net = q.net; height = q.height; since = q.since })
          kept (inr i) = absurd (omega (arith, o.begins, q.since))

      go : Memᴰ (across n a o.left o.right) recs ⊎ Memᴰ (across n a o.left o.right) film → (m : ℕ) × Runs ws n a m
      go (inl i) = part (all-at e.parts i)
      go (inr i) = rest (ahead s (across n a o.left o.right) i)

  after-event : {n c a : ℕ} → y ≤ c → Over (recs ++ film) n c a → Over film n c a
  after-event {n} {c} {a} h o = record { left = o.left; right = o.right; among = go (Memᴰ.append_cases recs o.among); begins = o.begins; ends = o.ends }
    where
      part : {l r : ℕ} → Part e.net e.a e.b y ws vs (across n a l r) → r ≡ y
      part (run p q u v t z) = q

      go : Memᴰ (across n a o.left o.right) recs ⊎ Memᴰ (across n a o.left o.right) film → Memᴰ (across n a o.left o.right) film
      go (inl i) = absurd (omega (arith, part (all-at e.parts i), o.ends))
      go (inr i) = i

pub turns : {ku kl x : ℕ} {ws : List Wire} {film : List Rec} → Steps ku kl x ws film → ((k : ℕ) → times k (open_nets ws) ≤ 1)
    → (n c a b : ℕ) → Over film n c a → Over film n (suc c) b → a ≢ b → Memᴰ (upright n (min b a) (suc c) (max b a)) film
turns done o n c a b p q d = absurd (Memᴰ.not-nil p.among)
turns (step {y = y} {ws} {vs} {recs} {film} e s) o n c a b p q d =
    go (lt-or-ge c y) (lt-or-ge (suc c) y) (λ i j. turns s (λ k. e.once k (o k)) n c a b i j d)
  where
    same : {l m : ℕ} → Runs ws n a l → Runs ws n b m → ⊥
    same u v = d (sym u.height ∙ ap (λ z. z.height) (one-wire ws o u.among v.among (u.net ∙ sym v.net)) ∙ v.height)

    now : c < y → y ≤ suc c → {l m : ℕ} (u : Runs ws n a l) (v : Runs vs n b m)
        → Memᴰ v.wire ws ⊎ ((w : Wire) → Memᴰ w ws → w.net ≡ v.wire.net
        → Memᴰ (upright v.wire.net (min v.wire.height w.height) y (max v.wire.height w.height)) recs)
        → Memᴰ (upright n (min b a) (suc c) (max b a)) (recs ++ film)
    now h k u v (inl i) = absurd (same u (record { wire = v.wire; among = i; net = v.net; height = v.height; since = v.since }))
    now h k u v (inr f) =
        let y≡ : y ≡ suc c = omega arith in
        let r≡ : upright n (min b a) (suc c) (max b a) ≡ upright v.wire.net (min v.wire.height u.wire.height) y (max v.wire.height u.wire.height) =
        cc (u.height, v.height, v.net, y≡) in
        Memᴰ.append_left film (Memᴰ.cast r≡ (f u.wire u.among (u.net ∙ sym v.net)))

    go : (c < y) ⊎ (y ≤ c) → (suc c < y) ⊎ (y ≤ suc c) → (Over film n c a → Over film n (suc c) b → Memᴰ (upright n (min b a) (suc c) (max b a)) film)
        → Memᴰ (upright n (min b a) (suc c) (max b a)) (recs ++ film)
    go (inl h) (inl k) ih = absurd (same (before-event e s h p).1 (before-event e s k q).1)
    go (inl h) (inr k) ih =
        let v = (over-open s (omega arith) (after-event e s k q)).1 in
        now h k (before-event e s h p).1 v (e.turned o v.wire v.among)
    go (inr h) k ih = Memᴰ.append_right recs (ih (after-event e s h p) (after-event e s (omega arith) q))

-- ---- no record stands twice

distinct_append : {film rest : List Rec} → Distinct film → Distinct rest → ((r : Rec) → Memᴰ r film → Memᴰ r rest → ⊥) → Distinct (film ++ rest)
distinct_append nothing d f = d
distinct_append {rest = rest} (another {r} {film} n c) d f = another (λ m. go (Memᴰ.append_cases film m)) (distinct_append c d (λ q i. f q (Memᴰ.tail i)))
  where
    go : Memᴰ r film ⊎ Memᴰ r rest → ⊥
    go (inl i) = n i
    go (inr i) = f r (Memᴰ.head refl) i

-- a record ends at its event's column
not-later : {net a b y : ℕ} {ws vs : List Wire} {r : Rec} → Part net a b y ws vs r → Ahead (suc y) vs r → ⊥
not-later (run n e u v q t) (run-ahead k o) = omega arith
not-later (vertical n e u v) (wall-ahead k) = omega arith

pub distinct : {ku kl x : ℕ} {ws : List Wire} {film : List Rec} → Steps ku kl x ws film → Distinct film
distinct done = nothing
distinct (step e s) = distinct_append e.distinct (distinct s) (λ r i j. not-later (all-at e.parts i) (ahead s r j))
