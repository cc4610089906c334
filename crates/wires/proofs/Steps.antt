-- What the wire rules need of an event, and that every event of a trace has it.
use mathlib.Core.Path.{◌≡◌, refl, sym, ap, ap₂, ◌∙◌, subst}
use mathlib.Core.Bool.{Bool, true, false, ◌&&◌}
use mathlib.Core.List.Memᴰ
use mathlib.Core.List.{List, [], ◌∷◌, ◌++◌, map, Memᴰ}
use mathlib.Core.Logic.{◌≢◌, ◌⊎◌, inl, inr}
use mathlib.Core.Option.{Option}
use Prim.Native.Nat.{ℕ, suc, ◌+◌, ◌-◌, ◌*◌, ◌≤◌, ◌<◌, min, max}
use native.Mathlib.Omega.{arith}
use lib.Dec.{leb, eqb}
use borrow.Author.Tests.{lt-ltb, le-ltb, lt-leb, eqb-true, eqb-false}
use Rattle.rules.specs.Basic.{pick}
use Rattle.rules.specs.Film.{Rec, across, upright, Wire, axis, ran, wall, bent}
use Rattle.rules.specs.WireRules.{over, overs}
use Rattle.rules.proofs.Open.{one, one_same, one-other, times}
use Rattle.wires.specs.Levels.{Distinct, nothing, another}
use Rattle.wires.proofs.Among.{All, nil, cons, all-at, More, here, there, more-cases, more-in, more-still, all_more, all-less, all_map}
use Rattle.wires.proofs.Gap.{Aside, Clear}
use Rattle.wires.proofs.Trace.{Track, Trace, stop, turn, begin, meet, end, blank}

abbrev pub open_nets : List Wire → List ℕ
open_nets ws = map (λ w. w.net) ws

-- an open wire of the net n runs at height h from column l on
pub record Runs (ws : List Wire) (n h l : ℕ) : Type 0 where
  pub wire : Wire
  pub among : Memᴰ wire ws
  pub net : wire.net ≡ n
  pub height : wire.height ≡ h
  pub since : wire.since ≡ l

-- a record of an event at column y between the heights a and b: the run of an open wire up to y, to whose height no wire comes, or the vertical at y
pub data Part (net a b y : ℕ) (ws vs : List Wire) : Rec → Type 0 where
  run : {n h l r : ℕ} → n ≡ net → r ≡ y → min a b ≤ h → h ≤ max a b → Runs ws n h l → ((v : Wire) → Memᴰ v vs → v.height ≢ h)
      → Part net a b y ws vs (across n h l r)
  vertical : {n l x h : ℕ} → n ≡ net → x ≡ y → l ≡ min a b → h ≡ max a b → Part net a b y ws vs (upright n l x h)

-- a wire that can be open at column x
pub record Good (ku kl x : ℕ) (w : Wire) : Type 0 where
  pub track : Track ku kl w.height
  pub since : w.since < x

-- 1 for a wire of the net that runs over the cut between columns c and c + 1
unfoldable pub crossing : (net c : ℕ) → Wire → ℕ
crossing net c w = pick (eqb w.net net && leb w.since c) 1 0

unfoldable pub crossings : (net c : ℕ) → List Wire → ℕ
crossings net c [] = 0
crossings net c (w ∷ ws) = crossing net c w + crossings net c ws

-- an event of a net at column y, x or later, from the wires ws to the wires vs, between the heights a and b
pub record Event (ku kl x y : ℕ) (ws : List Wire) (recs : List Rec) (vs : List Wire) : Type 0 where
  pub net : ℕ
  pub a : ℕ
  pub b : ℕ
  pub later : x ≤ y
  -- what it draws: its parts, one run at most, none of them twice
  pub parts : All (Part net a b y ws vs) recs
  pub single : (n h l r n' h' l' r' : ℕ) → Memᴰ (across n h l r) recs → Memᴰ (across n' h' l' r') recs → across n h l r ≡ across n' h' l' r'
  pub distinct : Distinct recs
  -- all other wires are clear of it
  pub clear : (v : Wire) → Memᴰ v vs → (v.net ≡ net) ⊎ Clear a b v.height
  -- a wire after it was there before or begins at y, and then its net is new or its vertical is drawn
  pub turned : ((m : ℕ) → times m (open_nets ws) ≤ 1) → (v : Wire) → Memᴰ v vs
      → Memᴰ v ws ⊎ ((w : Wire) → Memᴰ w ws → w.net ≡ v.net → Memᴰ (upright v.net (min v.height w.height) y (max v.height w.height)) recs)
  pub kept : (v : Wire) → Memᴰ v vs → Memᴰ v ws ⊎ (v.since ≡ y)
  -- over a cut before y its runs and the wires after it are the wires before it; over a later one it draws nothing
  pub crossed : (m c : ℕ) → c < y → overs m c recs + crossings m c vs ≡ crossings m c ws
  pub behind : (m c : ℕ) → y ≤ c → overs m c recs ≡ 0
  -- wires keep to a net each and to the tracks
  pub once : (m : ℕ) → times m (open_nets ws) ≤ 1 → times m (open_nets vs) ≤ 1
  pub good : All (Good ku kl x) ws → All (Good ku kl (suc y)) vs
  pub street : All (Good ku kl x) ws → (a ≢ b) × (axis - kl ≤ min a b) × (max a b ≤ axis + ku)

-- events from column x on, with the wires ws open
pub data Steps (ku kl : ℕ) : ℕ → List Wire → List Rec → Type 0 where
  done : {x : ℕ} → Steps ku kl x [] []
  step : {x y : ℕ} {ws vs : List Wire} {recs film : List Rec} → Event ku kl x y ws recs vs → Steps ku kl (suc y) vs film → Steps ku kl x ws (recs ++ film)

-- ---- runs over a cut

crossing-both : (net y c : ℕ) (w : Wire) → c < y → pick (over net c (ran y w)) 1 0 ≡ crossing net c w
unfolding over ran crossing
crossing-both net y c w h = rw (lt-ltb c y h) (ap (λ t. pick t 1 0) (go (eqb w.net net) (leb w.since c)))
  where
    go : (p q : Bool) → p && q && true ≡ p && q
    go true true = refl
    go true false = refl
    go false q = refl

crossing-past : (net y c : ℕ) (w : Wire) → y ≤ c → ◌≡◌ {A = ℕ} (pick (over net c (ran y w)) 1 0) 0
unfolding over ran pick
crossing-past net y c w h = rw (le-ltb c y h) (ap (λ t. pick t 1 0) (go (eqb w.net net) (leb w.since c)))
  where
    go : (p q : Bool) → p && q && false ≡ false
    go true true = refl
    go true false = refl
    go false q = refl

crossing-later : (net c : ℕ) (w : Wire) → c < w.since → crossing net c w ≡ 0
unfolding crossing pick
crossing-later net c w h = rw (lt-leb w.since c h) (ap (λ t. pick t 1 0) (go (eqb w.net net)))
  where
    go : (p : Bool) → p && false ≡ false
    go true = refl
    go false = refl

pub more-crossings : (net c : ℕ) {w : Wire} {l m : List Wire} → More w l m → crossings net c m ≡ crossing net c w + crossings net c l
unfolding crossings
more-crossings net c here = refl
more-crossings net c (there k) = omega (arith, more-crossings net c k)

pub more-times : (x : ℕ) {w : Wire} {l m : List Wire} → More w l m → times x (open_nets m) ≡ one (eqb w.net x) + times x (open_nets l)
unfolding times
more-times x here = refl
more-times x (there k) = omega (arith, more-times x k)

pub in-nets : {v : Wire} {ws : List Wire} → Memᴰ v ws → 0 < times v.net (open_nets ws)
unfolding times
in-nets {v} (Memᴰ.head {x} e) = rw (ap (λ u. u.net) e) (omega (arith, one_same x.net))
in-nets (Memᴰ.tail d) = omega (arith, in-nets d)

-- no other wire has a wire's net
pub other-net : {w v : Wire} {l m : List Wire} → More w l m → times v.net (open_nets m) ≤ 1 → Memᴰ v l → w.net ≡ v.net → ⊥
other-net {w} {v} k o d e = omega (arith, more-times v.net k, in-nets d, subst (λ n. one (eqb w.net n) ≡ 1) e (one_same w.net))

pub one-le : (t : Bool) → one t ≤ 1
unfolding one
one-le true = omega arith
one-le false = omega arith

-- a net that no wire has
none_of : {n k : ℕ} {ws : List Wire} → All (λ v. v.net ≢ n) ws → n ≡ k → times k (open_nets ws) ≡ 0
unfolding times
none_of nil e = refl
none_of {k = k} (cons {x} d a) e = omega (arith, one-other k x.net (λ q. d (q ∙ sym e)), none_of a e)

pub crossings-times : (net c : ℕ) (ws : List Wire) → crossings net c ws ≤ times net (open_nets ws)
unfolding crossings times crossing one pick
crossings-times net c [] = omega arith
crossings-times net c (w ∷ ws) = go (eqb w.net net) (leb w.since c) (crossings-times net c ws)
  where
    go : (p q : Bool) → crossings net c ws ≤ times net (open_nets ws) → pick (p && q) 1 0 + crossings net c ws ≤ one p + times net (open_nets ws)
    go true true h = omega arith
    go true false h = omega arith
    go false q h = omega arith

-- ---- the events of a trace

-- among an event's records there is one run at most
pub not-wall : {n h l r m k x i : ℕ} → across n h l r ≡ upright m k x i → ⊥
not-wall e = let z : ◌≡◌ {A = ℕ} 0 1 = cc in omega arith

no_run : {n h l r m k x i : ℕ} → Memᴰ (across n h l r) (upright m k x i ∷ []) → ⊥
no_run (Memᴰ.head e) = not-wall e
no_run (Memᴰ.tail d) = Memᴰ.not-nil d

no-wall : {n h l r m k x i : ℕ} → Memᴰ (upright m k x i) (across n h l r ∷ []) → ⊥
no-wall (Memᴰ.head e) = not-wall (sym e)
no-wall (Memᴰ.tail d) = Memᴰ.not-nil d

run-first : {n h l r m k x i : ℕ} {p : Rec} → Memᴰ (across n h l r) (p ∷ upright m k x i ∷ []) → across n h l r ≡ p
run-first (Memᴰ.head e) = e
run-first (Memᴰ.tail d) = absurd (no_run d)

run-last : {n h l r m k x i : ℕ} {p : Rec} → Memᴰ (across n h l r) (upright m k x i ∷ p ∷ []) → across n h l r ≡ p
run-last (Memᴰ.head e) = absurd (not-wall e)
run-last (Memᴰ.tail (Memᴰ.head e)) = e
run-last (Memᴰ.tail (Memᴰ.tail d)) = absurd (Memᴰ.not-nil d)

-- a wire of those that have one more is that one, or it is one of the others
pub among-more : {w v : Wire} {l m : List Wire} {C : Type 0} → More w l m → (v ≡ w → C) → (Memᴰ v l → C) → Memᴰ v m → C
among-more {w} {v} {l} {m} {C} k f g d = go (more-cases k d)
  where
    go : (v ≡ w) ⊎ Memᴰ v l → C
    go (inl e) = f e
    go (inr i) = g i

module _ (ku kl x y : ℕ) (later : x ≤ y) where
  -- wires that were good are good later
  still-good : {ws : List Wire} → All (Good ku kl x) ws → All (Good ku kl (suc y)) ws
  still-good = all_map (λ w g. record { track = g.track; since = omega (arith, g.since) })

  pub turn-event : {h : ℕ} {w : Wire} {others ws vs : List Wire} → Track ku kl h → h ≢ w.height
      → More w others ws → More (bent true h y w) others vs → All (Aside h w.height) others → Event ku kl x y ws (ran y w ∷ wall y h w ∷ []) vs
  unfolding ran wall bent over overs pick
  turn-event {h} {w} {others} {ws} {vs} t d m n a =
      record {
        net = w.net;
        a = h;
        b = w.height;
        later = later;
        parts =
            cons {x = ran y w} (run {h = w.height} refl refl (omega arith) (omega arith) (record { wire = w; among = more-in m; net = refl; height = refl; since = refl })
            (λ v. among-more n (λ e z. d (sym (ap (λ u. u.height) e) ∙ z)) (λ i z. all-at a i (omega arith) (omega arith))))
            (cons {x = wall y h w} (vertical refl refl refl refl) nil);
        single = λ n h l r n' h' l' r' p q. run-first p ∙ sym (run-first q);
        clear = λ v. among-more n (λ e. inl (ap (λ u. u.net) e)) (λ i. inr (all-at a i));
        turned = λ o v. among-more n
            (λ e. inr (λ z. among-more m
            (λ f q. Memᴰ.tail (Memᴰ.head (ap₂ (λ u z. upright u.net (min u.height z.height) y (max u.height z.height)) e f)))
            (λ i q. absurd (other-net m (o z.net) i (sym (ap (λ u. u.net) e) ∙ sym q)))))
            (λ i. inl (more-still m i));
        distinct = another no_run (another Memᴰ.not-nil nothing);
        kept = λ v. among-more n (λ e. inr (ap (λ u. u.since) e)) (λ i. inl (more-still m i));
        crossed = λ k c l. omega (arith, more-crossings k c m, more-crossings k c n, crossing-both k y c w l, crossing-later k c (bent true h y w) l);
        behind = λ k c l. omega (arith, crossing-past k y c w l);
        once = λ k o. omega (arith, more-times k m, more-times k n);
        good = λ g. all_more n (record { track = t; since = omega arith }) (still-good (all-less m g));
        street = λ g. let s = all-at g (more-in m) in (d, omega (arith, s.track.low, t.low), omega (arith, s.track.high, t.high));
      }

  -- a stub at a wire that is there after the node, with nothing else drawn
  stub-event : {w : Wire} {others ws vs : List Wire} → More w others vs → All (Aside axis w.height) others
      → ((v : Wire) → Memᴰ v vs → Memᴰ v ws ⊎ ((v.since ≡ y) × ((z : Wire) → Memᴰ z ws → z.net ≡ v.net → ⊥)))
      → ((m c : ℕ) → c < y → crossings m c vs ≡ crossings m c ws) → ((m : ℕ) → times m (open_nets ws) ≤ 1 → times m (open_nets vs) ≤ 1)
      → (All (Good ku kl x) ws → All (Good ku kl (suc y)) vs) → Event ku kl x y ws (wall y axis w ∷ []) vs
  unfolding wall over overs pick
  stub-event {w} {others} {ws} {vs} m a from even once good =
      record {
        net = w.net;
        a = axis;
        b = w.height;
        later = later;
        parts = cons {x = wall y axis w} (vertical refl refl refl refl) nil;
        single = λ n h l r n' h' l' r' p q. absurd (no_run p);
        clear = λ v. among-more m (λ e. inl (ap (λ u. u.net) e)) (λ i. inr (all-at a i));
        turned = λ o v i. either (from v i) (λ f. inr (λ z d q. absurd (f.1 z d q)));
        distinct = another Memᴰ.not-nil nothing;
        kept = λ v i. either (from v i) (λ f. inr f.0);
        crossed = λ k c l. omega (arith, even k c l);
        behind = λ k c l. omega arith;
        once = once;
        good = good;
        street = λ g. let t = (all-at (good g) (more-in m)).track in (λ z. t.off (sym z), omega (arith, t.low), omega (arith, t.high));
      }
    where
      either : {A C D : Type 0} → A ⊎ C → (C → A ⊎ D) → A ⊎ D
      either (inl p) f = inl p
      either (inr q) f = f q

  pub begin-event : {w : Wire} {ws vs : List Wire} → w.since ≡ y → Track ku kl w.height → More w ws vs → All (Aside axis w.height) ws
      → All (λ v. v.net ≢ w.net) ws → Event ku kl x y ws (wall y axis w ∷ []) vs
  begin-event {w} {ws} {vs} s t m a f =
      stub-event m a
      (λ v. among-more m (λ e. inr (ap (λ u. u.since) e ∙ s, λ z i q. all-at f i (q ∙ ap (λ u. u.net) e))) inl)
      (λ k c l. omega (arith, more-crossings k c m, crossing-later k c w (omega arith)))
      (λ k o. fresh k o (eqb w.net k) refl)
      (λ g. all_more m (record { track = t; since = omega arith }) (still-good g))
    where
      fresh : (k : ℕ) → times k (open_nets ws) ≤ 1 → (b : Bool) → eqb w.net k ≡ b → times k (open_nets vs) ≤ 1
      fresh k o true e = omega (arith, more-times k m, one-le (eqb w.net k), none_of f (eqb-true w.net k e))
      fresh k o false e = omega (arith, more-times k m, one-other k w.net (eqb-false w.net k e))

  pub meet-event : {w : Wire} {others ws : List Wire} → More w others ws → All (Aside axis w.height) others → Event ku kl x y ws (wall y axis w ∷ []) ws
  meet-event m a = stub-event m a (λ v. inl) (λ k c l. refl) (λ k o. o) still-good

  pub end-event : {w : Wire} {ws vs : List Wire} → More w vs ws → All (Aside axis w.height) vs → Event ku kl x y ws (wall y axis w ∷ ran y w ∷ []) vs
  unfolding ran wall over overs pick
  end-event {w} {ws} {vs} m a =
      record {
        net = w.net;
        a = axis;
        b = w.height;
        later = later;
        parts =
            cons {x = wall y axis w} (vertical refl refl refl refl)
            (cons {x = ran y w} (run {h = w.height} refl refl (omega arith) (omega arith) (record { wire = w; among = more-in m; net = refl; height = refl; since = refl })
            (λ v i z. all-at a i (omega arith) (omega arith))) nil);
        single = λ n h l r n' h' l' r' p q. run-last p ∙ sym (run-last q);
        clear = λ v i. inr (all-at a i);
        turned = λ o v i. inl (more-still m i);
        distinct = another (λ d. no-wall d) (another Memᴰ.not-nil nothing);
        kept = λ v i. inl (more-still m i);
        crossed = λ k c l. omega (arith, more-crossings k c m, crossing-both k y c w l);
        behind = λ k c l. omega (arith, crossing-past k y c w l);
        once = λ k o. omega (arith, more-times k m);
        good = λ g. still-good (all-less m g);
        street = λ g. let t = (all-at g (more-in m)).track in (λ z. t.off (sym z), omega (arith, t.low), omega (arith, t.high));
      }

-- a trace's events come at column z or later, where the trace begins no sooner
steps-from : {pitch ku kl i x : ℕ} {ws : List Wire} {pins : List (Option ℕ)} {hs : List ℕ} {film : List Rec} (z : ℕ) → z ≤ x
    → Trace pitch ku kl i x ws pins hs film → Steps ku kl z ws film
steps-from z h stop = done
steps-from {pitch} {ku} {kl} z h (turn {y = y} l t d m n a r) = step (turn-event ku kl z y (omega arith) t d m n a) (steps-from (suc y) (omega arith) r)
steps-from {pitch} {ku} {kl} z h (begin {i} l s t m a f r) =
    step (begin-event ku kl z (pitch * i) (omega arith) s t m a f) (steps-from (suc (pitch * i)) (omega arith) r)
steps-from {pitch} {ku} {kl} z h (meet {i} l m a r) = step (meet-event ku kl z (pitch * i) (omega arith) m a) (steps-from (suc (pitch * i)) (omega arith) r)
steps-from {pitch} {ku} {kl} z h (end {i} l m a c r) = step (end-event ku kl z (pitch * i) (omega arith) m a) (steps-from (suc (pitch * i)) (omega arith) r)
steps-from {pitch} z h (blank l r) = steps-from z (omega arith) r

pub steps : {pitch ku kl i x : ℕ} {ws : List Wire} {pins : List (Option ℕ)} {hs : List ℕ} {film : List Rec} → Trace pitch ku kl i x ws pins hs film
    → Steps ku kl x ws film
steps {x = x} t = steps-from x (omega arith) t
