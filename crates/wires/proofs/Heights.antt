-- At a node heights fall from top to bottom, lie on the tracks, and the touched wire is next to the axis.
use mathlib.Core.Path.{◌≡◌, refl, sym, ap, ◌∙◌, subst}
use mathlib.Core.List.{List, [], ◌∷◌}
use mathlib.Core.Logic.{◌≢◌, ◌⊎◌, inl, inr}
use Prim.Native.Nat.{ℕ, zero, suc, ◌+◌, ◌-◌, ◌≤◌, ◌<◌, min}
use native.Mathlib.Omega.{arith}
use lib.ListN.{length, get_or}
use lib.Dec.{ltb}
use borrow.Author.Tests.{le-leb, lt-leb, lt-ltb, le-ltb}
use Rattle.rules.specs.Basic.{pick, put, cut}
use Rattle.rules.specs.declared.Kind.{Kind}
use Rattle.rules.specs.declared.Kind.TheVariants.{B, M, E, N}
use Rattle.rules.specs.Street.{last, counted}
use Rattle.rules.specs.Film.{Wire, axis, upper, upper_at, height_at, target, opened}
use Rattle.rules.proofs.Fits.{FitsAt, Wired}
use Rattle.rules.proofs.Levels.{both-streets}
use Rattle.wires.proofs.Among.{All, nil, cons, lt-or-ge}
use Rattle.wires.proofs.Gap.{Clear, Falling, bare, under, Falls, Each, Reached, no-wire, wire, reached-all}
use Rattle.wires.proofs.Trace.{Track}

height-up : (u q : ℕ) → q ≤ u → height_at u q ≡ axis + (u - q + 1)
unfolding height_at pick
height-up u q h = rw (le-leb q u h)

height-down : (u q : ℕ) → u < q → height_at u q ≡ axis - (q - u)
unfolding height_at pick
height-down u q h = rw (lt-leb q u h)

heights-fall : (u p q : ℕ) → p < q → q ≤ u + axis → height_at u q < height_at u p
heights-fall u p q h k = go (lt-or-ge u p) (lt-or-ge u q)
  where
    go : (u < p) ⊎ (p ≤ u) → (u < q) ⊎ (q ≤ u) → height_at u q < height_at u p
    go (inl a) (inl b) = omega (arith, height-down u p a, height-down u q b)
    go (inl a) (inr b) = absurd (omega arith)
    go (inr a) (inl b) = omega (arith, height-up u p a, height-down u q b)
    go (inr a) (inr b) = omega (arith, height-up u p a, height-up u q b)

height-track : (ku kl u q : ℕ) → kl ≤ axis → u ≤ ku → 1 ≤ q → q ≤ u + kl → Track ku kl (height_at u q)
height-track ku kl u q h a b c = go (lt-or-ge u q)
  where
    go : (u < q) ⊎ (q ≤ u) → Track ku kl (height_at u q)
    go (inl k) = record { low = omega (arith, height-down u q k); high = omega (arith, height-down u q k); off = λ z. omega (arith, height-down u q k) }
    go (inr k) = record { low = omega (arith, height-up u q k); high = omega (arith, height-up u q k); off = λ z. omega (arith, height-up u q k) }

-- the position of the wire with q others above it before the node
unfoldable pub place : Kind → (a q : ℕ) → ℕ
place B a q = pick (ltb q a) (suc q) (suc (suc q))
place M a q = suc q
place E a q = suc q
place N a q = suc q

target-place : (k : Kind) (u a q : ℕ) → target k u a q ≡ height_at u (place k a q)
unfolding target place
target-place B u a q = refl
target-place M u a q = refl
target-place E u a q = refl
target-place N u a q = refl

place-above : (a q : ℕ) → q < a → place B a q ≡ suc q
unfolding place pick
place-above a q h = rw (lt-ltb q a h)

place-below : (a q : ℕ) → a ≤ q → place B a q ≡ suc (suc q)
unfolding place pick
place-below a q h = rw (le-ltb q a h)

place-rises : (k : Kind) (a i j : ℕ) → i < j → place k a i < place k a j
unfolding place
place-rises B a i j h = go (lt-or-ge i a) (lt-or-ge j a)
  where
    go : (i < a) ⊎ (a ≤ i) → (j < a) ⊎ (a ≤ j) → place B a i < place B a j
    go (inl p) (inl q) = omega (arith, place-above a i p, place-above a j q)
    go (inl p) (inr q) = omega (arith, place-above a i p, place-below a j q)
    go (inr p) (inl q) = absurd (omega arith)
    go (inr p) (inr q) = omega (arith, place-below a i p, place-below a j q)
place-rises M a i j h = omega arith
place-rises E a i j h = omega arith
place-rises N a i j h = omega arith

place-within : (k : Kind) (a i b : ℕ) → i < b → (1 ≤ place k a i) × (place k a i ≤ counted k b)
unfolding place counted
place-within B a i b h = go (lt-or-ge i a)
  where
    go : (i < a) ⊎ (a ≤ i) → (1 ≤ place B a i) × (place B a i ≤ suc b)
    go (inl p) = (omega (arith, place-above a i p), omega (arith, place-above a i p))
    go (inr p) = (omega (arith, place-below a i p), omega (arith, place-below a i p))
place-within M a i b h = (omega arith, omega arith)
place-within E a i b h = (omega arith, omega arith)
place-within N a i b h = (omega arith, omega arith)

-- ---- at a node of kind k at position a + 1, with c open nets and u wires in the upper street

pub record Laid (k : Kind) (ku kl u a c : ℕ) : Type 0 where
  pub law : u ≡ upper_at k ku a
  pub fits : FitsAt k ku kl (suc a) c
  pub deep : kl ≤ axis

-- u, and the last position, where the node has a wire of its own
wired : (k : Kind) (ku a c : ℕ) → Wired k → (upper_at k ku a ≡ min (suc a) ku) × (last k c ≡ c)
unfolding upper_at upper last
wired B ku a c w = (refl, refl)
wired M ku a c w = (refl, refl)
wired E ku a c w = (refl, refl)
wired N ku a c w = absurd w

module _ {k : Kind} {ku kl u a c : ℕ} (laid : Laid k ku kl u a c) where
  room : (u ≤ ku) × (c ≤ u + kl)
  room = rw laid.law (both-streets k laid.fits)

  pub position-falls : (p q : ℕ) → p < q → q ≤ c → height_at u q < height_at u p
  position-falls p q h k = heights-fall u p q h (omega (arith, room.1, laid.deep))

  pub position-track : (q : ℕ) → 1 ≤ q → q ≤ c → Track ku kl (height_at u q)
  position-track q h k = height-track ku kl u q laid.deep room.0 h (omega (arith, room.1))

  own-high : Wired k → suc a ≤ c
  own-high own = rw (wired k ku a c own).1 at laid.fits.high

  pub own-track : Wired k → Track ku kl (height_at u (suc a))
  own-track own = position-track (suc a) (omega arith) (own-high own)

  pub next-to-axis : Wired k → (height_at u (suc a) ≤ axis + 1) × (axis - 1 ≤ height_at u (suc a))
  next-to-axis own = go (lt-or-ge u (suc a))
    where
      law : u ≡ min (suc a) ku
      law = laid.law ∙ (wired k ku a c own).0

      go : (u < suc a) ⊎ (suc a ≤ u) → (height_at u (suc a) ≤ axis + 1) × (axis - 1 ≤ height_at u (suc a))
      go (inl k) = (omega (arith, height-down u (suc a) k), omega (arith, height-down u (suc a) k, law, laid.fits.upper))
      go (inr k) = (omega (arith, height-up u (suc a) k, law), omega (arith, height-up u (suc a) k))

  -- the stub crosses no wire at another position
  pub stub-clear : Wired k → (q : ℕ) → 1 ≤ q → q ≤ c → q ≢ suc a → Clear axis (height_at u (suc a)) (height_at u q)
  stub-clear own q h k d l m = go (lt-or-ge q (suc a))
    where
      t : Track ku kl (height_at u q)
      t = position-track q h k

      go : (q < suc a) ⊎ (suc a ≤ q) → ⊥
      go (inl p) = omega (arith, t.off, next-to-axis own, position-falls q (suc a) p (own-high own))
      go (inr p) = omega (arith, t.off, next-to-axis own, position-falls (suc a) q (omega arith) k)

module _ {ku kl u a : ℕ} (b : ℕ) (k : Kind) (laid : Laid k ku kl u a (counted k b)) where
  pub target-falls : Falls (target k u a) 0 b
  target-falls i j l h m =
      rw (target-place k u a i, target-place k u a j)
      (position-falls laid (place k a i) (place k a j) (place-rises k a i j h) (place-within k a j b (omega arith)).1)

  pub target-track : Each (λ i. Track ku kl (target k u a i)) 0 b
  target-track i l h =
      let p = place-within k a i b (omega arith) in
      rw (target-place k u a i) (position-track laid (place k a i) p.0 p.1)

-- ---- the wires at a node

-- each has the height of its position
abbrev pub Settled : ℕ → ℕ → List Wire → Type 0
Settled u q ws = Reached (λ i. height_at u (suc i)) q ws

reached-same : {t g : ℕ → ℕ} {q : ℕ} {ws : List Wire} → ((i : ℕ) → t i ≡ g i) → Reached t q ws → Reached g q ws
reached-same f no-wire = no-wire
reached-same f (wire {q} e r) = wire (e ∙ f q) (reached-same f r)

reached-next : {t g : ℕ → ℕ} {q : ℕ} {ws : List Wire} → ((i : ℕ) → q ≤ i → t i ≡ g (suc i)) → Reached t q ws → Reached g (suc q) ws
reached-next f no-wire = no-wire
reached-next f (wire {q} e r) = wire (e ∙ f q (omega arith)) (reached-next (λ i h. f i (omega arith)) r)

put-settled : (u a k q : ℕ) (w : Wire) (ws : List Wire) → a ≡ q + k → k ≤ length ws → w.height ≡ height_at u (suc a) → Reached (target B u a) q ws
    → Settled u q (put k w ws)
unfolding put
put-settled u a zero q w ws e l h r =
    let q≡ : suc a ≡ suc q = omega arith in
    wire (h ∙ ap (height_at u) q≡) (reached-next (λ i k. target-place B u a i ∙ ap (height_at u) (place-below a i (omega arith))) r)
put-settled u a (suc k) q w [] e l h r = absurd (omega arith)
put-settled u a (suc k) q w (v ∷ ws) e l h (wire g r) =
    wire (g ∙ target-place B u a q ∙ ap (height_at u) (place-above a q (omega arith))) (put-settled u a k (suc q) w ws (omega arith) (omega arith) h r)

-- the wires at a node, its own among them, have the heights of their positions
pub settled : (k : Kind) (u a n x : ℕ) (ws : List Wire) → a < last k (counted k (length ws)) → Reached (target k u a) 0 ws
    → Settled u 0 (opened k n (height_at u (suc a)) x a ws)
unfolding opened last counted target
settled B u a n x ws h r = put-settled u a a 0 (record { net = n; height = height_at u (suc a); since = x }) ws (omega arith) (omega arith) refl r
settled M u a n x ws h r = reached-same (λ i. refl) r
settled E u a n x ws h r = reached-same (λ i. refl) r
settled N u a n x ws h r = reached-same (λ i. refl) r

pub settled-falling : {t : ℕ → ℕ} {q : ℕ} {ws : List Wire} → Reached t q ws → Falls t q (length ws) → Falling ws
settled-falling no-wire f = bare
settled-falling {t} (wire {q} {w} {ws} e r) f =
    under (reached-all (λ h. h < w.height) r (λ i h k. omega (arith, f q i (omega arith) h (omega arith))))
    (settled-falling r (λ i j h k l. f i j (omega arith) k (omega arith)))

pub reached-at : {t : ℕ → ℕ} {q : ℕ} {ws : List Wire} → Reached t q ws → (a : ℕ) (d : Wire) → a < length ws → (get_or ws a d).height ≡ t (q + a)
reached-at no-wire a d h = absurd (omega arith)
reached-at {t} (wire {q} e r) zero d h = e ∙ ap t (omega arith)
reached-at {t} (wire {q} e r) (suc a) d h = reached-at r a d (omega arith) ∙ ap t (omega arith)

-- what holds of the heights at all other places holds of all other wires
pub reached-others : {t : ℕ → ℕ} (C : ℕ → Type 0) {q : ℕ} {ws : List Wire} → Reached t q ws → (a : ℕ)
    → ((i : ℕ) → q ≤ i → i < q + length ws → i ≢ q + a → C (t i)) → All (λ v. C v.height) (cut a ws)
unfolding cut
reached-others C no-wire a f = nil
reached-others C (wire {q} e r) zero f = reached-all C r (λ i h k. f i (omega arith) (omega arith) (λ (z : i ≡ q + 0). omega arith))
reached-others C (wire {q} e r) (suc a) f =
    cons (subst C (sym e) (f q (omega arith) (omega arith) (λ (z : q ≡ q + suc a). omega arith)))
    (reached-others C r a (λ i h k d. f i (omega arith) (omega arith) (λ (z : i ≡ q + suc a). d (omega arith))))

pub all-cut : {P : Wire → Type 0} (k : ℕ) {ws : List Wire} → All P ws → All P (cut k ws)
unfolding cut
all-cut k nil = nil
all-cut zero (cons p a) = a
all-cut (suc k) (cons p a) = cons p (all-cut k a)

pub falling-cut : (k : ℕ) {ws : List Wire} → Falling ws → Falling (cut k ws)
unfolding cut
falling-cut k bare = bare
falling-cut zero (under b f) = f
falling-cut (suc k) (under b f) = under (all-cut k b) (falling-cut k f)
