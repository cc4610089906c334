-- Records that don't tie have one order: in it they rise, and a rising list is known by its members.
use mathlib.Core.Path.{◌≡◌, refl, sym, ap₂, ◌∙◌, subst}
use mathlib.Core.Bool.{Bool, true, false}
use mathlib.Core.List.Memᴰ
use mathlib.Core.List.{List, [], ◌∷◌, Memᴰ}
use mathlib.Core.Logic.{◌⊎◌, inl, inr, ◌↔◌}
use Prim.Native.Nat.{ℕ, ◌≤◌, ◌<◌}
use native.Mathlib.Omega.{arith}
use Rattle.rules.specs.Basic.{pick}
use Rattle.rules.specs.Film.{Rec}
use Rattle.rules.specs.FilmOrder.{goes_before, placed, in_order}
use Rattle.rules.specs.WireRules.{net_of}
use Rattle.wires.specs.Levels.{Distinct, nothing, another}
use Rattle.wires.proofs.Among.{All, nil, cons, all-at, all_map, all_more, More, here, there, Reordered, empty, also, all-reordered, lt-or-ge}
use Rattle.wires.proofs.RecordOrder.{spot, Before, by-net, by-spot, goes, before, before-not, before-trans}

-- ---- records of which no two tie, and records that rise

pub record Untied (a b : Rec) : Type 0 where
  pub differ : net_of a ≡ net_of b → spot a ≡ spot b → ⊥

pub data Apart : List Rec → Type 0 where
  no_record : Apart []
  apart : {r : Rec} {rs : List Rec} → All (Untied r) rs → Apart rs → Apart (r ∷ rs)

pub data Rising : List Rec → Type 0 where
  at-end : Rising []
  lowest : {r : Rec} {rs : List Rec} → All (Before r) rs → Rising rs → Rising (r ∷ rs)

pub either : {a b : Rec} → Untied a b → Before a b ⊎ Before b a
either {a} {b} n = go (lt-or-ge (net_of a) (net_of b)) (lt-or-ge (net_of b) (net_of a)) (lt-or-ge (spot a) (spot b)) (lt-or-ge (spot b) (spot a))
  where
    go : (net_of a < net_of b) ⊎ (net_of b ≤ net_of a) → (net_of b < net_of a) ⊎ (net_of a ≤ net_of b)
        → (spot a < spot b) ⊎ (spot b ≤ spot a) → (spot b < spot a) ⊎ (spot a ≤ spot b) → Before a b ⊎ Before b a
    go (inl h) k s t = inl (by-net h)
    go (inr h) (inl k) s t = inr (by-net k)
    go (inr h) (inr k) (inl s) t = inl (by-spot (omega arith) s)
    go (inr h) (inr k) (inr s) (inl t) = inr (by-spot (omega arith) t)
    go (inr h) (inr k) (inr s) (inr t) = absurd (n.differ (omega arith) (omega arith))

-- ---- a record at its place

pub more-placed : (r : Rec) (qs : List Rec) → More r qs (placed r qs)
unfolding placed pick
more-placed r [] = here
more-placed r (q ∷ qs) = go (goes_before r q) (more-placed r qs)
  where
    go : (t : Bool) → More r qs (placed r qs) → More r (q ∷ qs) (pick t (r ∷ q ∷ qs) (q ∷ placed r qs))
    go true k = here
    go false k = there k

-- the same records, each as often
pub in-order-same : (rs : List Rec) → Reordered rs (in_order rs)
unfolding in_order
in-order-same [] = empty
in-order-same (r ∷ rs) = also (in-order-same rs) (more-placed r (in_order rs))

rising-placed : {r : Rec} {qs : List Rec} → Rising qs → All (Untied r) qs → Rising (placed r qs)
unfolding placed pick
rising-placed at-end a = lowest nil at-end
rising-placed {r} (lowest {r = q} {rs = qs} b s) (cons n a) = go (goes_before r q) refl (rising-placed s a)
  where
    first : goes_before r q ≡ false → Before r q ⊎ Before q r → Before q r
    first e (inl k) = let z : ◌≡◌ {A = ℕ} 0 1 = cc (goes k) in absurd (omega arith)
    first e (inr k) = k

    go : (t : Bool) → goes_before r q ≡ t → Rising (placed r qs) → Rising (pick t (r ∷ q ∷ qs) (q ∷ placed r qs))
    go true e k = let h = before r q e in lowest (cons h (all_map (λ p. before-trans h) b)) (lowest b s)
    go false e k = lowest (all_more (more-placed r qs) (first e (either n)) b) k

pub in-order-rising : {rs : List Rec} → Apart rs → Rising (in_order rs)
unfolding in_order
in-order-rising no_record = at-end
in-order-rising (apart {rs = rs} a b) = rising-placed (in-order-rising b) (all-reordered (in-order-same rs) a)

-- ---- one rising list has given members

pub rising-distinct : {rs : List Rec} → Rising rs → Distinct rs
rising-distinct at-end = nothing
rising-distinct (lowest a s) = another (λ m. let h = all-at a m in before-not h h) (rising-distinct s)

-- a member behind the head is not the other list's head, which is the same
behind : {p q r : Rec} {ps qs : List Rec} → All (Before p) ps → p ≡ q → Memᴰ r ps → (r ≡ q) ⊎ Memᴰ r qs → Memᴰ r qs
behind {p} a e m (inl z) = let h = subst (Before p) (z ∙ sym e) (all-at a m) in absurd (before-not h h)
behind a e m (inr k) = k

pub one-rising : {ps qs : List Rec} → Rising ps → Rising qs → ((r : Rec) → Memᴰ r ps ↔ Memᴰ r qs) → ps ≡ qs
one-rising at-end at-end f = refl
one-rising at-end (lowest {r = q} b t) f = absurd (Memᴰ.not-nil ((f q).1 (Memᴰ.head refl)))
one-rising (lowest {r = p} a s) at-end f = absurd (Memᴰ.not-nil ((f p).0 (Memᴰ.head refl)))
one-rising (lowest {r = p} {rs = ps} a s) (lowest {r = q} {rs = qs} b t) f =
    ap₂ {C = List Rec} (λ r rs. r ∷ rs) heads
    (one-rising s t (λ r. (
      λ m. behind a heads m (Memᴰ.cases_cons ((f r).0 (Memᴰ.tail m))),
      λ m. behind b (sym heads) m (Memᴰ.cases_cons ((f r).1 (Memᴰ.tail m))),
    )))
  where
    same : (p ≡ q) ⊎ Memᴰ p qs → (q ≡ p) ⊎ Memᴰ q ps → p ≡ q
    same (inl e) k = e
    same (inr m) (inl e) = sym e
    same (inr m) (inr k) = absurd (before-not (all-at a k) (all-at b m))

    heads : p ≡ q
    heads = same (Memᴰ.cases_cons ((f p).0 (Memᴰ.head refl))) (Memᴰ.cases_cons ((f q).1 (Memᴰ.head refl)))
