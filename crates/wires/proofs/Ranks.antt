-- Records of which no two tie, each stamped at the place that is the number of those before it, are stamped in their order.
use mathlib.Core.Path.{◌≡◌, refl, sym, ap, ◌∙◌}
use mathlib.Core.Bool.{Bool, true, false}
use mathlib.Core.List.{List, [], ◌∷◌, Memᴰ}
use mathlib.Core.Logic.{◌⊎◌, inl, inr, ◌≢◌}
use Prim.Native.Nat.{ℕ, suc, ◌+◌, ◌≤◌, ◌<◌}
use native.Mathlib.Omega.{arith}
use Rattle.rules.specs.Film.{Rec}
use Rattle.rules.specs.FilmOrder.{goes_before, in_order}
use Rattle.rules.proofs.Open.{one}
use Rattle.wires.specs.Laying.{in_row}
use Rattle.wires.proofs.Among.{All, nil, cons, all-at, all_from, More, here, there, Reordered, empty, also, all-reordered}
use Rattle.wires.proofs.RecordOrder.{Before, goes, before, before-not, before-trans, stays}
use Rattle.wires.proofs.Sorted.{Apart, no_record, apart, Rising, at-end, lowest, either, more-placed, in-order-same, in-order-rising}

-- how many of a list go before a record
unfoldable pub rank : Rec → List Rec → ℕ
rank r [] = 0
rank r (q ∷ qs) = one (goes_before q r) + rank r qs

one-before : {q r : Rec} → Before q r → one (goes_before q r) ≡ 1
unfolding one
one-before b = rw (goes b)

one-stays : {q r : Rec} → (Before q r → ⊥) → one (goes_before q r) ≡ 0
unfolding one
one-stays n = rw (stays n)

-- it doesn't depend on how the list is ordered
rank-more : (r : Rec) {q : Rec} {l m : List Rec} → More q l m → rank r m ≡ one (goes_before q r) + rank r l
unfolding rank
rank-more r here = refl
rank-more r (there k) = omega (arith, rank-more r k)

rank_same : (r : Rec) {l m : List Rec} → Reordered l m → rank r m ≡ rank r l
unfolding rank
rank_same r empty = refl
rank_same r (also s k) = omega (arith, rank-more r k, rank_same r s)

-- it rises with the order
module _ (q r : Rec) (b : Before q r) where
  one-le : (p : Rec) → one (goes_before p q) ≤ one (goes_before p r)
  unfolding one
  one-le p = go (goes_before p q) refl
    where
      go : (t : Bool) → goes_before p q ≡ t → one t ≤ one (goes_before p r)
      go true e = rw (goes (before-trans (before p q e) b)) (omega arith)
      go false e = omega arith

  rank-le : (rs : List Rec) → rank q rs ≤ rank r rs
  unfolding rank
  rank-le [] = omega arith
  rank-le (p ∷ rs) = omega (arith, one-le p, rank-le rs)

  rank_lt : (rs : List Rec) → Memᴰ q rs → rank q rs < rank r rs
  unfolding rank
  rank_lt [] m = elim m [ ]
  rank_lt (p ∷ rs) (Memᴰ.head e) =
      rw (← e) (omega (arith, one-before b, one-stays (λ (h : Before q q). before-not h h), rank-le rs))
  rank_lt (p ∷ rs) (Memᴰ.tail m) = omega (arith, one-le p, rank_lt rs m)

-- the first of a rising list has none before it
rank-first : (r : Rec) {rs : List Rec} → All (Before r) rs → rank r rs ≡ 0
unfolding rank
rank-first r nil = refl
rank-first r (cons b a) = omega (arith, one-stays (before-not b), rank-first r a)

-- stamps at two places may come in either order
abbrev pub Commute : {F : Type 0} → (ℕ → Rec → F → F) → Type 0
Commute {F} stamp = (i j : ℕ) (r q : Rec) (film : F) → i ≢ j → stamp i r (stamp j q film) ≡ stamp j q (stamp i r film)

module _ {F : Type 0} (stamp : ℕ → Rec → F → F) where
  -- each record at a place that g gives it
  unfoldable pub each : (Rec → ℕ) → List Rec → F → F
  each g [] film = film
  each g (r ∷ rs) film = each g rs (stamp (g r) r film)

module _ {F : Type 0} (stamp : ℕ → Rec → F → F) (commute : Commute stamp) where
  each_more : (g : Rec → ℕ) {r : Rec} {qs ps : List Rec} (film : F) → More r qs ps → All (λ q. g q ≢ g r) qs → each stamp g ps film ≡ each stamp g qs (stamp (g r) r film)
  unfolding each
  each_more g film here a = refl
  each_more g {r} film (there {v = q} {l = qs} k) (cons n a) =
      each_more g (stamp (g q) q film) k a ∙ ap (each stamp g qs) (commute (g r) (g q) r q film (λ z. n (sym z)))

  -- where places rise with the order, the records may be put in order first
  each-in-order : (g : Rec → ℕ) {rs : List Rec} (film : F) → Apart rs → ((q r : Rec) → Before q r → Memᴰ q rs → g q < g r)
      → each stamp g (in_order rs) film ≡ each stamp g rs film
  unfolding each in_order
  each-in-order g film no_record f = refl
  each-in-order g film (apart {r} {rs} a b) f =
      each_more g film (more-placed r (in_order rs)) (all-reordered (in-order-same rs) (all_from rs (λ q m. other q m (either (all-at a m)))))
      ∙ each-in-order g (stamp (g r) r film) b (λ q p h m. f q p h (Memᴰ.tail m))
    where
      other : (q : Rec) → Memᴰ q rs → Before r q ⊎ Before q r → g q ≢ g r
      other q m (inl h) e = omega (arith, f r q h (Memᴰ.head refl))
      other q m (inr h) e = omega (arith, f q r h (Memᴰ.tail m))

  -- a rising list, each at its rank, is a row
  each-in-row : (g : Rec → ℕ) (i : ℕ) {rs : List Rec} (film : F) → Rising rs → ((r : Rec) → Memᴰ r rs → g r ≡ i + rank r rs)
      → each stamp g rs film ≡ in_row stamp i rs film
  unfolding each in_row rank
  each-in-row g i film at-end f = refl
  each-in-row g i film (lowest {r} {rs} a b) f =
      let e : g r ≡ i = omega (arith, f r (Memᴰ.head refl), one-stays (λ (h : Before r r). before-not h h), rank-first r a) in
      rw e (each-in-row g (suc i) (stamp i r film) b (λ q m. omega (arith, f q (Memᴰ.tail m), one-before (all-at a m))))

  pub at-ranks : {rs : List Rec} (film : F) → Apart rs → each stamp (λ r. rank r rs) rs film ≡ in_row stamp 0 (in_order rs) film
  at-ranks {rs} film a =
      sym (each-in-order (λ r. rank r rs) film a (λ q r h. rank_lt q r h rs))
      ∙ each-in-row (λ r. rank r rs) 0 film (in-order-rising a) (λ r m. omega (arith, rank_same r (in-order-same rs)))
