-- The order of a rank holds the open nets, each once, where at_of says; ranks of an order with a new net and without one are known.
use mathlib.Core.Path.{◌≡◌, refl, sym, ap, ap₂, ◌∙◌}
use mathlib.Core.Bool.{Bool, true, false}
use mathlib.Core.List.{List, [], ◌∷◌}
use Prim.Native.Nat.{ℕ, zero, suc, ◌+◌, ◌-◌, ◌*◌, ◌/◌, ◌%◌, ◌≤◌, ◌<◌}
use native.Mathlib.Nat.{mod-lt, div-lt_iff_lt-mul, mul-add-div_right, mul-add-mod_self_right, div-eq_of_lt, mod-eq_of_lt, zero-add, suc-add}
use native.Mathlib.Nat.{suc-mul, add-zero, mul-le-mul_right, mul-pos}
use native.Mathlib.Omega.{arith}
use lib.ListN.{length, get_or}
use lib.Dec.{leb, eqb}
use borrow.Author.Tests.{leb-true, leb-false, le-leb, lt-leb, eq-eqb, ne_eqb}
use Rattle.rules.specs.Basic.{pick, put, cut}
use Rattle.rules.specs.Row.{before}
use Rattle.rules.proofs.Lists.{length-put, length_cut, cut-put}
use Rattle.rules.proofs.Open.{one, one_same, times, times-put}
use Rattle.steps.specs.Ranks.{fact, order_of, under, spared, at_of, less_of}

pub fact-pos : (n : ℕ) → 0 < fact n
unfolding fact
fact-pos zero = omega arith
fact-pos (suc n) = mul-pos (omega arith) (fact-pos n)

pub digit_lt : (b r : ℕ) → r < fact (suc b) → r / fact b < suc b
unfolding fact
digit_lt b r h = (div-lt_iff_lt-mul (fact-pos b)).1 h

-- a new net of b + 1 at p, over an order of rank r
fact-grows : (b : ℕ) → fact b ≤ fact (suc b)
unfolding fact
fact-grows b = omega (arith, suc-mul b (fact b))

pub rank_lt : (p b r : ℕ) → p ≤ b → r < fact b → p * fact b + r < fact (suc b)
unfolding fact
rank_lt p b r hp hr =
    let h : suc p * fact b ≤ suc b * fact b = mul-le-mul_right (fact b) (omega arith) in
    omega (arith, suc-mul p (fact b))

-- whose first digit is p
pub rank-digit : (p b r : ℕ) → r < fact b → (p * fact b + r) / fact b ≡ p
rank-digit p b r h = mul-add-div_right (fact-pos b) p r ∙ ap (λ d. p + d) (div-eq_of_lt h) ∙ add-zero p

fact-more : (k b : ℕ) → fact b ≤ fact (k + b)
fact-more zero b = rw (zero-add b) (omega arith)
fact-more (suc k) b = rw (suc-add k b) (omega (arith, fact-more k b, fact-grows (k + b)))

pub fact-most : (b c : ℕ) → b ≤ c → fact b ≤ fact c
fact-most b c h =
    let e : c - b + b ≡ c = omega arith in
    rw e at (fact-more (c - b) b)

pub fact-five : (b : ℕ) → b ≤ 5 → fact b ≤ 120
unfolding fact
fact-five b h = fact-most b 5 h

pub fact-six : (b : ℕ) → b ≤ 6 → fact b ≤ 720
unfolding fact
fact-six b h = fact-most b 6 h

pub fact-of-four : fact 4 ≡ 24
unfolding fact
fact-of-four = refl

pub fact-of-five : fact 5 ≡ 120
unfolding fact
fact-of-five = refl

-- under and spared, by where the youngest stands
pub under-above : (q i : ℕ) → q ≤ i → under q i ≡ suc i
unfolding under pick
under-above q i h = rw (le-leb q i h)

pub under-below : (q i : ℕ) → i < q → under q i ≡ i
unfolding under pick
under-below q i h = rw (lt-leb q i h)

pub spared-above : (q i : ℕ) → q ≤ i → spared q i ≡ q
unfolding spared pick
spared-above q i h = rw (le-leb q i h)

pub spared-below : (q i : ℕ) → i < q → spared q i ≡ q - 1
unfolding spared pick
spared-below q i h = rw (lt-leb q i h)

-- what holds where the youngest stands above, and where it stands below
split : (P : Type 0) (q i : ℕ) → (q ≤ i → P) → (i < q → P) → P
split P q i f g = go (leb q i) refl
  where
    go : (t : Bool) → leb q i ≡ t → P
    go true e = f (leb-true q i e)
    go false e = g (leb-false q i e)

under-le : (q i : ℕ) → under q i ≤ suc i
under-le q i =
    split (under q i ≤ suc i) q i (λ h. omega (arith, under-above q i h)) (λ h. omega (arith, under-below q i h))

spared-le : (q i b : ℕ) → q ≤ suc b → i ≤ b → spared q i ≤ b
spared-le q i b hq hi =
    split (spared q i ≤ b) q i (λ h. omega (arith, spared-above q i h)) (λ h. omega (arith, spared-below q i h))

pub at_lt : (a b r : ℕ) → a < b → r < fact b → at_of a b r < b
unfolding at_of
at_lt a zero r ha hr = absurd (omega arith)
at_lt zero (suc b) r ha hr = digit_lt b r hr
at_lt (suc a) (suc b) r ha hr =
    omega (arith, under-le (r / fact b) (at_of a b (r % fact b)), at_lt a b (r % fact b) (omega arith) (mod-lt r (fact-pos b)))

pub less-lt : (a b r : ℕ) → a < b → r < fact b → less_of a b r < fact (b - 1)
unfolding less_of
less-lt a zero r ha hr = absurd (omega arith)
less-lt zero (suc b) r ha hr =
    let e : suc b - 1 ≡ b = omega arith in
    rw e (mod-lt r (fact-pos b))
less-lt (suc a) (suc zero) r ha hr = absurd (omega arith)
less-lt (suc a) (suc (suc b)) r ha hr =
    let e : suc (suc b) - 1 ≡ suc b = omega arith in
    let d : suc b - 1 ≡ b = omega arith in
    let i : ℕ = at_of a (suc b) (r % fact (suc b)) in
    let hi : i < suc b = at_lt a (suc b) (r % fact (suc b)) (omega arith) (mod-lt r (fact-pos (suc b))) in
    let l : less_of a (suc b) (r % fact (suc b)) < fact (suc b - 1) =
    less-lt a (suc b) (r % fact (suc b)) (omega arith) (mod-lt r (fact-pos (suc b))) in
    let hq : r / fact (suc b) < suc (suc b) = digit_lt (suc b) r hr in
    let m : less_of a (suc b) (r % fact (suc b)) < fact b = rw d at l in
    rw (e, d) (rank_lt (spared (r / fact (suc b)) i) b (less_of a (suc b) (r % fact (suc b)))
    (spared-le (r / fact (suc b)) i b (omega arith) (omega arith)) m)

pub order-length : (ys : List ℕ) (r : ℕ) → length (order_of ys r) ≡ length ys
unfolding order_of
order-length [] r = refl
order-length (y ∷ ys) r =
    length-put (r / fact (length ys)) y (order_of ys (r % fact (length ys))) ∙ ap suc (order-length ys (r % fact (length ys)))

pub order-times : (x : ℕ) (ys : List ℕ) (r : ℕ) → times x (order_of ys r) ≡ times x ys
unfolding order_of times
order-times x [] r = refl
order-times x (y ∷ ys) r =
    omega (arith, times-put x (r / fact (length ys)) y (order_of ys (r % fact (length ys))), order-times x ys (r % fact (length ys)))

-- a new net at p
pub order-put : (p y r : ℕ) (ys : List ℕ) → r < fact (length ys) →
    order_of (y ∷ ys) (p * fact (length ys) + r) ≡ put p y (order_of ys r)
unfolding order_of
order-put p y r ys h =
    let q : (p * fact (length ys) + r) / fact (length ys) ≡ p = rank-digit p (length ys) r h in
    let m : (p * fact (length ys) + r) % fact (length ys) ≡ r = mul-add-mod_self_right p (fact (length ys)) r ∙ mod-eq_of_lt h in
    ap₂ (λ (d l : ℕ). put d y (order_of ys l)) q m

-- a new net of no older namesake stands where it is put
before-put-own : (k x : ℕ) (o : List ℕ) → times x o ≡ 0 → k ≤ length o → before x (put k x o) ≡ k
unfolding before put pick times
before-put-own zero x o t h = rw (eq-eqb x x refl)
before-put-own (suc k) x [] t h = absurd (omega arith)
before-put-own (suc k) x (y ∷ o) t h =
    let n : eqb y x ≡ false = ne_eqb y x (λ e. let z : one (eqb y x) ≡ 1 = rw e (one_same x) in omega arith) in
    rw n (ap suc (before-put-own k x o (omega arith) (omega arith)))

-- another net goes down by one where the new one is put above it
before-put-other : (q y x : ℕ) (o : List ℕ) → (y ≡ x → ⊥) → q ≤ length o → before x (put q y o) ≡ under q (before x o)
unfolding before put pick
before-put-other zero y x o n h = rw (ne_eqb y x n) (sym (under-above 0 (before x o) (omega arith)))
before-put-other (suc q) y x [] n h = absurd (omega arith)
before-put-other (suc q) y x (z ∷ o) n h = go (eqb z x) (before-put-other q y x o n (omega arith))
  where
    more : (i : ℕ) → suc (under q i) ≡ under (suc q) (suc i)
    more i =
        split (suc (under q i) ≡ under (suc q) (suc i)) q i
        (λ l. omega (arith, under-above q i l, under-above (suc q) (suc i) (omega arith)))
        (λ l. omega (arith, under-below q i l, under-below (suc q) (suc i) (omega arith)))

    go : (t : Bool) → before x (put q y o) ≡ under q (before x o) →
        pick t 0 (suc (before x (put q y o))) ≡ under (suc q) (pick t 0 (suc (before x o)))
    go true e = sym (under-below (suc q) 0 (omega arith))
    go false e = ap suc e ∙ more (before x o)

-- each net of ys stands there once
abbrev pub Distinct : List ℕ → Type 0
Distinct ys = (x : ℕ) → times x ys ≤ 1

distinct_tail : (y : ℕ) (ys : List ℕ) → Distinct (y ∷ ys) → Distinct ys
unfolding times
distinct_tail y ys d x = omega (arith, d x)

times-at : (ys : List ℕ) (a : ℕ) → a < length ys → 1 ≤ times (get_or ys a 0) ys
unfolding times
times-at [] a h = absurd (omega arith)
times-at (y ∷ ys) zero h = omega (arith, one_same y)
times-at (y ∷ ys) (suc a) h = omega (arith, times-at ys a (omega arith))

distinct_head : (y : ℕ) (ys : List ℕ) → Distinct (y ∷ ys) → times y ys ≡ 0
unfolding times
distinct_head y ys d = omega (arith, d y, one_same y)

distinct-other : (y : ℕ) (ys : List ℕ) (a : ℕ) → Distinct (y ∷ ys) → a < length ys → y ≡ get_or ys a 0 → ⊥
distinct-other y ys a d h e =
    let z : 1 ≤ times y ys = rw e (times-at ys a h) in
    omega (arith, distinct_head y ys d)

-- a net stands where at_of says
pub order-at : (ys : List ℕ) (a r : ℕ) → Distinct ys → a < length ys → r < fact (length ys) →
    before (get_or ys a 0) (order_of ys r) ≡ at_of a (length ys) r
unfolding order_of at_of
order-at [] a r d ha hr = absurd (omega arith)
order-at (y ∷ ys) zero r d ha hr =
    before-put-own (r / fact (length ys)) y (order_of ys (r % fact (length ys)))
    (order-times y ys (r % fact (length ys)) ∙ distinct_head y ys d)
    (omega (arith, order-length ys (r % fact (length ys)), digit_lt (length ys) r hr))
order-at (y ∷ ys) (suc a) r d ha hr =
    before-put-other (r / fact (length ys)) y (get_or ys a 0) (order_of ys (r % fact (length ys)))
    (distinct-other y ys a d (omega arith))
    (omega (arith, order-length ys (r % fact (length ys)), digit_lt (length ys) r hr)) ∙
    ap (under (r / fact (length ys)))
    (order-at ys a (r % fact (length ys)) (distinct_tail y ys d) (omega arith) (mod-lt r (fact-pos (length ys))))

cut_below : (q i y : ℕ) (o : List ℕ) → q ≤ i → i < length o → cut (suc i) (put q y o) ≡ put q y (cut i o)
unfolding cut put
cut_below q i y [] hq hi = absurd (omega arith)
cut_below zero i y (z ∷ o) hq hi = refl
cut_below (suc q) zero y (z ∷ o) hq hi = absurd (omega arith)
cut_below (suc q) (suc i) y (z ∷ o) hq hi = ap {B = List ℕ} (λ l. z ∷ l) (cut_below q i y o (omega arith) (omega arith))

cut-above : (q i y : ℕ) (o : List ℕ) → i ≤ q → i < length o → cut i (put (suc q) y o) ≡ put q y (cut i o)
unfolding cut put
cut-above q i y [] hq hi = absurd (omega arith)
cut-above q zero y (z ∷ o) hq hi = refl
cut-above zero (suc i) y (z ∷ o) hq hi = absurd (omega arith)
cut-above (suc q) (suc i) y (z ∷ o) hq hi = ap {B = List ℕ} (λ l. z ∷ l) (cut-above q i y o (omega arith) (omega arith))

-- what is cut out leaves the youngest where spared says
cut-put-other : (q i y : ℕ) (o : List ℕ) → i < length o → cut (under q i) (put q y o) ≡ put (spared q i) y (cut i o)
cut-put-other q i y o h = split (cut (under q i) (put q y o) ≡ put (spared q i) y (cut i o)) q i high (low q)
  where
    high : q ≤ i → cut (under q i) (put q y o) ≡ put (spared q i) y (cut i o)
    high l = rw (under-above q i l, spared-above q i l) (cut_below q i y o l h)

    low : (q : ℕ) → i < q → cut (under q i) (put q y o) ≡ put (spared q i) y (cut i o)
    low zero l = absurd (omega arith)
    low (suc q) l =
        let e : suc q - 1 ≡ q = omega arith in
        rw (under-below (suc q) i l, spared-below (suc q) i l, e) (cut-above q i y o (omega arith) h)

-- the order without a net
pub order-less : (ys : List ℕ) (a r : ℕ) → a < length ys → r < fact (length ys) →
    order_of (cut a ys) (less_of a (length ys) r) ≡ cut (at_of a (length ys) r) (order_of ys r)
unfolding order_of at_of less_of cut
order-less [] a r ha hr = absurd (omega arith)
order-less (y ∷ ys) zero r ha hr =
    sym (cut-put (r / fact (length ys)) y (order_of ys (r % fact (length ys)))
    (omega (arith, order-length ys (r % fact (length ys)), digit_lt (length ys) r hr)))
order-less (y ∷ ys) (suc a) r ha hr =
    let f : ℕ = fact (length ys) in
    let q : ℕ = r / f in
    let i : ℕ = at_of a (length ys) (r % f) in
    let n : length ys - 1 ≡ length (cut a ys) = omega (arith, length_cut a ys (omega arith)) in
    let l : less_of a (length ys) (r % f) < fact (length (cut a ys)) =
    rw n at (less-lt a (length ys) (r % f) (omega arith) (mod-lt r (fact-pos (length ys)))) in
    let hi : i < length (order_of ys (r % f)) =
    omega (arith, order-length ys (r % f), at_lt a (length ys) (r % f) (omega arith) (mod-lt r (fact-pos (length ys)))) in
    ap (λ (m : ℕ). order_of (y ∷ cut a ys) (spared q i * fact m + less_of a (length ys) (r % f))) n ∙
    order-put (spared q i) y (less_of a (length ys) (r % f)) (cut a ys) l ∙
    ap (put (spared q i) y) (order-less ys a (r % f) (omega arith) (mod-lt r (fact-pos (length ys)))) ∙
    sym (cut-put-other q i y (order_of ys (r % f)) hi)

-- where the youngest net stands, and the rank without it
pub at-youngest : (a b d r f : ℕ) → a ≡ 0 → b ≡ suc d → f ≡ fact d → r / f ≡ at_of a b r
unfolding at_of
at-youngest a b d r f ea eb ef = rw (ea, eb, ef)

pub less-youngest : (a b d r f : ℕ) → a ≡ 0 → b ≡ suc d → f ≡ fact d → r % f ≡ less_of a b r
unfolding less_of
less-youngest a b d r f ea eb ef = rw (ea, eb, ef)

-- where another net stands, and the rank without it, from those among the older nets
module _ (a b c d r f i : ℕ) (ea : a ≡ suc c) (eb : b ≡ suc d) (ef : f ≡ fact d) (ei : i ≡ at_of c d (r % f)) where
  pub at-older : under (r / f) i ≡ at_of a b r
  unfolding at_of
  at-older = rw (ea, eb, ei, ef)

  pub less-older : (l : ℕ) → l ≡ less_of c d (r % f) → spared (r / f) i * fact (d - 1) + l ≡ less_of a b r
  unfolding less_of
  less-older l el = rw (ea, eb, ei, el, ef)
