-- The order of records as inequalities: by net, then by spot, which is column and direction in one number.
use mathlib.Core.Path.{◌≡◌, refl, sym, ap, ◌∙◌}
use mathlib.Core.Bool.{Bool, true, false, ◌&&◌, ◌||◌}
use Prim.Native.Nat.{ℕ, ◌+◌, ◌*◌, ◌<◌}
use native.Mathlib.Omega.{arith}
use lib.Dec.{ltb, eqb}
use borrow.Author.Tests.{ltb-true, ltb-false, lt-ltb, le-ltb, eqb-true, eqb-false, eq-eqb}
use Rattle.rules.specs.Film.{Rec, across, upright}
use Rattle.rules.specs.FilmOrder.{column_of, flat, less_or, goes_before}
use Rattle.rules.specs.WireRules.{net_of}

-- even for a vertical, and the odd number after it for a horizontal that begins there
unfoldable pub spot : Rec → ℕ
spot (across n h l r) = 2 * l + 1
spot (upright n l x h) = 2 * x

spot_is : (r : Rec) → spot r ≡ 2 * column_of r + flat r
unfolding spot column_of flat
spot_is (across n h l r) = refl
spot_is (upright n l x h) = omega arith

pub data Before (a b : Rec) : Type 0 where
  by-net : net_of a < net_of b → Before a b
  by-spot : net_of a ≡ net_of b → spot a < spot b → Before a b

flat-lt : (r : Rec) → flat r < 2
unfolding flat
flat-lt (across n h l r) = omega arith
flat-lt (upright n l x h) = omega arith

spot-test : (a b : Rec) → less_or (column_of a) (column_of b) (ltb (flat a) (flat b)) ≡ ltb (spot a) (spot b)
unfolding less_or
spot-test a b = go (ltb (column_of a) (column_of b)) (eqb (column_of a) (column_of b)) (ltb (flat a) (flat b)) refl refl refl
  where
    go : (p q t : Bool) → ltb (column_of a) (column_of b) ≡ p → eqb (column_of a) (column_of b) ≡ q → ltb (flat a) (flat b) ≡ t
        → p || (q && t) ≡ ltb (spot a) (spot b)
    go true q t e f g = sym (lt-ltb (spot a) (spot b) (omega (arith, spot_is a, spot_is b, ltb-true, flat-lt a)))
    go false true true e f g = sym (lt-ltb (spot a) (spot b) (omega (arith, spot_is a, spot_is b, ltb-true (flat a) (flat b) g, eqb-true)))
    go false true false e f g = sym (le-ltb (spot a) (spot b) (omega (arith, spot_is a, spot_is b, ltb-false (flat a) (flat b) g, eqb-true)))
    go false false t e f g =
        let n : column_of a ≡ column_of b → ⊥ = eqb-false (column_of a) (column_of b) f in
        sym (le-ltb (spot a) (spot b) (omega (arith, spot_is a, spot_is b, ltb-false, flat-lt a, flat-lt b)))

-- the order's test by two numbers
pub by-numbers : (a b : Rec) → goes_before a b ≡ ltb (net_of a) (net_of b) || (eqb (net_of a) (net_of b) && ltb (spot a) (spot b))
unfolding goes_before less_or
by-numbers a b = ap (λ t. ltb (net_of a) (net_of b) || (eqb (net_of a) (net_of b) && t)) (spot-test a b)

pub before : (a b : Rec) → goes_before a b ≡ true → Before a b
before a b e = go (ltb (net_of a) (net_of b)) (eqb (net_of a) (net_of b)) (ltb (spot a) (spot b)) refl refl refl (sym (by-numbers a b) ∙ e)
  where
    go : (p q t : Bool) → ltb (net_of a) (net_of b) ≡ p → eqb (net_of a) (net_of b) ≡ q → ltb (spot a) (spot b) ≡ t → p || (q && t) ≡ true → Before a b
    go true q t e f g h = by-net (ltb-true (net_of a) (net_of b) e)
    go false true true e f g h = by-spot (eqb-true (net_of a) (net_of b) f) (ltb-true (spot a) (spot b) g)
    go false true false e f g h = let z : ◌≡◌ {A = ℕ} 0 1 = cc in absurd (omega arith)
    go false false t e f g h = let z : ◌≡◌ {A = ℕ} 0 1 = cc in absurd (omega arith)

pub goes : {a b : Rec} → Before a b → goes_before a b ≡ true
goes {a} {b} (by-net h) = rw (by-numbers a b, lt-ltb (net_of a) (net_of b) h)
goes {a} {b} (by-spot e h) = rw (by-numbers a b, le-ltb (net_of a) (net_of b) (omega arith), eq-eqb (net_of a) (net_of b) e, lt-ltb (spot a) (spot b) h)

pub before-not : {a b : Rec} → Before a b → Before b a → ⊥
before-not (by-net h) (by-net k) = omega arith
before-not (by-net h) (by-spot e k) = omega arith
before-not (by-spot e h) (by-net k) = omega arith
before-not (by-spot e h) (by-spot f k) = omega arith

pub before-trans : {a b c : Rec} → Before a b → Before b c → Before a c
before-trans (by-net h) (by-net k) = by-net (omega arith)
before-trans (by-net h) (by-spot e k) = by-net (omega arith)
before-trans (by-spot e h) (by-net k) = by-net (omega arith)
before-trans (by-spot e h) (by-spot f k) = by-spot (e ∙ f) (omega arith)

pub stays : {a b : Rec} → (Before a b → ⊥) → goes_before a b ≡ false
stays {a} {b} n = go (goes_before a b) refl
  where
    go : (t : Bool) → goes_before a b ≡ t → t ≡ false
    go true e = absurd (n (before a b e))
    go false e = refl
