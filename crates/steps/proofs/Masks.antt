-- The masks of touched nets tell where the net has room: among at most five at the places that the limits leave, among six in the middle.
use mathlib.Core.Path.{◌≡◌, refl, sym, ap, ◌∙◌}
use mathlib.Core.Bool.{Bool, true, false, not, ◌&&◌}
use Prim.Native.Nat.{ℕ, suc, ◌+◌, ◌-◌, ◌*◌, ◌/◌, ◌%◌, ◌≤◌, ◌<◌}
use native.Mathlib.Omega.{arith}
use lib.Dec.{leb, ltb}
use borrow.Author.Tests.{leb-true, ltb-true, le-leb, lt-leb, lt-ltb, le-ltb}
use Rattle.rules.specs.Basic.{every}
use Rattle.rules.specs.Street.{fits}
use Rattle.rules.proofs.PinsTest.{every-at}
use Rattle.steps.specs.Ranks.{fact, under, at_of}
use Rattle.steps.specs.Sets.{bit}
use Rattle.steps.specs.Four.{place_of, Pulls, Legal, Mask}
use Rattle.steps.specs.Masks.{between, room_at, InSix}
use Rattle.steps.proofs.Ranks.{at_lt}
use Rattle.steps.proofs.EndingFive.{at_first, rank-at, pushed, pushed-bit}
use Rattle.steps.proofs.EndingSix.{fits-middle, middle-fits, third, third-under, only_third, third-only}
use Rattle.steps.proofs.EndingSix as six

-- two tests that pass together are the same
pub same_test : (a b : Bool) → (a ≡ true → b ≡ true) → (b ≡ true → a ≡ true) → a ≡ b
same_test true b f g = sym (f refl)
same_test false true f g = g refl
same_test false false f g = refl

unfoldable pub alike : Bool → Bool → Bool
alike true b = b
alike false b = not b

pub alike_same : (a b : Bool) → alike a b ≡ true → a ≡ b
unfolding alike
alike_same true b e = sym e
alike_same false true e = e
alike_same false false e = refl

pub and-all : (t : Bool) → t && true ≡ t
and-all true = refl
and-all false = refl

all_ones : every (bit 16777215) 24 ≡ true
unfolding bit every
all_ones = refl

all_one : (r : ℕ) → r < 24 → bit 16777215 r ≡ true
all_one r m = every-at (bit 16777215) 24 all_ones r m

-- bounds
module _ (lo hi p : ℕ) where
  pub between_in : lo ≤ p → p < hi → between lo hi p ≡ true
  unfolding between
  between_in l h = rw (le-leb lo p l, lt-ltb p hi h)

  pub between-out : between lo hi p ≡ true → (lo ≤ p) × (p < hi)
  unfolding between
  between-out e = go (leb lo p) (ltb p hi) refl refl e
    where
      go : (t u : Bool) → leb lo p ≡ t → ltb p hi ≡ u → t && u ≡ true → (lo ≤ p) × (p < hi)
      go true true et eu f = (leb-true lo p et, ltb-true p hi eu)
      go true false et eu f = let z : ◌≡◌ {A = ℕ} 0 1 = cc in absurd (omega arith)
      go false u et eu f = let z : ◌≡◌ {A = ℕ} 0 1 = cc in absurd (omega arith)

  pub between-under : p < lo → between lo hi p ≡ false
  unfolding between
  between-under h = rw (lt-leb lo p h)

  pub between-over : lo ≤ p → hi ≤ p → between lo hi p ≡ false
  unfolding between
  between-over l h = rw (le-leb lo p l, le-ltb p hi h)

-- the places of l are those where the limits hold
pub legal-room : (ku kl a b l x : ℕ) → Legal ku kl b l → a < b → x < fact b → bit l (at_of a b x) ≡ room_at ku kl a b x
unfolding room_at
legal-room ku kl a b l x f ha hx = f.bits (at_of a b x) (at_lt a b x ha hx)

-- with the youngest of five at e: the youngest itself, and another
module _ (l e : ℕ) where
  pub stands-first : (a z : ℕ) → a ≡ 0 → ((i : ℕ) → bit z i ≡ bit l e && bit 16777215 i) → z ≤ 16777215 →
      Mask 24 (λ r. bit l (at_of a 5 (24 * e + r))) z
  stands-first a z ea f b = rw ea record { below = omega arith; bits = bits }
    where
      bits : (r : ℕ) → r < 24 → bit z r ≡ bit l (at_of 0 5 (24 * e + r))
      bits r m =
          let d : (24 * e + r) / 24 ≡ e = omega arith in
          f r ∙ ap (λ (t : Bool). bit l e && t) (all_one r m) ∙ and-all (bit l e) ∙ sym (ap (bit l) (at_first (24 * e + r) ∙ d))

  pub stands-older : (a z : ℕ) (hl : l < 32) (he : e < 5) → a < 5 → (a ≡ 0 → ⊥) → Pulls (place_of (4 - a)) (pushed l e hl he) z →
      Mask 24 (λ r. bit l (at_of a 5 (24 * e + r))) z
  stands-older a z hl he ha n p =
      let q : 4 - a < 4 = omega arith in
      let d : 4 - (4 - a) ≡ a = omega arith in
      record {
        below = p.below;
        bits = λ r m. p.bits r m ∙ pushed-bit l e hl he (place_of (4 - a) r) ∙ ap (bit l) (sym (rank-at (4 - a) l q e r m)) ∙
            ap (λ (c : ℕ). bit l (at_of c 5 (24 * e + r))) d;
      }

-- with the youngest of six at d, in the middle, another net has room where it is third of the five
third-room : (i d x : ℕ) → 2 ≤ d → d < 4 → x < 120 → bit 4 (at_of i 5 x) ≡ room_at 3 3 (suc i) 6 (120 * d + x)
unfolding room_at
third-room i d x l u h =
    same_test (bit 4 (at_of i 5 x)) (fits 3 3 (suc (at_of (suc i) 6 (120 * d + x))) 6)
    (λ e.
    let p : under d (at_of i 5 x) ≡ under d 2 = ap (under d) (only_third (at_of i 5 x) e) in
    let t = third-under d l u in
    fits-middle 3 3 (omega arith) (omega arith) (at_of (suc i) 6 (120 * d + x)) (omega arith) (omega (arith, six.at_other d x h i))
    (omega (arith, six.at_other d x h i)))
    (λ e.
    let (a, b, c) = middle-fits 3 3 (omega arith) (omega arith) (at_of (suc i) 6 (120 * d + x)) e in
    third-only (at_of i 5 x)
    (third d l u (at_of i 5 x) (omega (arith, six.at_other d x h i)) (omega (arith, six.at_other d x h i))))

module _ (a e : ℕ) (he : e < 5) where
  pub youngest-six : a ≡ 0 → InSix a e 16777215
  unfolding room_at
  youngest-six ea =
      rw ea record {
        below = omega arith;
        bits = λ d r l u m. all_one r m ∙ sym (rw (six.at_first d (24 * e + r) (omega arith))
            (fits-middle 3 3 (omega arith) (omega arith) d (omega arith) l (omega arith)));
      }

  pub older-six : (i m : ℕ) → a ≡ suc i → Mask 24 (λ r. bit 4 (at_of i 5 (24 * e + r))) m → InSix a e m
  older-six i m ea f =
      rw ea record { below = f.below; bits = λ d r l u h. f.bits r h ∙ third-room i d (24 * e + r) l u (omega arith) }

-- a mask tells where the touched net of rank x stands
pub few-stands-at : (n m x : ℕ) (t : ℕ → Bool) → n ≤ 24 → x < n → Mask n t m → bit m (x % 24) ≡ t x
few-stands-at n m x t h l f =
    let e : x % 24 ≡ x = omega arith in
    ap (bit m) e ∙ f.bits x l

pub five-stands-at : (a l e m x : ℕ) → e ≡ x / 24 → Mask 24 (λ r. bit l (at_of a 5 (24 * e + r))) m → bit m (x % 24) ≡ bit l (at_of a 5 x)
five-stands-at a l e m x ee f =
    let d : 24 * e + x % 24 ≡ x = omega arith in
    f.bits (x % 24) (omega arith) ∙ ap (λ (n : ℕ). bit l (at_of a 5 n)) d

pub six-stands-at : (a e m x : ℕ) → e ≡ x % 120 / 24 → 240 ≤ x → x < 480 → InSix a e m → bit m (x % 24) ≡ room_at 3 3 a 6 x
six-stands-at a e m x ee l h f =
    let d : 120 * (x / 120) + (24 * e + x % 24) ≡ x = omega arith in
    f.bits (x / 120) (x % 24) (omega arith) (omega arith) (omega arith) ∙ ap (room_at 3 3 a 6) d
