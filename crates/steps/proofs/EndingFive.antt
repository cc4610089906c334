-- An ending with five nets open, on the three words that tell the place of the youngest: the youngest ends, or is the youngest of the four left.
use mathlib.Core.Path.{◌≡◌, refl, sym, ap, ap₂, ◌∙◌}
use mathlib.Core.Bool.{Bool, true, false, ◌&&◌, ◌||◌}
use mathlib.Core.Logic.{◌⊎◌, inl, inr}
use Prim.Native.Nat.{ℕ, zero, suc, ◌+◌, ◌-◌, ◌*◌, ◌/◌, ◌%◌, ◌^◌, ◌≤◌, ◌<◌}
use native.Mathlib.Nat.{mod-lt, one-mul}
use native.Mathlib.Omega.{arith}
use lib.Bits.{bit_and, bit_or, or_lt}
use lib.Dec.{eqb, leb, ltb}
use lib.Pow.{shl_exact, shl_lt, shr_lt, pow_pos, pow_mono}
use borrow.Author.Tests.{leb-true, leb-false, ltb-true, ltb-false, le-leb, lt-leb}
use Rattle.rules.specs.Basic.{pick}
use Rattle.steps.specs.declared.end.Five.{Five}
use Rattle.steps.specs.Ranks.{fact, under, spared, at_of, less_of}
use Rattle.steps.specs.Sets.{bit}
use Rattle.steps.specs.Four.{place_of, left_of, Left, Pulls, Leaves, Gone, comes, nth, within, over_at, under_at, Passing, Piece, Inside}
use Rattle.steps.proofs.Bits.{not-both}
use Rattle.steps.proofs.Ranks.{at-youngest, less-youngest, at-older, less-older, under-above, under-below, spared-above, spared-below}
use Rattle.steps.proofs.Words.{bit-and, bit-or, bit-zero, bit-shl, bit-shl-low, bit-shr, bit-mod, bit_high, bit-upper, bit-lower}
use Rattle.steps.proofs.FourSets.{either, or-first, or-second, and_both, and-true, and_none, left_lt, place-lt}

-- one of three tests passes
abbrev pub any_of : (ℕ → Bool) → Bool
any_of t = (t 1 || t 2) || t 3

pub any_some : (t : ℕ → Bool) → any_of t ≡ true → (k : ℕ) × (1 ≤ k) × (k < 4) × (t k ≡ true)
any_some t e = last (either (t 1 || t 2) (t 3) e)
  where
    pair : (t 1 ≡ true) ⊎ (t 2 ≡ true) → (k : ℕ) × (1 ≤ k) × (k < 4) × (t k ≡ true)
    pair (inl i) = (1, omega arith, omega arith, i)
    pair (inr i) = (2, omega arith, omega arith, i)

    last : (t 1 || t 2 ≡ true) ⊎ (t 3 ≡ true) → (k : ℕ) × (1 ≤ k) × (k < 4) × (t k ≡ true)
    last (inl h) = pair (either (t 1) (t 2) h)
    last (inr h) = (3, omega arith, omega arith, h)

pub some-any : (t : ℕ → Bool) (k : ℕ) → 1 ≤ k → k < 4 → t k ≡ true → any_of t ≡ true
some-any t zero l h e = absurd (omega arith)
some-any t (suc zero) l h e = or-first (t 1 || t 2) (t 3) (or-first (t 1) (t 2) e)
some-any t (suc (suc zero)) l h e = or-first (t 1 || t 2) (t 3) (or-second (t 1) (t 2) e)
some-any t (suc (suc (suc zero))) l h e = or-second (t 1 || t 2) (t 3) e
some-any t (suc (suc (suc (suc k)))) l h e = absurd (omega arith)

-- the words of a set, or'ed
abbrev pub or_three : (a b c : ℕ) → ℕ
or_three a b c = bit_or (bit_or a b) c

pub or-three : (a b c i : ℕ) → bit (or_three a b c) i ≡ (bit a i || bit b i) || bit c i
or-three a b c i = rw (bit-or (bit_or a b) c i, bit-or a b i)

-- orders have the youngest at 1, 2 or 3
pub nth-inner : (f : Five) (k i : ℕ) → bit (nth f k) i ≡ true → (1 ≤ k) × (k < 4)
unfolding nth
nth-inner f zero i e = absurd (not-both (bit-zero i) e)
nth-inner f (suc zero) i e = (omega arith, omega arith)
nth-inner f (suc (suc zero)) i e = (omega arith, omega arith)
nth-inner f (suc (suc (suc zero))) i e = (omega arith, omega arith)
nth-inner f (suc (suc (suc (suc k)))) i e = absurd (not-both (bit-zero i) e)

pub outer-none : (f : Five) (r : ℕ) → (24 ≤ r → r < 96 → ⊥) → within f r ≡ false
outer-none f r n = go (within f r) refl
  where
    go : (t : Bool) → within f r ≡ t → t ≡ false
    go true e = let (a, b) = nth-inner f (r / 24) (r % 24) e in absurd (n (omega arith) (omega arith))
    go false e = refl

-- a word that is taken where k is in l
module _ (l k w x : ℕ) where
  picked : (t : Bool) → x ≡ pick t w 0 → (i : ℕ) → bit x i ≡ t && bit w i
  unfolding pick
  picked true e i = ap (λ (n : ℕ). bit n i) e
  picked false e i = ap (λ (n : ℕ). bit n i) e ∙ bit-zero i

  picked-le : (t : Bool) → x ≡ pick t w 0 → x ≤ w
  unfolding pick
  picked-le true e = omega arith
  picked-le false e = omega arith

  pub taken-bits : x ≡ pick (eqb (l / 2 ^ k % 2) 1) w 0 → (i : ℕ) → bit x i ≡ bit l k && bit w i
  unfolding bit
  taken-bits e i = picked (eqb (l / 2 ^ k % 2) 1) e i

  pub taken-le : x ≡ pick (eqb (l / 2 ^ k % 2) 1) w 0 → x ≤ w
  taken-le e = picked-le (eqb (l / 2 ^ k % 2) 1) e

-- the youngest of five, and another
pub at_first : (r : ℕ) → at_of 0 5 r ≡ r / 24
unfolding fact
at_first r = sym (at-youngest 0 5 4 r 24 refl refl refl)

less-first : (r : ℕ) → less_of 0 5 r ≡ r % 24
unfolding fact
less-first r = sym (less-youngest 0 5 4 r 24 refl refl refl)

module _ (e : ℕ) (he : e < 4) where
  at_five : (r : ℕ) → at_of (4 - e) 5 r ≡ under (r / 24) (place_of e (r % 24))
  unfolding fact
  at_five r = sym (at-older (4 - e) 5 (3 - e) 4 r 24 (place_of e (r % 24)) (omega arith) refl refl refl)

  less-five : (r : ℕ) → less_of (4 - e) 5 r ≡ spared (r / 24) (place_of e (r % 24)) * 6 + left_of e (r % 24)
  unfolding fact
  less-five r =
      sym (less-older (4 - e) 5 (3 - e) 4 r 24 (place_of e (r % 24)) (omega arith) refl refl refl (left_of e (r % 24)) refl)

-- the youngest ends
module _ (l : ℕ) (f : Five) where
  abbrev goes : (i k : ℕ) → Bool
  goes i k = bit l k && bit (nth f k) i

  youngest-gone : (b c d n : ℕ) → ((i : ℕ) → bit b i ≡ goes i 1) → ((i : ℕ) → bit c i ≡ goes i 2) → ((i : ℕ) → bit d i ≡ goes i 3) →
      n ≡ or_three b c d % 16777216 → Gone 5 0 l (within f) n
  unfolding fact
  youngest-gone b c d n hb hc hd q =
      record { below = rw q (mod-lt (or_three b c d) (pow_pos 24)); sound = λ x h. sound x h (ltb x 24) refl; full = full }
    where
      bits : (i : ℕ) → i < 24 → bit n i ≡ any_of (goes i)
      bits i h = ap (λ (v : ℕ). bit v i) q ∙ bit-mod (or_three b c d) 24 i h ∙ or-three b c d i ∙ rw (hb i, hc i, hd i)

      sound : (x : ℕ) → bit n x ≡ true → (t : Bool) → ltb x 24 ≡ t → Leaves 5 0 l (within f) x
      sound x h false t =
          absurd (not-both (bit_high n 24 x (rw q (mod-lt (or_three b c d) (pow_pos 24))) (ltb-false x 24 t)) h)
      sound x h true t =
          let m : x < 24 = ltb-true x 24 t in
          let (k, lk, hk, g) = any_some (goes x) (sym (bits x m) ∙ h) in
          let (i, o) = and_both (bit l k) (bit (nth f k) x) g in
          let dk : (24 * k + x) / 24 ≡ k = omega arith in
          let dx : (24 * k + x) % 24 ≡ x = omega arith in
          record {
            rank = 24 * k + x;
            below = omega arith;
            within = rw (dk, dx) o;
            stands = rw (at_first (24 * k + x), dk) i;
            left = less-first (24 * k + x) ∙ dx;
          }

      full : (r : ℕ) → r < fact 5 → within f r ≡ true → bit l (at_of 0 5 r) ≡ true → bit n (less_of 0 5 r) ≡ true
      full r h i o =
          let m : r % 24 < 24 = omega arith in
          let (lk, hk) = nth-inner f (r / 24) (r % 24) i in
          let g : bit l (r / 24) ≡ true = rw (at_first r) at o in
          rw (less-first r) (bits (r % 24) m ∙ some-any (goes (r % 24)) (r / 24) lk hk (and-true (bit l (r / 24)) (bit (nth f (r / 24)) (r % 24)) g i))

  -- back: the words
  youngest-back : (n : ℕ) → ((k i : ℕ) → 1 ≤ k → k < 4 → bit (nth f k) i ≡ bit l k && bit n i) → (r : ℕ) → 24 ≤ r → r < 96 →
      within f r ≡ comes 5 0 l n r
  youngest-back n h r o m =
      h (r / 24) (r % 24) (omega arith) (omega arith) ∙ sym (ap₂ (λ (k i : ℕ). bit l k && bit n i) (at_first r) (less-first r))

or-false : (t : Bool) → t || false ≡ t
or-false true = refl
or-false false = refl

-- the sets of places
module _ (l d : ℕ) (hl : l < 32) (hd : d < 5) where
  abbrev high : ℕ
  high = l / 2 ^ (d + 1)

  high_lt : high < 2 ^ (4 - d)
  high_lt =
      let e : 4 - d + (d + 1) ≡ 5 = omega arith in
      shr_lt (4 - d) (d + 1) (rw e hl)

  over-exact : high * 2 ^ d % 4294967296 ≡ high * 2 ^ d
  over-exact = shl_exact (4 - d) d 32 high_lt (omega arith)

  pub over-lt : high * 2 ^ d % 4294967296 < 16
  over-lt =
      let e : 4 - d + d ≡ 4 = omega arith in
      let h : high * 2 ^ d < 2 ^ 4 = rw e at (shl_lt (4 - d) d high_lt) in
      rw over-exact h

  over-bit : (p : ℕ) → bit (high * 2 ^ d % 4294967296) p ≡ leb d p && bit l (suc p)
  over-bit p = ap (λ (v : ℕ). bit v p) over-exact ∙ go (leb d p) refl
    where
      go : (t : Bool) → leb d p ≡ t → bit (high * 2 ^ d) p ≡ t && bit l (suc p)
      go true q =
          let m = leb-true d p q in
          let e : p ≡ d + (p - d) = omega arith in
          let v : d + 1 + (p - d) ≡ suc p = omega arith in
          ap (bit (high * 2 ^ d)) e ∙ bit-shl high d (p - d) ∙ bit-shr l (d + 1) (p - d) ∙ ap (bit l) v
      go false q = bit-shl-low high d p (leb-false d p q)

  pub over-passing : (e z : ℕ) → Pulls (place_of e) (high * 2 ^ d % 4294967296) z → Passing (over_at e l d) z
  over-passing e z p = record { bits = λ i h. p.bits i h ∙ over-bit (place_of e i) }

  -- the places from which the youngest, put in at d, pushes a net to a place of l
  bound : 1 * 2 ^ d % 4294967296 ≡ 2 ^ d
  bound = shl_exact 1 d 32 (omega arith) (omega arith) ∙ one-mul (2 ^ d)

  pub bound-pos : 0 < 1 * 2 ^ d % 4294967296
  bound-pos = rw bound (pow_pos d)

  abbrev upper : ℕ
  upper = l % (1 * 2 ^ d % 4294967296)

  upper-exact : upper ≡ l % 2 ^ d
  upper-exact = ap (λ (m : ℕ). l % m) bound

  abbrev pub pushed : ℕ
  pushed = bit_or upper (high * 2 ^ d % 4294967296)

  pub pushed-lt : pushed < 16
  pushed-lt =
      let h : l % 2 ^ d < 2 ^ d = mod-lt l (pow_pos d) in
      let m : 2 ^ d ≤ 2 ^ 4 = pow_mono {i = d} {j = 4} (omega arith) in
      or_lt 4 upper (high * 2 ^ d % 4294967296) (rw upper-exact (omega arith)) over-lt

  pub pushed-bit : (p : ℕ) → bit pushed p ≡ bit l (under d p)
  pushed-bit p =
      bit-or upper (high * 2 ^ d % 4294967296) p ∙ ap₂ ◌||◌ (ap (λ (v : ℕ). bit v p) upper-exact) (over-bit p) ∙ go (leb d p) refl
    where
      go : (t : Bool) → leb d p ≡ t → bit (l % 2 ^ d) p || (t && bit l (suc p)) ≡ bit l (under d p)
      go true q =
          let m = leb-true d p q in
          rw (bit_high (l % 2 ^ d) d p (mod-lt l (pow_pos d)) m, under-above d p m)
      go false q =
          let m = leb-false d p q in
          or-false (bit (l % 2 ^ d) p) ∙ bit-mod l d p m ∙ ap (bit l) (sym (under-below d p m))

module _ (l d : ℕ) (hl : l < 32) (hd : d < 4) where
  modulus : 2 * 2 ^ d % 4294967296 ≡ 2 ^ suc d
  modulus = shl_exact 2 d 32 (omega arith) (omega arith) ∙ omega arith

  pub under-pos : 0 < 2 * 2 ^ d % 4294967296
  under-pos = rw modulus (pow_pos (suc d))

  under-exact : l % (2 * 2 ^ d % 4294967296) ≡ l % 2 ^ suc d
  under-exact = ap (λ (m : ℕ). l % m) modulus

  pub under-lt : l % (2 * 2 ^ d % 4294967296) < 16
  under-lt =
      let h : l % 2 ^ suc d < 2 ^ suc d = mod-lt l (pow_pos (suc d)) in
      let m : 2 ^ suc d ≤ 2 ^ 4 = pow_mono {i = suc d} {j = 4} (omega arith) in
      rw under-exact (omega arith)

  under-bit : (p : ℕ) → bit (l % (2 * 2 ^ d % 4294967296)) p ≡ leb p d && bit l p
  under-bit p = ap (λ (v : ℕ). bit v p) under-exact ∙ go (leb p d) refl
    where
      go : (t : Bool) → leb p d ≡ t → bit (l % 2 ^ suc d) p ≡ t && bit l p
      go true q = bit-mod l (suc d) p (omega (arith, leb-true p d q))
      go false q = bit_high (l % 2 ^ suc d) (suc d) p (mod-lt l (pow_pos (suc d))) (leb-false p d q)

  pub under-passing : (e z : ℕ) → Pulls (place_of e) (l % (2 * 2 ^ d % 4294967296)) z → Passing (under_at e l d) z
  under-passing e z p = record { bits = λ i h. p.bits i h ∙ under-bit (place_of e i) }

-- the piece of the youngest at d
pub piece_of : (e l d x y u v n : ℕ) → Passing (over_at e l d) u → Passing (under_at e l d) v → Left e (bit_or (bit_and x u) (bit_and y v)) n →
    Piece e l d x y n
piece_of e l d x y u v n hu hv t =
    record {
      all = bit_or (bit_and x u) (bit_and y v);
      bits = record { bits = λ i h. rw (bit-or (bit_and x u) (bit_and y v) i, bit-and x u i, bit-and y v i, hu.bits i h, hv.bits i h) };
      left = t;
    }

-- there is none of the youngest on top, or with three above it: the net that ended would have stood on top, or below all
none-piece : (e l d x y : ℕ) → ((i : ℕ) → i < 24 → bit x i && over_at e l d i || bit y i && under_at e l d i ≡ false) → Piece e l d x y 0
none-piece e l d x y f =
    record {
      all = 0;
      bits = record { bits = λ i h. bit-zero i ∙ sym (f i h) };
      left = record { below = omega arith; sound = λ j h. absurd (not-both (bit-zero j) h); full = λ i h b. absurd (not-both (bit-zero i) b) };
    }

module _ (e l : ℕ) (inside : Inside l) where
  last_out : bit l 4 ≡ false
  last_out = bit_high l 4 4 inside.below (omega arith)

  -- the net would stand on top ..
  under_top : (i : ℕ) → under_at e l 0 i ≡ false
  under_top i = go (leb (place_of e i) 0) refl
    where
      go : (t : Bool) → leb (place_of e i) 0 ≡ t → t && bit l (place_of e i) ≡ false
      go true q = let z : place_of e i ≡ 0 = omega (arith, leb-true (place_of e i) 0 q) in rw z inside.top
      go false q = refl

  -- .. or below the four others
  over_last : (i : ℕ) → i < 24 → over_at e l 3 i ≡ false
  over_last i h = go (leb 3 (place_of e i)) refl
    where
      go : (t : Bool) → leb 3 (place_of e i) ≡ t → t && bit l (suc (place_of e i)) ≡ false
      go true q = let z : place_of e i ≡ 3 = omega (arith, leb-true 3 (place_of e i) q, place-lt e i h) in rw z last_out
      go false q = refl

  first_piece : (y : ℕ) → Piece e l 0 0 y 0
  first_piece y = none-piece e l 0 0 y (λ i h. rw (bit-zero i, under_top i) (and_none (bit y i)))

  last-piece : (x : ℕ) → Piece e l 3 x 0 0
  last-piece x = none-piece e l 3 x 0 (λ i h. rw (over_last i h, bit-zero i, and_none (bit x i)))

-- four pieces of six bits
module _ (a b c d : ℕ) (ha : a < 64) (hb : b < 64) (hc : c < 64) where
  abbrev whole : ℕ
  whole = ((d * 64 + c) * 64 + b) * 64 + a

  whole-bit : (q : ℕ → ℕ) → q 0 ≡ a → q 1 ≡ b → q 2 ≡ c → q 3 ≡ d → (k j : ℕ) → k < 4 → j < 6 → bit whole (6 * k + j) ≡ bit (q k) j
  whole-bit q qa qb qc qd zero j hk hj = ap (bit whole) (omega arith) ∙ bit-lower ((d * 64 + c) * 64 + b) 6 a j ha hj ∙ ap (λ (v : ℕ). bit v j) (sym qa)
  whole-bit q qa qb qc qd (suc zero) j hk hj =
      ap (bit whole) (omega arith) ∙ bit-upper ((d * 64 + c) * 64 + b) 6 a j ha ∙ bit-lower (d * 64 + c) 6 b j hb hj ∙
      ap (λ (v : ℕ). bit v j) (sym qb)
  whole-bit q qa qb qc qd (suc (suc zero)) j hk hj =
      let e : 6 * 2 + j ≡ 6 + (6 + j) = omega arith in
      ap (bit whole) e ∙ bit-upper ((d * 64 + c) * 64 + b) 6 a (6 + j) ha ∙ bit-upper (d * 64 + c) 6 b j hb ∙ bit-lower d 6 c j hc hj ∙
      ap (λ (v : ℕ). bit v j) (sym qc)
  whole-bit q qa qb qc qd (suc (suc (suc zero))) j hk hj =
      let e : 6 * 3 + j ≡ 6 + (6 + (6 + j)) = omega arith in
      ap (bit whole) e ∙ bit-upper ((d * 64 + c) * 64 + b) 6 a (6 + (6 + j)) ha ∙ bit-upper (d * 64 + c) 6 b (6 + j) hb ∙
      bit-upper d 6 c j hc ∙ ap (λ (v : ℕ). bit v j) (sym qd)
  whole-bit q qa qb qc qd (suc (suc (suc (suc k)))) j hk hj = absurd (omega arith)

-- two sets together
passing-or : (s t : ℕ → Bool) (y z : ℕ) → Passing s y → Passing t z → Passing (λ i. s i || t i) (bit_or y z)
passing-or s t y z p q = record { bits = λ i h. bit-or y z i ∙ ap₂ ◌||◌ (p.bits i h) (q.bits i h) }

-- the orders of z that leave one of n with the youngest at d
pub passing-back : (e n d z y : ℕ) → Pulls (left_of e) (n / 2 ^ (6 * d) % 64) y → Passing (λ i. bit z i && bit n (6 * d + left_of e i)) (bit_and z y)
passing-back e n d z y b =
    record {
      bits = λ i h. bit-and z y i ∙
          ap (λ v. bit z i && v) (b.bits i h ∙ bit-mod (n / 2 ^ (6 * d)) 6 (left_of e i) (left_lt e i h) ∙ bit-shr n (6 * d) (left_of e i));
    }

-- a test of the bits of a set is one of what the set is of
pub passing-both : {s : ℕ → Bool} {y z : ℕ} (t : ℕ → Bool) → Passing s y → Passing (λ i. bit y i && t i) z → Passing (λ i. s i && t i) z
passing-both t p q = record { bits = λ i h. q.bits i h ∙ ap (λ v. v && t i) (p.bits i h) }

-- another than the youngest ends, with e elders
module _ (e l : ℕ) (he : e < 4) where
  -- its place and what is left, where the youngest is at k and the others have rank i
  module _ (k i : ℕ) (hi : i < 24) where
    abbrev rank : ℕ
    rank = 24 * k + i

    abbrev place : ℕ
    place = place_of e i

    pub rank-at : at_of (4 - e) 5 rank ≡ under k place
    rank-at =
        let dk : rank / 24 ≡ k = omega arith in
        let di : rank % 24 ≡ i = omega arith in
        at_five e he rank ∙ ap₂ (λ (q r : ℕ). under q (place_of e r)) dk di

    rank_less : less_of (4 - e) 5 rank ≡ spared k place * 6 + left_of e i
    rank_less =
        let dk : rank / 24 ≡ k = omega arith in
        let di : rank % 24 ≡ i = omega arith in
        less-five e he rank ∙ ap₂ (λ (q r : ℕ). spared q (place_of e r) * 6 + left_of e r) dk di

    -- the net below the youngest, and above it
    over-at : k ≤ place → at_of (4 - e) 5 rank ≡ suc place
    over-at h = rank-at ∙ under-above k place h

    over-less : k ≤ place → less_of (4 - e) 5 rank ≡ 6 * k + left_of e i
    over-less h = rank_less ∙ omega (arith, spared-above k place h)

    under-at : place < k → at_of (4 - e) 5 rank ≡ place
    under-at h = rank-at ∙ under-below k place h

    under-less : place < k → less_of (4 - e) 5 rank ≡ 6 * (k - 1) + left_of e i
    under-less h = rank_less ∙ omega (arith, spared-below k place h)

  module _ (f : Five) where
    leaf : (k i x : ℕ) → k < 5 → i < 24 → bit (nth f k) i ≡ true → bit l (at_of (4 - e) 5 (24 * k + i)) ≡ true →
        less_of (4 - e) 5 (24 * k + i) ≡ x → Leaves 5 (4 - e) l (within f) x
    unfolding fact
    leaf k i x hk hi h o q =
        let dk : (24 * k + i) / 24 ≡ k = omega arith in
        let di : (24 * k + i) % 24 ≡ i = omega arith in
        record { rank = 24 * k + i; below = omega arith; within = rw (dk, di) h; stands = o; left = q }

    older-gone : (q : ℕ → ℕ) → ((d : ℕ) → d < 4 → Piece e l d (nth f d) (nth f (suc d)) (q d)) → (n : ℕ) → n < 16777216 →
        ((k j : ℕ) → k < 4 → j < 6 → bit n (6 * k + j) ≡ bit (q k) j) → Gone 5 (4 - e) l (within f) n
    unfolding fact
    older-gone q pieces n low bits = record { below = low; sound = λ x h. sound x h (ltb x 24) refl; full = full }
      where
        from : (d i x : ℕ) → d < 4 → i < 24 → 6 * d + left_of e i ≡ x →
            (bit (nth f d) i && over_at e l d i ≡ true) ⊎ (bit (nth f (suc d)) i && under_at e l d i ≡ true) →
            Leaves 5 (4 - e) l (within f) x
        from d i x hd hi v (inl h) =
            let (a, c) = and_both (bit (nth f d) i) (over_at e l d i) h in
            let (m, o) = and_both (leb d (place_of e i)) (bit l (suc (place_of e i))) c in
            let r = leb-true d (place_of e i) m in
            leaf d i x (omega arith) hi a (rw (over-at d i hi r) o) (over-less d i hi r ∙ v)
        from d i x hd hi v (inr h) =
            let (a, c) = and_both (bit (nth f (suc d)) i) (under_at e l d i) h in
            let (m, o) = and_both (leb (place_of e i) d) (bit l (place_of e i)) c in
            let r : place_of e i < suc d = omega (arith, leb-true (place_of e i) d m) in
            let w : 6 * (suc d - 1) + left_of e i ≡ x = omega arith in
            leaf (suc d) i x (omega arith) hi a (rw (under-at (suc d) i hi r) o) (under-less (suc d) i hi r ∙ w)

        piece : (d j x : ℕ) → d < 4 → 6 * d + j ≡ x → bit (q d) j ≡ true → Leaves 5 (4 - e) l (within f) x
        piece d j x hd v h =
            let p = pieces d hd in
            let c = p.left.sound j h in
            let i : ℕ = c.rank in
            from d i x hd c.below (rw c.leaves v)
            (either (bit (nth f d) i && over_at e l d i) (bit (nth f (suc d)) i && under_at e l d i)
            (sym (p.bits.bits i c.below) ∙ c.within))

        sound : (x : ℕ) → bit n x ≡ true → (t : Bool) → ltb x 24 ≡ t → Leaves 5 (4 - e) l (within f) x
        sound x h false t = absurd (not-both (bit_high n 24 x low (ltb-false x 24 t)) h)
        sound x h true t =
            let m : x < 24 = ltb-true x 24 t in
            let v : 6 * (x / 6) + x % 6 ≡ x = omega arith in
            piece (x / 6) (x % 6) x (omega arith) v (sym (bits (x / 6) (x % 6) (omega arith) (omega arith)) ∙ rw v h)

        into : (d i : ℕ) → d < 4 → i < 24 →
            bit (nth f d) i && over_at e l d i || bit (nth f (suc d)) i && under_at e l d i ≡ true → bit n (6 * d + left_of e i) ≡ true
        into d i hd hi h =
            let p = pieces d hd in
            bits d (left_of e i) hd (left_lt e i hi) ∙ p.left.full i hi (p.bits.bits i hi ∙ h)

        by : (k i : ℕ) → k < 5 → i < 24 → bit (nth f k) i ≡ true → bit l (at_of (4 - e) 5 (24 * k + i)) ≡ true →
            (t : Bool) → leb k (place_of e i) ≡ t → bit n (less_of (4 - e) 5 (24 * k + i)) ≡ true
        by k i hk hi h o true t =
            let r = leb-true k (place_of e i) t in
            let g : bit l (suc (place_of e i)) ≡ true = rw (over-at k i hi r) at o in
            rw (over-less k i hi r) (into k i (omega (arith, place-lt e i hi)) hi
            (or-first (bit (nth f k) i && over_at e l k i) (bit (nth f (suc k)) i && under_at e l k i)
            (and-true (bit (nth f k) i) (over_at e l k i) h (and-true (leb k (place_of e i)) (bit l (suc (place_of e i))) t g))))
        by zero i hk hi h o false t = absurd (omega (arith, leb-false 0 (place_of e i) t))
        by (suc d) i hk hi h o false t =
            let r = leb-false (suc d) (place_of e i) t in
            let g : bit l (place_of e i) ≡ true = rw (under-at (suc d) i hi r) at o in
            let v : suc d - 1 ≡ d = omega arith in
            rw (under-less (suc d) i hi r, v) (into d i (omega arith) hi
            (or-second (bit (nth f d) i && over_at e l d i) (bit (nth f (suc d)) i && under_at e l d i)
            (and-true (bit (nth f (suc d)) i) (under_at e l d i) h
            (and-true (leb (place_of e i) d) (bit l (place_of e i)) (le-leb (place_of e i) d (omega arith)) g))))

        full : (r : ℕ) → r < fact 5 → within f r ≡ true → bit l (at_of (4 - e) 5 r) ≡ true → bit n (less_of (4 - e) 5 r) ≡ true
        full r h i o =
            let v : 24 * (r / 24) + r % 24 ≡ r = omega arith in
            rw v at (by (r / 24) (r % 24) (omega arith) (omega arith) i (rw v o) (leb (r / 24) (place_of e (r % 24))) refl)

  -- back: the orders with the youngest at d and the net below it, at d + 1 and the net above it
  module _ (n : ℕ) where
    abbrev over_from : (d i : ℕ) → Bool
    over_from d i = over_at e l d i && bit n (6 * d + left_of e i)

    abbrev under_from : (d i : ℕ) → Bool
    under_from d i = under_at e l d i && bit n (6 * d + left_of e i)

    -- what a word for the youngest at k says
    module _ (k i : ℕ) (hi : i < 24) where
      abbrev passes : Bool
      passes = comes 5 (4 - e) l n (24 * k + i)

      over-comes : k ≤ place_of e i → over_from k i ≡ passes
      over-comes h = rw (over-at k i hi h, over-less k i hi h, le-leb k (place_of e i) h)

      over_none : place_of e i < k → over_from k i ≡ false
      over_none h = rw (lt-leb k (place_of e i) h)

      under-comes : (d : ℕ) → k ≡ suc d → place_of e i < k → under_from d i ≡ passes
      under-comes d q h =
          let v : k - 1 ≡ d = omega arith in
          rw (under-at k i hi h, under-less k i hi h, v, le-leb (place_of e i) d (omega arith))

      under_none : (d : ℕ) → k ≡ suc d → k ≤ place_of e i → under_from d i ≡ false
      under_none d q h = rw (lt-leb (place_of e i) d (omega arith))

      -- a word has the orders with the net below the youngest and those with the net above it
      middle-word : (d : ℕ) → k ≡ suc d → over_from k i || under_from d i ≡ passes
      middle-word d q = go (leb k (place_of e i)) refl
        where
          go : (t : Bool) → leb k (place_of e i) ≡ t → over_from k i || under_from d i ≡ passes
          go true t =
              let h = leb-true k (place_of e i) t in
              ap₂ ◌||◌ (over-comes h) (under_none d q h) ∙ or-false passes
          go false t =
              let h = leb-false k (place_of e i) t in
              ap₂ ◌||◌ (over_none h) (under-comes d q h)

    older-back : (f : Five) → Inside l → Passing (over_from 1) f.second → Passing (λ i. over_from 2 i || under_from 1 i) f.third →
        Passing (under_from 2) f.fourth → (r : ℕ) → 24 ≤ r → r < 96 → within f r ≡ comes 5 (4 - e) l n r
    unfolding nth
    older-back f inside p₁ p₂ p₃ r o h =
        let v : 24 * (r / 24) + r % 24 ≡ r = omega arith in
        go (r / 24) (r % 24) (omega arith) (omega arith) (omega arith) ∙ ap (λ (x : ℕ). comes 5 (4 - e) l n x) v
      where
        go : (k i : ℕ) → 1 ≤ k → k < 4 → i < 24 → bit (nth f k) i ≡ comes 5 (4 - e) l n (24 * k + i)
        go zero i ok hk hi = absurd (omega arith)
        go (suc zero) i ok hk hi =
            let z : under_from 0 i ≡ false = rw (under_top e l inside i) in
            p₁.bits i hi ∙ sym (ap (λ (t : Bool). over_from 1 i || t) z ∙ or-false (over_from 1 i)) ∙ middle-word 1 i hi 0 refl
        go (suc (suc zero)) i ok hk hi = p₂.bits i hi ∙ middle-word 2 i hi 1 refl
        go (suc (suc (suc zero))) i ok hk hi =
            let z : over_from 3 i ≡ false = rw (over_last e l inside i hi) in
            p₃.bits i hi ∙ sym (ap (λ (t : Bool). t || under_from 2 i) z) ∙ middle-word 3 i hi 2 refl
        go (suc (suc (suc (suc k)))) i ok hk hi = absurd (omega arith)

-- as the code puts them together
module _ (e l n : ℕ) (he : e < 4) (inside : Inside l) where
  abbrev over : ℕ → ℕ → Bool
  over d i = over_at e l d i && bit n (6 * d + left_of e i)

  abbrev below : ℕ → ℕ → Bool
  below d i = under_at e l d i && bit n (6 * d + left_of e i)

  pub older-from : (u₁ u₂ v₁ v₂ : ℕ) → Passing (over 1) u₁ → Passing (over 2) u₂ → Passing (below 1) v₁ → Passing (below 2) v₂ →
      (r : ℕ) → 24 ≤ r → r < 96 → within (record { second = u₁; third = bit_or u₂ v₁; fourth = v₂ }) r ≡ comes 5 (4 - e) l n r
  older-from u₁ u₂ v₁ v₂ a₁ a₂ b₁ b₂ =
      older-back e l he n (record { second = u₁; third = bit_or u₂ v₁; fourth = v₂ }) inside a₁ (passing-or (over 2) (below 1) u₂ v₁ a₂ b₁) b₂

-- three words, one by one
pub nth-all : (f : Five) (g : ℕ → ℕ) → f.second ≡ g 1 → f.third ≡ g 2 → f.fourth ≡ g 3 → (k : ℕ) → 1 ≤ k → k < 4 → nth f k ≡ g k
unfolding nth
nth-all f g b c d zero l h = absurd (omega arith)
nth-all f g b c d (suc zero) l h = b
nth-all f g b c d (suc (suc zero)) l h = c
nth-all f g b c d (suc (suc (suc zero))) l h = d
nth-all f g b c d (suc (suc (suc (suc k)))) l h = absurd (omega arith)

-- as the code has the three words
module _ (l : ℕ) (f : Five) where
  pub youngest-words : (b c d : ℕ) → ((i : ℕ) → bit b i ≡ bit l 1 && bit f.second i) → ((i : ℕ) → bit c i ≡ bit l 2 && bit f.third i) →
      ((i : ℕ) → bit d i ≡ bit l 3 && bit f.fourth i) → Gone 5 0 l (within f) (or_three b c d % 16777216)
  unfolding nth
  youngest-words b c d hb hc hd = youngest-gone l f b c d (or_three b c d % 16777216) hb hc hd refl

  pub youngest-from : (n : ℕ) → ((i : ℕ) → bit f.second i ≡ bit l 1 && bit n i) → ((i : ℕ) → bit f.third i ≡ bit l 2 && bit n i) →
      ((i : ℕ) → bit f.fourth i ≡ bit l 3 && bit n i) → (r : ℕ) → 24 ≤ r → r < 96 → within f r ≡ comes 5 0 l n r
  unfolding nth
  youngest-from n hb hc hd = youngest-back l f n at
    where
      at : (k i : ℕ) → 1 ≤ k → k < 4 → bit (nth f k) i ≡ bit l k && bit n i
      at zero i o h = absurd (omega arith)
      at (suc zero) i o h = hb i
      at (suc (suc zero)) i o h = hc i
      at (suc (suc (suc zero))) i o h = hd i
      at (suc (suc (suc (suc k)))) i o h = absurd (omega arith)

  pub older-words : (e b c : ℕ) → e < 4 → Inside l → Piece e l 1 f.second f.third b → Piece e l 2 f.third f.fourth c →
      Gone 5 (4 - e) l (within f) ((c * 64 + b) * 64)
  unfolding nth
  older-words e b c he inside pb pc =
      let v : (c * 64 + b) * 64 ≡ ((0 * 64 + c) * 64 + b) * 64 + 0 = omega arith in
      rw v
      (older-gone e l he f q pieces (((0 * 64 + c) * 64 + b) * 64 + 0) (omega (arith, pb.left.below, pc.left.below))
      (whole-bit 0 b c 0 (omega arith) pb.left.below pc.left.below q refl refl refl refl))
    where
      q : ℕ → ℕ
      q zero = 0
      q (suc zero) = b
      q (suc (suc zero)) = c
      q (suc (suc (suc k))) = 0

      pieces : (k : ℕ) → k < 4 → Piece e l k (nth f k) (nth f (suc k)) (q k)
      pieces zero h = first_piece e l inside f.second
      pieces (suc zero) h = pb
      pieces (suc (suc zero)) h = pc
      pieces (suc (suc (suc zero))) h = last-piece e l inside f.fourth
      pieces (suc (suc (suc (suc k)))) h = absurd (omega arith)
