-- A list in cells, of which the first are counted: what a copy of a part by one cell makes of it.
use mathlib.Core.Path.{◌≡◌, sym, ap, ◌∙◌}
use mathlib.Core.List.{List, [], ◌∷◌, ◌++◌, append_assoc}
use Prim.Native.Nat.{ℕ, zero, suc, ◌+◌, ◌-◌, ◌≤◌, ◌<◌}
use native.Mathlib.Nat.{not-suc-le-zero, le_of_suc-le-suc}
use native.Mathlib.Numerals.{add-one}
use native.Mathlib.Omega.{arith}
use lib.ListN.{length, take, drop, set, replicate, length-set, length-drop, take-append-drop}
use lib.Seq.{length-take-le, take-append-le, take_all, drop-drop, drop-set-lt, drop-paste}
use Rattle.std.proofs.lemmas.List.{drop_at, drop-set}
use Rattle.std.specs.List.{copy_within}
use Rattle.rules.specs.Basic.{put, cut}
use Rattle.rules.specs.Film.{Wire}
use Rattle.street.specs.Order.{capacity}
use Rattle.film.specs.Wires.{missing, Sound}

module _ {A : Type 0} where
  -- the first cells of a copy
  front : (n m : ℕ) (l t : List A) → n ≡ m → n ≤ length l → take n (take m l ++ t) ≡ take n l
  front n m l t e h =
      let long : length (take m l) ≡ m = length-take-le m l (omega arith) in
      take-append-le n (take m l) t (omega arith) ∙ take_all n (take m l) (omega arith) ∙ ap (λ (k : ℕ). take k l) (sym e)

  -- the cells from k on one further, and x in cell k
  pub put-copied : (k m n : ℕ) (x : A) (l t : List A) → n ≡ k + m → n < length l
      → take (suc n) (set (take (suc k) l ++ (take m (drop k l) ++ t)) k x) ≡ put k x (take n l)
  unfolding put
  put-copied k m n x [] t e h = absurd (not-suc-le-zero h)
  put-copied zero m n x (y ∷ l) t e h = ap (λ (r : List A). x ∷ r) (front n m (y ∷ l) t (omega arith) (omega arith))
  put-copied (suc k) m zero x (y ∷ l) t e h = absurd (omega arith)
  put-copied (suc k) m (suc n) x (y ∷ l) t e h =
      ap (λ (r : List A). y ∷ r) (put-copied k m n x l t (omega arith) (le_of_suc-le-suc h))

  -- the cells behind cell k one nearer
  pub cut-copied : (k m n : ℕ) (l t : List A) → n ≡ k + m → n < length l
      → take n (take k l ++ (take m (drop (suc k) l) ++ t)) ≡ cut k (take (suc n) l)
  unfolding cut
  cut-copied k m n [] t e h = absurd (not-suc-le-zero h)
  cut-copied zero m n (y ∷ l) t e h = front n m l t (omega arith) (le_of_suc-le-suc h)
  cut-copied (suc k) m zero (y ∷ l) t e h = absurd (omega arith)
  cut-copied (suc k) m (suc n) (y ∷ l) t e h = ap (λ (r : List A). y ∷ r) (cut-copied k m n l t (omega arith) (le_of_suc-le-suc h))

  -- a cell is put in behind k others, and taken out
  pub put-cells : (k n : ℕ) (x : A) (l l' : List A) → k ≤ n → n < length l → l' ≡ copy_within l k n (k + 1) → take (n + 1) (set l' k x) ≡ put k x (take n l)
  put-cells k n x l l' h w e = rw (e, add-one n, add-one k, append_assoc) (put-copied k (n - k) n x l _ (omega arith) w)

  pub cut-cells : (k n : ℕ) (l l' : List A) → k < n → n ≤ length l → l' ≡ copy_within l (k + 1) n k → take (n - 1) l' ≡ cut k (take n l)
  cut-cells k n l l' h w e =
      let m : suc (n - 1) ≡ n = omega arith in
      rw (e, add-one k, append_assoc) (cut-copied k (n - suc k) (n - 1) l _ (omega arith) (omega arith) ∙ ap (λ (j : ℕ). cut k (take j l)) m)

-- ---- cells behind the counted ones are free

-- as many are counted as wires are seen
pub count_seen : {cells ws : List Wire} {n : ℕ} → Sound cells n → take n cells ≡ ws → length ws ≡ n
count_seen {cells} {ws} {n} s e = ap (λ (l : List Wire). length l) (sym e) ∙ length-take-le n cells (omega (arith, s.long, s.few))

-- what is free, from what is known of the cells that hold n wires
free-from : {cells : List Wire} {n : ℕ} → Sound cells n → drop n cells ≡ replicate (capacity - n) missing
free-from {cells} {n} s =
    let m : length (take n cells) ≡ n = length-take-le n cells (omega (arith, s.long, s.few)) in
    ap (drop n) s.free ∙ drop_at (take n cells) (replicate (capacity - length (take n cells)) missing) n m
    ∙ ap (λ (k : ℕ). replicate (capacity - k) missing) m

sound-with : (cells : List Wire) (n : ℕ) → length cells ≡ capacity → n ≤ capacity → drop n cells ≡ replicate (capacity - n) missing → Sound cells n
sound-with cells n l f d =
    let m : length (take n cells) ≡ n = length-take-le n cells (omega arith) in
    record {
      long = l;
      few = f;
      free =
          sym (take-append-drop n cells)
          ∙ ap (λ (r : List Wire). take n cells ++ r) (d ∙ ap (λ (k : ℕ). replicate (capacity - k) missing) (sym m));
    }

-- a list of m + 1 equal wires
one-more : (m k : ℕ) → m ≡ suc k → replicate m missing ≡ missing ∷ replicate k missing
one-more m k e = ap (λ (j : ℕ). replicate j missing) e

module _ {l : List Wire} {n : ℕ} (s : Sound l n) where
  fits : n ≤ length l
  fits = omega (arith, s.long, s.few)

  pub put-sound : (k : ℕ) (x : Wire) (l' : List Wire) → k ≤ n → n < capacity → length l' ≡ length l → l' ≡ copy_within l k n (k + 1) → Sound (set l' k x) (n + 1)
  put-sound k x l' h w long e =
      let at : k + 1 + (n - k) ≡ n + 1 = omega arith in
      let behind : drop (n + 1) l' ≡ drop (n + 1) l =
      ap (drop (n + 1)) e ∙ ap (λ (j : ℕ). drop j (copy_within l k n (k + 1))) (sym at)
      ∙ drop-paste l (k + 1) (drop k l) (n - k) (omega (arith, s.long)) (omega (arith, length-drop k l, s.long))
      ∙ ap (λ (j : ℕ). drop j l) at in
      sound-with (set l' k x) (n + 1) (length-set l' k x ∙ long ∙ s.long) (omega arith)
      (drop-set-lt (n + 1) l' k x (omega arith) ∙ behind ∙ sym (drop-drop 1 n l)
      ∙ ap (drop 1) (free-from s ∙ one-more (capacity - n) (capacity - (n + 1)) (omega arith)))

  pub cut-sound : (k : ℕ) (l' : List Wire) → k < n → length l' ≡ length l → l' ≡ copy_within l (k + 1) n k → Sound (set l' (n - 1) missing) (n - 1)
  cut-sound k l' h long e =
      let at : k + (n - (k + 1)) ≡ n - 1 = omega arith in
      let more : n - 1 + 1 ≡ n = omega arith in
      let behind : drop (n - 1) l' ≡ drop (n - 1) l =
      ap (drop (n - 1)) e ∙ ap (λ (j : ℕ). drop j (copy_within l (k + 1) n k)) (sym at)
      ∙ drop-paste l k (drop (k + 1) l) (n - (k + 1)) (omega (arith, s.long, s.few)) (omega (arith, length-drop (k + 1) l, s.long, s.few))
      ∙ ap (λ (j : ℕ). drop j l) at in
      sound-with (set l' (n - 1) missing) (n - 1) (length-set l' (n - 1) missing ∙ long ∙ s.long) (omega (arith, s.few))
      (drop-set l' (n - 1) missing (omega (arith, long, s.long, s.few))
      ∙ ap (λ (r : List Wire). missing ∷ r)
      (sym (drop-drop 1 (n - 1) l') ∙ ap (drop 1) behind ∙ drop-drop 1 (n - 1) l ∙ ap (λ (j : ℕ). drop j l) more ∙ free-from s)
      ∙ sym (one-more (capacity - (n - 1)) (capacity - n) (omega (arith, s.few))))

  pub set-sound : (k : ℕ) (x : Wire) → k < n → Sound (set l k x) n
  set-sound k x h = sound-with (set l k x) n (length-set l k x ∙ s.long) s.few (drop-set-lt n l k x h ∙ free-from s)
