-- The rules of a film don't depend on the order of its records.
use mathlib.Core.Path.{◌≡◌, refl, ap, ◌∙◌}
use mathlib.Core.List.Memᴰ
use mathlib.Core.List.{List, [], ◌∷◌, ◌++◌, Memᴰ}
use mathlib.Core.Logic.{◌⊎◌, inl, inr}
use mathlib.Core.Option.{Option}
use Prim.Native.Nat.{ℕ, suc, ◌+◌}
use native.Mathlib.Omega.{arith}
use lib.ListN.{length}
use Rattle.rules.specs.Basic.{pick}
use Rattle.rules.specs.Film.{Rec, film_bytes, rec_bits}
use Rattle.rules.specs.Bits.{bytes}
use Rattle.rules.specs.WireRules.{over, overs, Linked, WireRules, Tidy}
use Rattle.rules.specs.Answers.{Reordered}

module _ {A : Type 0} where
  pub turned : {xs ys : List A} → Reordered xs ys → Reordered ys xs
  turned Reordered.nil = Reordered.nil
  turned (Reordered.cons r) = Reordered.cons (turned r)
  turned Reordered.swap = Reordered.swap
  turned (Reordered.both r q) = Reordered.both (turned q) (turned r)

  pub length-same : {xs ys : List A} → Reordered xs ys → length xs ≡ length ys
  length-same Reordered.nil = refl
  length-same (Reordered.cons r) = ap suc (length-same r)
  length-same Reordered.swap = refl
  length-same (Reordered.both r q) = length-same r ∙ length-same q

  -- a member of x ∷ xs is x or one of xs
  split : {a x : A} {xs zs : List A} → (a ≡ x → Memᴰ a zs) → (Memᴰ a xs → Memᴰ a zs) → Memᴰ a (x ∷ xs) → Memᴰ a zs
  split {a} {x} {xs} {zs} f g m = go (Memᴰ.cases_cons m)
    where
      go : (a ≡ x) ⊎ Memᴰ a xs → Memᴰ a zs
      go (inl e) = f e
      go (inr d) = g d

  pub among : {a : A} {xs ys : List A} → Reordered xs ys → Memᴰ a xs → Memᴰ a ys
  among Reordered.nil m = m
  among (Reordered.cons r) m = split (λ e. Memᴰ.head e) (λ d. Memᴰ.tail (among r d)) m
  among Reordered.swap m =
      split (λ e. Memᴰ.tail (Memᴰ.head e)) (λ d. split (λ e. Memᴰ.head e) (λ d. Memᴰ.tail (Memᴰ.tail d)) d) m
  among (Reordered.both r q) m = among q (among r m)

overs-same : {xs ys : List Rec} (net c : ℕ) → Reordered xs ys → overs net c xs ≡ overs net c ys
unfolding overs
overs-same net c Reordered.nil = refl
overs-same net c (Reordered.cons {x} r) = ap (λ n. pick (over net c x) 1 0 + n) (overs-same net c r)
overs-same net c (Reordered.swap {x} {y} {xs}) = omega arith
overs-same net c (Reordered.both r q) = overs-same net c r ∙ overs-same net c q

module _ {xs ys : List Rec} (same : Reordered xs ys) where
  linked : {net x y x' y' : ℕ} → Linked net ys x y x' y' → Linked net xs x y x' y'
  linked (Linked.on_one r m n a b) = Linked.on_one r (among (turned same) m) n a b
  linked (Linked.by_way v w a b) = Linked.by_way v w (linked a) (linked b)

  pub rules-same : {pitch ku kl : ℕ} {pins : List (Option ℕ)} → WireRules pitch ku kl pins ys → WireRules pitch ku kl pins xs
  rules-same w =
      record {
        apart = λ r r' x y m m'. w.apart r r' x y (among same m) (among same m');
        own = λ r i m. w.own r i (among same m);
        joins = λ net i j e e'. linked (w.joins net i j e e');
        cuts = λ net c. omega (arith, w.cuts net c, overs-same net c same);
        tracks = λ n h l r m. w.tracks n h l r (among same m);
      }

  pub tidy-same : {ku kl : ℕ} → Tidy ku kl ys → Tidy ku kl xs
  tidy-same t =
      record {
        wide = λ n h l r m. t.wide n h l r (among same m);
        tall = λ n l x h m. t.tall n l x h (among same m);
        filled = λ n h l r n' l' r' m m'. t.filled n h l r n' l' r' (among same m) (among same m');
      }

-- the bytes of a film added up
unfoldable pub total : List ℕ → ℕ
total [] = 0
total (x ∷ l) = x + total l

pub total-append : (a b : List ℕ) → total (a ++ b) ≡ total a + total b
unfolding total
total-append [] b = omega arith
total-append (x ∷ a) b = omega (arith, total-append a b)

pub total-same : {xs ys : List Rec} → Reordered xs ys → total (film_bytes xs) ≡ total (film_bytes ys)
unfolding film_bytes
total-same Reordered.nil = refl
total-same (Reordered.cons {x} {xs} {ys} r) =
    omega (arith, total-same r, total-append (bytes (rec_bits x)) (film_bytes xs), total-append (bytes (rec_bits x)) (film_bytes ys))
total-same (Reordered.swap {x} {y} {xs}) =
    omega (
      arith,
      total-append (bytes (rec_bits x)) (bytes (rec_bits y) ++ film_bytes xs),
      total-append (bytes (rec_bits y)) (film_bytes xs),
      total-append (bytes (rec_bits y)) (bytes (rec_bits x) ++ film_bytes xs),
      total-append (bytes (rec_bits x)) (film_bytes xs),
    )
total-same (Reordered.both r q) = total-same r ∙ total-same q
