-- What holds of every element of a list, lists that have one element more than another, wherever it stands, and lists in another order.
use mathlib.Core.Path.{◌≡◌, refl, sym, ap, ◌∙◌, subst}
use mathlib.Core.Bool.{Bool, true, false}
use mathlib.Core.List.Memᴰ
use mathlib.Core.List.{List, [], ◌∷◌, ◌++◌, Memᴰ}
use mathlib.Core.Logic.{◌⊎◌, inl, inr, ◌↔◌}
use Prim.Native.Nat.{ℕ, zero, suc, ◌≤◌, ◌<◌}
use native.Mathlib.Omega.{arith}
use lib.ListN.{length, get_or}
use lib.Dec.{ltb}
use borrow.Author.Tests.{ltb-true, ltb-false}
use Rattle.rules.specs.Basic.{put, cut}

pub data All {A : Type 0} (P : A → Type 0) : List A → Type 0 where
  nil : All P []
  cons : {x : A} {l : List A} → P x → All P l → All P (x ∷ l)

-- w stands once more in the second list than in the first, and nothing else differs
pub data More {A : Type 0} (w : A) : List A → List A → Type 0 where
  here : {l : List A} → More w l (w ∷ l)
  there : {v : A} {l m : List A} → More w l m → More w (v ∷ l) (v ∷ m)

module _ {A : Type 0} {P : A → Type 0} where
  pub all-at : {v : A} {l : List A} → All P l → Memᴰ v l → P v
  all-at nil m = elim m [ ]
  all-at (cons p a) (Memᴰ.head e) = subst P (sym e) p
  all-at (cons p a) (Memᴰ.tail m) = all-at a m

  pub all_append : {l m : List A} → All P l → All P m → All P (l ++ m)
  all_append nil b = b
  all_append (cons p a) b = cons p (all_append a b)

  pub all_left : (l m : List A) → All P (l ++ m) → All P l
  all_left [] m a = nil
  all_left (x ∷ l) m (cons p a) = cons p (all_left l m a)

  pub all_right : (l m : List A) → All P (l ++ m) → All P m
  all_right [] m a = a
  all_right (x ∷ l) m (cons p a) = all_right l m a

  pub all_more : {w : A} {l m : List A} → More w l m → P w → All P l → All P m
  all_more here p a = cons p a
  all_more (there k) p (cons q a) = cons q (all_more k p a)

  pub all-less : {w : A} {l m : List A} → More w l m → All P m → All P l
  all-less here (cons p a) = a
  all-less (there k) (cons p a) = cons p (all-less k a)

-- what holds of each member holds of all
pub all_from : {A : Type 0} {P : A → Type 0} (l : List A) → ((v : A) → Memᴰ v l → P v) → All P l
all_from [] f = nil
all_from (x ∷ l) f = cons (f x (Memᴰ.head refl)) (all_from l (λ v m. f v (Memᴰ.tail m)))

pub all_map : {A : Type 0} {P Q : A → Type 0} → ((x : A) → P x → Q x) → {l : List A} → All P l → All Q l
all_map f nil = nil
all_map f (cons {x} p a) = cons (f x p) (all_map f a)

module _ {A : Type 0} {w : A} where
  pub more-cases : {v : A} {l m : List A} → More w l m → Memᴰ v m → (v ≡ w) ⊎ Memᴰ v l
  more-cases here (Memᴰ.head e) = inl e
  more-cases here (Memᴰ.tail d) = inr d
  more-cases (there k) (Memᴰ.head e) = inr (Memᴰ.head e)
  more-cases (there k) (Memᴰ.tail d) = down (more-cases k d)
    where
      down : {v x : A} {l : List A} → (v ≡ w) ⊎ Memᴰ v l → (v ≡ w) ⊎ Memᴰ v (x ∷ l)
      down (inl e) = inl e
      down (inr d) = inr (Memᴰ.tail d)

  pub more-in : {l m : List A} → More w l m → Memᴰ w m
  more-in here = Memᴰ.head refl
  more-in (there k) = Memᴰ.tail (more-in k)

  pub more-still : {v : A} {l m : List A} → More w l m → Memᴰ v l → Memᴰ v m
  more-still here d = Memᴰ.tail d
  more-still (there k) (Memᴰ.head e) = Memᴰ.head e
  more-still (there k) (Memᴰ.tail d) = Memᴰ.tail (more-still k d)

  pub more-mid : (us ws : List A) → More w (us ++ ws) (us ++ w ∷ ws)
  more-mid [] ws = here
  more-mid (u ∷ us) ws = there (more-mid us ws)

  pub more-length : {l m : List A} → More w l m → length m ≡ suc (length l)
  more-length here = refl
  more-length (there k) = ap suc (more-length k)

-- one list is the other in some order
pub data Reordered {A : Type 0} : List A → List A → Type 0 where
  empty : Reordered [] []
  also : {x : A} {l m n : List A} → Reordered l m → More x m n → Reordered (x ∷ l) n

module _ {A : Type 0} where
  pub all-reordered : {P : A → Type 0} {l m : List A} → Reordered l m → All P l → All P m
  all-reordered empty nil = nil
  all-reordered (also r k) (cons p a) = all_more k p (all-reordered r a)

  pub reordered-length : {l m : List A} → Reordered l m → length m ≡ length l
  reordered-length empty = refl
  reordered-length (also r k) = more-length k ∙ ap suc (reordered-length r)

  from-reordered : {v : A} {l m : List A} → Reordered l m → Memᴰ v m → Memᴰ v l
  from-reordered {v} {l} r = all-at (all-reordered r (all_from l (λ w d. d)))

  to-reordered : {v : A} {l m : List A} → Reordered l m → Memᴰ v l → Memᴰ v m
  to-reordered empty d = absurd (Memᴰ.not-nil d)
  to-reordered (also r k) (Memᴰ.head e) = Memᴰ.cast e (more-in k)
  to-reordered (also r k) (Memᴰ.tail d) = more-still k (to-reordered r d)

  pub reordered-members : {l m : List A} → Reordered l m → (v : A) → Memᴰ v l ↔ Memᴰ v m
  reordered-members r v = (to-reordered r, from-reordered r)

-- what was put in, and what is cut out, is the one more
pub more-put : {A : Type 0} (k : ℕ) (w : A) (o : List A) → More w o (put k w o)
unfolding put
more-put zero w o = here
more-put (suc k) w [] = here
more-put (suc k) w (y ∷ o) = there (more-put k w o)

pub more_cut : {A : Type 0} (k : ℕ) (o : List A) (d : A) → k < length o → More (get_or o k d) (cut k o) o
unfolding cut
more_cut k [] d h = absurd (omega arith)
more_cut zero (y ∷ o) d h = here
more_cut (suc k) (y ∷ o) d h = there (more_cut k o d (omega arith))

pub lt-or-ge : (a b : ℕ) → (a < b) ⊎ (b ≤ a)
lt-or-ge a b = go (ltb a b) refl
  where
    go : (t : Bool) → ltb a b ≡ t → (a < b) ⊎ (b ≤ a)
    go true e = inl (ltb-true a b e)
    go false e = inr (ltb-false a b e)
