-- Records in a row fill the start of a film that has room for them, and stamps at two places commute, so that the laying of a sheet's records leaves its film.
use mathlib.Core.Path.{◌≡◌, refl, sym, ap, ap₂, ◌∙◌}
use mathlib.Core.Bool.{Bool, true, false}
use mathlib.Core.List.{List, [], ◌∷◌, ◌++◌, append_assoc}
use mathlib.Core.Logic.{◌⊎◌, inl, inr, ◌≢◌}
use mathlib.Core.Option.{none}
use Prim.Native.Nat.{ℕ, zero, suc, ◌+◌, ◌*◌, ◌≤◌, ◌<◌}
use native.Mathlib.Nat.{add-zero}
use native.Mathlib.Omega.{arith}
use lib.ListN.{length, set, take, drop, take-append-drop, get_or-replicate}
use lib.Seq.{sets, sets-eq, set_comm, take_all, drop-drop, paste, take-paste, drop-paste, length-paste}
use lib.Dec.{leb, eqb}
use borrow.Author.Tests.{le-leb, leb-true}
use Rattle.rules.specs.Basic.{pick}
use Rattle.rules.specs.Bits.{bytes}
use Rattle.rules.specs.Film.{Rec, across, upright, rec_bits, records, film_bytes}
use Rattle.rules.specs.FilmOrder.{film_of}
use Rattle.rules.specs.Judgement.{judge}
use Rattle.rules.specs.Answers.{written}
use Rattle.rules.proofs.Fields.{length-bytes}
use Rattle.rules.proofs.FilmBytes.{rec_bits-length, length-film_bytes}
use Rattle.wires.specs.Laying.{Laying, unopened, in_slot, with_vertical, lay, laid, in_row, first_slot}
use Rattle.wires.proofs.Among.{lt-or-ge}
use Rattle.wires.proofs.Ranks.{Commute}
use Rattle.wires.proofs.LaidAlike.{laid-alike}
use Rattle.wires.proofs.FilmOrder.{film-length, sheet-in-order, sheet-nets}
use Rattle.slots.specs.Stamps.{stamp, stamped}
use Rattle.slots.specs.Slots.{lent, read, laying, none-held}
use Rattle.slots.proofs.Stamping.{stamp-short}

five : (r : Rec) → length (bytes (rec_bits r)) ≡ 5
five r = length-bytes 5 (rec_bits r) (rec_bits-length r)

-- ---- a stamp

stamp-within : (film : List ℕ) (i : ℕ) (r : Rec) → 5 * i + 5 ≤ length film → stamp film i (rec_bits r) ≡ paste film (5 * i) (bytes (rec_bits r)) 5
unfolding stamp pick
stamp-within film i r h = rw (le-leb (5 * i + 5) (length film) h)

pub stamp-length : (film : List ℕ) (i : ℕ) (r : Rec) → length (stamp film i (rec_bits r)) ≡ length film
unfolding stamp pick
stamp-length film i r = go (leb (5 * i + 5) (length film)) refl
  where
    go : (b : Bool) → leb (5 * i + 5) (length film) ≡ b → length (pick b (paste film (5 * i) (bytes (rec_bits r)) 5) film) ≡ length film
    go true e = length-paste film (5 * i) (bytes (rec_bits r)) 5 (leb-true (5 * i + 5) (length film) e) (omega (arith, five r))
    go false e = refl

-- ---- two runs of stores

module _ {A : Type 0} where
  set-sets : (l : List A) (i : ℕ) (vs : List A) (k : ℕ) (a : A) → (k < i) ⊎ (i + length vs ≤ k) → set (sets l i vs) k a ≡ sets (set l k a) i vs
  set-sets l i [] k a h = refl
  set-sets l i (v ∷ vs) k a h = set-sets (set l i v) (suc i) vs k a (on h) ∙ ap (λ m. sets m (suc i) vs) (set_comm l i k v a (off h))
    where
      on : (k < i) ⊎ (i + length (v ∷ vs) ≤ k) → (k < suc i) ⊎ (suc i + length vs ≤ k)
      on (inl q) = inl (omega arith)
      on (inr q) = inr (omega arith)

      off : (k < i) ⊎ (i + length (v ∷ vs) ≤ k) → i ≢ k
      off (inl q) e = omega arith
      off (inr q) e = omega arith

  sets-sets : (l : List A) (i : ℕ) (vs : List A) (j : ℕ) (ws : List A) → (j + length ws ≤ i) ⊎ (i + length vs ≤ j)
      → sets (sets l i vs) j ws ≡ sets (sets l j ws) i vs
  sets-sets l i vs j [] h = refl
  sets-sets l i vs j (w ∷ ws) h = ap (λ m. sets m (suc j) ws) (set-sets l i vs j w (off h)) ∙ sets-sets (set l j w) i vs (suc j) ws (on h)
    where
      on : (j + length (w ∷ ws) ≤ i) ⊎ (i + length vs ≤ j) → (suc j + length ws ≤ i) ⊎ (i + length vs ≤ suc j)
      on (inl q) = inl (omega arith)
      on (inr q) = inr (omega arith)

      off : (j + length (w ∷ ws) ≤ i) ⊎ (i + length vs ≤ j) → (j < i) ⊎ (i + length vs ≤ j)
      off (inl q) = inl (omega arith)
      off (inr q) = inr q

-- ---- stamps commute

stamp-sets : (film : List ℕ) (i : ℕ) (r : Rec) → 5 * i + 5 ≤ length film → stamp film i (rec_bits r) ≡ sets film (5 * i) (bytes (rec_bits r))
stamp-sets film i r h =
    stamp-within film i r h
    ∙ ap₂ (λ a k. take (5 * i) film ++ a ++ drop (5 * i + k) film) (take_all 5 (bytes (rec_bits r)) (omega (arith, five r))) (sym (five r))
    ∙ sym (sets-eq (bytes (rec_bits r)) film (5 * i) (omega (arith, five r)))

commute : Commute stamped
unfolding stamped
commute i j r q film n = go (lt-or-ge (length film) (5 * i + 5)) (lt-or-ge (length film) (5 * j + 5)) (lt-or-ge i j)
  where
    si : length (stamp film i (rec_bits r)) ≡ length film
    si = stamp-length film i r

    sj : length (stamp film j (rec_bits q)) ≡ length film
    sj = stamp-length film j q

    go : (length film < 5 * i + 5) ⊎ (5 * i + 5 ≤ length film) → (length film < 5 * j + 5) ⊎ (5 * j + 5 ≤ length film) → (i < j) ⊎ (j ≤ i)
        → stamp (stamp film j (rec_bits q)) i (rec_bits r) ≡ stamp (stamp film i (rec_bits r)) j (rec_bits q)
    go (inl a) b o =
        sym (stamp-short (stamp film j (rec_bits q)) (rec_bits r) i (omega (arith, sj))) ∙ ap (λ f. stamp f j (rec_bits q)) (stamp-short film (rec_bits r) i a)
    go (inr a) (inl b) o =
        ap (λ f. stamp f i (rec_bits r)) (sym (stamp-short film (rec_bits q) j b)) ∙ stamp-short (stamp film i (rec_bits r)) (rec_bits q) j (omega (arith, si))
    go (inr a) (inr b) o =
        stamp-sets (stamp film j (rec_bits q)) i r (omega (arith, sj)) ∙ ap (λ f. sets f (5 * i) (bytes (rec_bits r))) (stamp-sets film j q b)
        ∙ sets-sets film (5 * j) (bytes (rec_bits q)) (5 * i) (bytes (rec_bits r)) (apart o)
        ∙ sym (stamp-sets (stamp film i (rec_bits r)) j q (omega (arith, si)) ∙ ap (λ f. sets f (5 * j) (bytes (rec_bits q))) (stamp-sets film i r a))
      where
        apart : (i < j) ⊎ (j ≤ i) → (5 * i + length (bytes (rec_bits r)) ≤ 5 * j) ⊎ (5 * j + length (bytes (rec_bits q)) ≤ 5 * i)
        apart (inl h) = inl (omega (arith, five r))
        apart (inr h) = inr (omega (arith, five q))

-- ---- records in a row

row-filled : (rs : List Rec) (film : List ℕ) (i : ℕ) → 5 * (i + length rs) ≤ length film
    → in_row stamped i rs film ≡ take (5 * i) film ++ (film_bytes rs ++ drop (5 * i + 5 * length rs) film)
unfolding in_row stamped film_bytes
row-filled [] film i h =
    sym (ap (λ (k : ℕ). take (5 * i) film ++ drop k film) (add-zero (5 * i)) ∙ take-append-drop (5 * i) film)
row-filled (r ∷ rs) film i h =
    let b : List ℕ = bytes (rec_bits r) in
    let after : List ℕ = paste film (5 * i) b 5 in
    let n : length b ≡ 5 = five r in
    let put : stamp film i (rec_bits r) ≡ after = stamp-within film i r (omega arith) in
    let next : 5 * suc i ≡ 5 * i + 5 = omega arith in
    let far : 5 * suc i + 5 * length rs ≡ 5 * i + 5 * suc (length rs) = omega arith in
    let front : take (5 * suc i) after ≡ take (5 * i) film ++ b =
    ap (λ (k : ℕ). take k after) next ∙ take-paste film (5 * i) b 5 (omega arith) (omega arith)
    ∙ ap (λ (l : List ℕ). take (5 * i) film ++ l) (take_all 5 b (omega arith)) in
    let back : drop (5 * suc i + 5 * length rs) after ≡ drop (5 * i + 5 * suc (length rs)) film =
    sym (drop-drop (5 * length rs) (5 * suc i) after)
    ∙ ap (drop (5 * length rs)) (ap (λ (k : ℕ). drop k after) next ∙ drop-paste film (5 * i) b 5 (omega arith) (omega arith) ∙ ap (λ (k : ℕ). drop k film) (sym next))
    ∙ drop-drop (5 * length rs) (5 * suc i) film
    ∙ ap (λ (k : ℕ). drop k film) far in
    ap (in_row stamped (suc i) rs) put
    ∙ row-filled rs after (suc i) (omega (arith, ap length put, stamp-length film i r))
    ∙ ap₂ (λ (x y : List ℕ). x ++ (film_bytes rs ++ y)) front back
    ∙ append_assoc (take (5 * i) film) b (film_bytes rs ++ drop (5 * i + 5 * suc (length rs)) film)
    ∙ ap (λ (l : List ℕ). take (5 * i) film ++ l) (sym (append_assoc b (film_bytes rs) (drop (5 * i + 5 * suc (length rs)) film)))

pub row_written : (rs : List Rec) (film : List ℕ) → 5 * length rs ≤ length film → in_row stamped 0 rs film ≡ written (film_bytes rs) film
unfolding written
row_written rs film h =
    let n : 5 * 0 + 5 * length rs ≡ length (film_bytes rs) = omega (arith, length-film_bytes rs) in
    row-filled rs film 0 (omega arith) ∙ ap (λ (k : ℕ). film_bytes rs ++ drop k film) n

-- ---- records laid in their slots

in_slot-length : (k : ℕ) (r : Rec) (film : List ℕ) → length (in_slot stamped k r film) ≡ length film
unfolding in_slot stamped
in_slot-length zero r film = refl
in_slot-length (suc k) r film = stamp-length film k r

lay-length : (d : Laying (List ℕ)) (r : Rec) → length (lay stamped d r).film ≡ length d.film
unfolding lay with_vertical
lay-length d (across n h x y) = in_slot-length (d.held n) (across n h x y) d.film
lay-length d (upright n l x h) = go (eqb (d.held n) 0)
  where
    go : (b : Bool) → length (with_vertical stamped b n (upright n l x h) d).film ≡ length d.film
    go true = in_slot-length (d.next n) (upright n l x h) d.film
    go false = in_slot-length (d.next n) (upright n l x h) d.film

-- a film keeps its length
pub laid-length : (d : Laying (List ℕ)) (rs : List Rec) → length (laid stamped d rs).film ≡ length d.film
unfolding laid
laid-length d [] = refl
laid-length d (r ∷ rs) = laid-length (lay stamped d r) rs ∙ lay-length d r

-- from each net's first slot on, the records of an accepted sheet are laid as its film
pub sheet-written : (s film next : List ℕ) → judge s ≡ none → 5 * length (records 16 s) ≤ length film
    → ((n : ℕ) → n < 256 → read next n ≡ first_slot (records 16 s) n)
    → (laid stamped (laying (lent film next none-held none-held)) (records 16 s)).film ≡ written (film_bytes (film_of 16 s)) film
unfolding unopened
sheet-written s film next e h f =
    (laid-alike stamped {d = laying (lent film next none-held none-held)} {d' = unopened film (first_slot (records 16 s))} (sheet-nets s e)
    (record { film = refl; next = f; held = λ n k. get_or-replicate 256 n 0 0 k })).film
    ∙ sheet-in-order s e stamped film commute
    ∙ row_written (film_of 16 s) film (omega (arith, film-length s))
