-- The drawer's answer, test by test, with the film's bytes: records laid on a film that has room for them fill its start.
use mathlib.Core.Path.{◌≡◌, refl, ◌∙◌}
use mathlib.Core.List.{List, [], ◌∷◌}
use mathlib.Core.Option.{none, some}
use Prim.Native.Nat.{ℕ, suc, ◌*◌, ◌≤◌, ◌<◌}
use native.Mathlib.Omega.{arith}
use lib.ListN.{length}
use borrow.Author.Tests.{lt-ltb, le-ltb}
use Rattle.std.specs.declared.result.Result.TheVariants.{Ok, Err}
use Rattle.rules.specs.declared.Fault.{Fault}
use Rattle.rules.specs.declared.DrawError.{DrawError}
use Rattle.rules.specs.Basic.{keep, or_else, settle}
use Rattle.rules.specs.Sheet.{upper_of, entries_of}
use Rattle.rules.specs.Film.{Rec, rec_bits, records, film_bytes}
use Rattle.rules.specs.Judgement.{judge}
use Rattle.rules.specs.Answers.{written, drawing, Reordered, FilmAfter}
use Rattle.sheet.specs.Fields.{entries_in}
use Rattle.slots.specs.Stamps.{stamp, stamped}
use Rattle.slots.proofs.FilmBytes.{row_written}
use Rattle.wires.specs.Laying.{in_row}
use Rattle.film.specs.Stamps.{laid}
use Rattle.film.specs.Walks.{pitch, records_in, Drawn}

-- records laid from record i on are records in a row
laid-row : (rs : List Rec) (film : List ℕ) (i : ℕ) → laid film i rs ≡ in_row stamped i rs film
unfolding laid in_row stamped
laid-row [] film i = refl
laid-row (r ∷ rs) film i = laid-row rs (stamp film i (rec_bits r)) (suc i)

pub laid-written : (rs : List Rec) (film : List ℕ) → 5 * length rs ≤ length film → laid film 0 rs ≡ written (film_bytes rs) film
laid-written rs film h = laid-row rs film 0 ∙ row_written rs film h

-- every list is itself in some order
pub reordered-same {ℓ} : {A : Type ℓ} (l : List A) → Reordered l l
reordered-same [] = Reordered.nil
reordered-same (x ∷ l) = Reordered.cons (reordered-same l)

-- ---- a sheet's nodes

-- with a sheet's entries, their records are the sheet's
pub nodes-records : (s fs : List ℕ) {ku : ℕ} → ku ≡ upper_of s → entries_in fs ≡ entries_of s → records_in ku fs ≡ records pitch s
unfolding records
nodes-records s fs e p = rw (e, p)

-- ---- the answers

module _ (s film : List ℕ) where
  pub draw-unfit : {e : Fault} → judge s ≡ some e → Drawn s film (Err (DrawError.Unfit e)) film
  unfolding drawing FilmAfter settle or_else
  draw-unfit h = record { answer = rw h; bytes = refl }

  module _ (h : judge s ≡ none) {k : ℕ} (n : k ≡ length (records pitch s)) where
    pub draw-short : length film < 5 * k → Drawn s film (Err DrawError.FilmShort) film
    unfolding drawing FilmAfter settle or_else keep
    draw-short l =
        let m : length film < 5 * length (records pitch s) = omega arith in
        record { answer = rw (h, lt-ltb (length film) (5 * length (records pitch s)) m); bytes = refl }

    pub draw-fine : 5 * k ≤ length film → {after : List ℕ} → after ≡ laid film 0 (records pitch s) → Drawn s film (Ok k) after
    unfolding drawing FilmAfter settle or_else keep
    draw-fine l e =
        let m : 5 * length (records pitch s) ≤ length film = omega arith in
        record {
          answer = rw (h, le-ltb (length film) (5 * length (records pitch s)) m, n);
          bytes = (records pitch s, reordered-same (records pitch s), e ∙ laid-written (records pitch s) film m);
        }
