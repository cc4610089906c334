-- Demand 2: the reader takes exactly the sheets of placings with at most 255 nets and gives their pins back, and what is drawn obeys the wire rules.
use mathlib.Core.Path.{◌≡◌, refl, sym, ap, ◌∙◌, subst}
use mathlib.Core.Bool.{Bool, true, false}
use mathlib.Core.List.{List, ◌++◌}
use mathlib.Core.Option.{Option, none, some, map}
use Prim.Native.Nat.{ℕ, ◌*◌}
use native.Mathlib.Omega.{arith}
use lib.ListN.{length, take, drop}
use lib.Seq.{take-append_seam}
use lib.Dec.{ltb}
use Rattle.std.specs.declared.result.Result.TheVariants.{Ok, Err}
use Rattle.rules.specs.declared.DrawError.{DrawError}
use Rattle.rules.specs.declared.ReadError.{ReadError}
use Rattle.rules.specs.declared.Fault.{Fault}
use Rattle.rules.specs.Answers.{unread, undrawn}
use Rattle.rules.specs.Basic.{keep, or_else, settle}
use Rattle.rules.specs.Row.{SamePins}
use Rattle.rules.specs.Sheet.{count_of, row_of}
use Rattle.rules.specs.Film.{records}
use Rattle.rules.specs.Judgement.{head, room, middle, tail, judge, crowded, readable}
use Rattle.rules.specs.Answers.{written, reading, row_after, drawing, FilmAfter}
use Rattle.rules.proofs.Accepted.{readable-exactly, given-pins}
use Rattle.rules.proofs.Demand2.{read-passes, read-exactly}
use Rattle.sheet.proofs.Walks.{length-row}
use Rattle.wires.proofs.Obeyed.{sheet-rules, sheet-tidy}
use Rattle.demands.specs.Demands.{ReaderCall, DrawerCall, Obeying, Demand2}
use Rattle.demands.proofs.Reorder.{length-same, rules-same, tidy-same}

-- the reader's place, where it accepts, is the sheet's node count
row_count : (s row : List ℕ) (n : ℕ) → reading s row ≡ Ok n → n ≡ count_of s
unfolding reading or_else keep settle
row_count s row n = go (head s) (room s row) (or_else (middle s) (or_else (tail s) (crowded s)))
  where
    go : (a : Option Fault) (t : Bool) (b : Option Fault)
        → settle (or_else (map unread a) (or_else (keep t (Err ReadError.RowShort)) (map unread b))) (Ok (count_of s)) ≡ Ok n
        → n ≡ count_of s
    go (some f) t b e = let z : ◌≡◌ {A = ℕ} 0 1 = cc in absurd (omega arith)
    go none true b e = let z : ◌≡◌ {A = ℕ} 0 1 = cc in absurd (omega arith)
    go none false (some f) e = let z : ◌≡◌ {A = ℕ} 0 1 = cc in absurd (omega arith)
    go none false none e = cc

-- a sheet whose row is given back passes the reader's rules
readable-back : {s : List ℕ} (c : ReaderCall s) (n : ℕ) → c.answer ≡ Ok n → readable s ≡ none
readable-back {s} c n e =
    let q = sym c.meets.answer ∙ e in
    ((read-passes s c.row).0 (q ∙ ap Ok (row_count s c.row n q))).0

-- the row that is given back stands at the start of its buffer
pub row_back : {s : List ℕ} (c : ReaderCall s) (n : ℕ) → c.answer ≡ Ok n → take n c.row' ≡ row_of s
unfolding row_after written
row_back {s} c n e =
    let k : n ≡ length (row_of s) = row_count s c.row n (sym c.meets.answer ∙ e) ∙ sym (length-row s) in
    ap (take n) (c.meets.bytes ∙ ap (λ r. row_after r s c.row) e)
    ∙ ap (λ i. take i (row_of s ++ drop (length (row_of s)) c.row)) k
    ∙ take-append_seam (row_of s) (drop (length (row_of s)) c.row)

-- a film is drawn of a sheet without a fault, and the place is the count of its records
pub film-count : (s film : List ℕ) (k : ℕ) → drawing s film ≡ Ok k → (judge s ≡ none) × (k ≡ length (records 16 s))
unfolding drawing or_else keep settle
film-count s film k = go (judge s) (ltb (length film) (5 * length (records 16 s)))
  where
    go : (j : Option Fault) (t : Bool)
        → settle (or_else (map undrawn j) (keep t (Err DrawError.FilmShort))) (Ok (length (records 16 s))) ≡ Ok k
        → (j ≡ none) × (k ≡ length (records 16 s))
    go (some f) t e = let z : ◌≡◌ {A = ℕ} 0 1 = cc in absurd (omega arith)
    go none true e = let z : ◌≡◌ {A = ℕ} 0 1 = cc in absurd (omega arith)
    go none false e = (refl, cc)

pub film-obeys : {s : List ℕ} (c : DrawerCall s) (k : ℕ) → c.answer ≡ Ok k → Obeying s c.film c.film' k
unfolding FilmAfter
film-obeys {s} c k e =
    let f = film-count s c.film k (sym c.meets.answer ∙ e) in
    let a : FilmAfter (Ok k) s c.film c.film' = subst (λ r. FilmAfter r s c.film c.film') e c.meets.bytes in
    record {
      rs = a.0;
      bytes = a.2;
      count = length-same a.1 ∙ sym f.1;
      rules = rules-same a.1 (sheet-rules s f.0);
      tidy = tidy-same a.1 (sheet-tidy s f.0);
    }

pub demand-2 : Demand2
demand-2 =
    record {
      accepted = λ {s} c h.
          let x = read-exactly s c.row c.bytes h in
          (λ e. x.0 (sym c.meets.answer ∙ e), λ p. c.meets.answer ∙ x.1 p);
      given_back = λ {s} c n e x. subst (SamePins x.row) (sym (row_back c n e)) (given-pins s x ((readable-exactly s).0 (readable-back c n e)).1);
      drawn = λ c k e. film-obeys c k e;
    }
