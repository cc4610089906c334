-- Each contract has one answer, up to the film's order, and no impostor of document 01 meets its contract.
use mathlib.Core.Path.{◌≡◌, refl, sym, ap, ◌∙◌, subst}
use mathlib.Core.Bool.{Bool, true, false}
use mathlib.Core.List.{List, [], ◌∷◌, ◌++◌}
use Prim.Native.Nat.{ℕ, suc, ◌+◌, ◌-◌, ◌*◌, ◌≤◌, ◌<◌}
use native.Mathlib.Omega.{arith}
use lib.ListN.{length, get_or, drop, replicate, length-append}
use lib.Dec.{ltb}
use borrow.Author.Tests.{le-ltb, ltb-true}
use Rattle.std.specs.declared.result.Result.TheVariants.{Ok, Err}
use Rattle.rules.specs.declared.DrawError.{DrawError}
use Rattle.rules.specs.Answers.{Routing}
use Rattle.rules.specs.declared.RouteError.TheVariants.{Stuck}
use Rattle.rules.specs.Answers.{Drawing}
use Rattle.rules.specs.declared.DrawError.TheVariants.{FilmShort}
use Rattle.rules.specs.Basic.{pick, tabulate, every, least, put, cut, keep, and_then, or_else, is_none, settle}
use Rattle.rules.specs.declared.Kind.{Kind}
use Rattle.rules.specs.declared.Kind.TheVariants.{B, M, E, N}
use Rattle.rules.specs.Row.{before, has, blank, joined, home, later, kind_of, node_at, nodes, lone}
use Rattle.rules.specs.Street.{limits, met, last, limits_at, fits_at, counted, stands, next, kind, step, first_from, also, way, empty, first, failing}
use Rattle.rules.specs.Bits.{digits, val, pack, unpack, Below, nil, cons}
use Rattle.rules.specs.Sheet.{takes, code, kind_in, Entry, entry, entries, entry_bits, size, padding, sheet_bits, sheet, upper_of, lower_of, count_of, entry_at, entries_of, padding_of, begun, begun_by, nets_of, net_at, nets, pins_of, label, row_of}
use Rattle.rules.specs.Film.{Wire, axis, upper, upper_at, height_at, target, Rec, ran, wall, bent, drawn, climb, sink, gap, opened, closed, marks, draw, records, rec_bits, film_bytes}
use Rattle.rules.specs.Judgement.{wrong_count, head, room, broken, fault_at, left, scan, left_open, tail, middle, judge, crowded, readable}
use Rattle.rules.specs.Answers.{written, first_lone, refusal, outcome, routing, first_sheet, work_after, sheet_after, reading, row_after, drawing, FilmAfter, alike, same_pins, agrees}
use Rattle.rules.proofs.Fields.{below-replicate}
use Rattle.demands.specs.Demands.{Checked, Filmed}
use Rattle.demands.proofs.Reorder.{total, total-append, total-same}
use Rattle.demands.proofs.Demand2.{film-count}
use Rattle.demands.specs.Impostors.{Lent, Bytes, Router, MeetsRouter, Fair, AlwaysSix, BeforeLooking, FixedSheet, NothingWritten, Reader, MeetsReader, TurnsDown, MeetsAgreement, Drawer, MeetsDrawer, NothingDrawn, SaysEmpty, Invented, Hasty}

-- Two functions that meet one contract give the same.

pub one-router : (f g : Router) → MeetsRouter f → MeetsRouter g → (l : Lent) → Bytes l
    → (f.answer l ≡ g.answer l) × (f.work l ≡ g.work l) × (f.sheet l ≡ g.sheet l)
one-router f g m n l b =
    let x = m l b in
    let y = n l b in
    let e = x.answer ∙ sym y.answer in (
      e,
      x.cleared ∙ ap (λ r. work_after r l.row l.work) e ∙ sym y.cleared,
      x.written ∙ ap (λ r. sheet_after r l.row l.ku l.kl l.sheet) e ∙ sym y.written,
    )

pub one_reader : (f g : Reader) → MeetsReader f → MeetsReader g → (s row : List ℕ) → Below 256 s → Below 256 row
    → (f.answer s row ≡ g.answer s row) × (f.row s row ≡ g.row s row)
one_reader f g m n s row b c =
    let x = m s row b c in
    let y = n s row b c in
    let e = x.answer ∙ sym y.answer in
    (e, x.bytes ∙ ap (λ r. row_after r s row) e ∙ sym y.bytes)

pub one-agreement : (f g : List ℕ → List ℕ → Bool) → MeetsAgreement f → MeetsAgreement g → (row s : List ℕ) → Below 256 row → Below 256 s
    → f row s ≡ g row s
one-agreement f g m n row s b c = m row s b c ∙ sym (n row s b c)

-- of the drawer the answers are the same, a film that is left is the same, and two films that are drawn have the same records
pub data SameFilms (film a b : List ℕ) : Type 0 where
  untouched : a ≡ film → b ≡ film → SameFilms film a b
  filled : (s : List ℕ) → Filmed (records 16 s) film a → Filmed (records 16 s) film b → SameFilms film a b

same-films : (s film : List ℕ) (r : Drawing) (a b : List ℕ) → FilmAfter r s film a → FilmAfter r s film b → SameFilms film a b
unfolding FilmAfter
same-films s film (Ok k) a b x y =
    filled s (record { order = x.0; same = x.1; bytes = x.2 }) (record { order = y.0; same = y.1; bytes = y.2 })
same-films s film (Err FilmShort) a b x y = untouched x y
same-films s film (Err (DrawError.Unfit e)) a b x y = untouched x y

pub one-drawer : (f g : Drawer) → MeetsDrawer f → MeetsDrawer g → (s film : List ℕ) → Below 256 s → Below 256 film
    → (f.answer s film ≡ g.answer s film) × SameFilms film (f.film s film) (g.film s film)
one-drawer f g m n s film b c =
    let x = m s film b c in
    let y = n s film b c in
    let e = x.answer ∙ sym y.answer in
    (e, same-films s film (g.answer s film) (f.film s film) (g.film s film) (subst (λ r. FilmAfter r s film (f.film s film)) e x.bytes) y.bytes)

-- Rows to put to a router, with buffers of zeros that are exactly large enough.

abbrev pub asked : (row : List ℕ) (ku kl : ℕ) → Lent
asked row ku kl = record { row = row; ku = ku; kl = kl; work = replicate (90 * length row) 0; sheet = replicate (size (length row)) 0 }

pub asked-bytes : (row : List ℕ) (ku kl : ℕ) → Below 256 row → ku < 256 → kl < 256 → Bytes (asked row ku kl)
asked-bytes row ku kl b u l =
    record { row = b; upper = u; lower = l; work = below-replicate (90 * length row) (omega arith); sheet = below-replicate (size (length row)) (omega arith) }

abbrev aa : List ℕ
aa = 0 ∷ 0 ∷ []

abbrev abab : List ℕ
abab = 0 ∷ 1 ∷ 0 ∷ 1 ∷ []

abbrev abba : List ℕ
abba = 0 ∷ 1 ∷ 1 ∷ 0 ∷ []

-- S1 and the same row with a track below, S4, and S5
record Known : Type 0 where
  s1 : Checked aa 1 0 (asked aa 1 0).work (asked aa 1 0).sheet
  s1-sheet : routing aa 1 0 (asked aa 1 0).work (asked aa 1 0).sheet ≡ Ok 2
  s1-bytes : first_sheet aa 1 0 ≡ 16 ∷ 2 ∷ 2 ∷ 0 ∷ []
  s1-below : Checked aa 1 1 (asked aa 1 1).work (asked aa 1 1).sheet
  s1-below-sheet : routing aa 1 1 (asked aa 1 1).work (asked aa 1 1).sheet ≡ Ok 2
  s1-below-bytes : first_sheet aa 1 1 ≡ 20 ∷ 2 ∷ 2 ∷ 0 ∷ []
  s4 : Checked abab 2 0 (asked abab 2 0).work (asked abab 2 0).sheet
  s4-stuck : routing abab 2 0 (asked abab 2 0).work (asked abab 2 0).sheet ≡ Err (Stuck 3)
  s5 : Checked abba 2 0 (asked abba 2 0).work (asked abba 2 0).sheet
  s5-sheet : routing abba 2 0 (asked abba 2 0).work (asked abba 2 0).sheet ≡ Ok 4

known : Known
unfolding pick tabulate least put cut keep and_then or_else is_none settle before has blank home later kind_of node_at nodes lone limits met last limits_at fits_at counted stands next kind step first_from also way empty first failing digits val pack unpack takes code entries entry_bits size padding sheet_bits sheet wrong_count first_lone refusal outcome routing first_sheet
known =
    record {
      s1 = refl;
      s1-sheet = refl;
      s1-bytes = refl;
      s1-below = refl;
      s1-below-sheet = refl;
      s1-below-bytes = refl;
      s4 = refl;
      s4-stuck = refl;
      s5 = refl;
      s5-sheet = refl;
    }

fair-aa : (kl : ℕ) → kl < 256 → Checked aa 1 kl (asked aa 1 kl).work (asked aa 1 kl).sheet → Fair (asked aa 1 kl)
fair-aa kl h c = (asked-bytes aa 1 kl (cons {x = 0} (omega arith) (cons {x = 0} (omega arith) nil)) (omega arith) h, c)

fair-four : (row : List ℕ) → Below 256 row → Checked row 2 0 (asked row 2 0).work (asked row 2 0).sheet → Fair (asked row 2 0)
fair-four row b c = (asked-bytes row 2 0 b (omega arith) (omega arith), c)

s1-fair : Fair (asked aa 1 0)
s1-fair = fair-aa 0 (omega arith) known.s1

s1-below-fair : Fair (asked aa 1 1)
s1-below-fair = fair-aa 1 (omega arith) known.s1-below

s4-fair : Fair (asked abab 2 0)
s4-fair =
    fair-four abab
    (cons {x = 0} (omega arith) (cons {x = 1} (omega arith) (cons {x = 0} (omega arith) (cons {x = 1} (omega arith) nil)))) known.s4

s5-fair : Fair (asked abba 2 0)
s5-fair =
    fair-four abba
    (cons {x = 0} (omega arith) (cons {x = 1} (omega arith) (cons {x = 1} (omega arith) (cons {x = 0} (omega arith) nil)))) known.s5

sheet-stuck : {n i : ℕ} → ◌≡◌ {A = Routing} (Ok n) (Err (Stuck i)) → ⊥
sheet-stuck e = let z : ◌≡◌ {A = ℕ} 0 1 = cc in omega arith

module _ (f : Router) (meets : MeetsRouter f) where
  answers : (l : Lent) (fair : Fair l) (r : Routing) → routing l.row l.ku l.kl l.work l.sheet ≡ r → f.answer l ≡ r
  answers l fair r e = (meets l fair.0).answer ∙ e

  writes : (l : Lent) (fair : Fair l) (n : ℕ) (s : List ℕ) → f.answer l ≡ Ok n → first_sheet l.row l.ku l.kl ≡ s
      → f.sheet l ≡ written s l.sheet
  unfolding sheet_after
  writes l fair n s e g =
      (meets l fair.0).written ∙ ap (λ r. sheet_after r l.row l.ku l.kl l.sheet) e ∙ ap (λ x. written x l.sheet) g

  s1-answer : f.answer (asked aa 1 0) ≡ Ok 2
  s1-answer = answers (asked aa 1 0) s1-fair (Ok 2) known.s1-sheet

  s1-below-answer : f.answer (asked aa 1 1) ≡ Ok 2
  s1-below-answer = answers (asked aa 1 1) s1-below-fair (Ok 2) known.s1-below-sheet

  s1-written : get_or (f.sheet (asked aa 1 0)) 0 0 ≡ 16
  unfolding written size
  s1-written = ap (λ x. get_or x 0 0) (writes (asked aa 1 0) s1-fair 2 (16 ∷ 2 ∷ 2 ∷ 0 ∷ []) s1-answer known.s1-bytes)

  s1-below-written : get_or (f.sheet (asked aa 1 1)) 0 0 ≡ 20
  unfolding written size
  s1-below-written = ap (λ x. get_or x 0 0) (writes (asked aa 1 1) s1-below-fair 2 (20 ∷ 2 ∷ 2 ∷ 0 ∷ []) s1-below-answer known.s1-below-bytes)

  pub not-always-six : AlwaysSix f → ⊥
  not-always-six a = sheet-stuck (sym s1-answer ∙ (a (asked aa 1 0) s1-fair).1)

  pub not-before-looking : BeforeLooking f → ⊥
  not-before-looking a =
      sheet-stuck
      (sym (answers (asked abba 2 0) s5-fair (Ok 4) known.s5-sheet)
      ∙ a (asked abba 2 0) (asked abab 2 0) s5-fair s4-fair refl refl refl
      ∙ answers (asked abab 2 0) s4-fair (Err (Stuck 3)) known.s4-stuck)

  pub not-a-fixed-sheet : FixedSheet f → ⊥
  unfolding size
  not-a-fixed-sheet a =
      let x = a.1 (asked aa 1 0) s1-fair s1-answer in
      let y = a.1 (asked aa 1 1) s1-below-fair s1-below-answer in
      let e : get_or (f.sheet (asked aa 1 0)) 0 0 ≡ get_or (f.sheet (asked aa 1 1)) 0 0 = ap (λ l. get_or l 0 0) (x ∙ sym y) in
      omega (arith, e, s1-written, s1-below-written)

  pub not-without-writing : NothingWritten f → ⊥
  unfolding size
  not-without-writing a =
      let e : get_or (f.sheet (asked aa 1 0)) 0 0 ≡ 0 = ap (λ l. get_or l 0 0) (a (asked aa 1 0) s1-fair) in
      omega (arith, e, s1-written)

-- S1's sheet, put to readers and drawers
abbrev s1 : List ℕ
s1 = 16 ∷ 2 ∷ 2 ∷ 0 ∷ []

s1-below-256 : Below 256 s1
s1-below-256 = cons {x = 16} (omega arith) (cons {x = 2} (omega arith) (cons {x = 2} (omega arith) (cons {x = 0} (omega arith) nil)))

record Seen : Type 0 where
  row : reading s1 (0 ∷ 0 ∷ []) ≡ Ok 2
  film : drawing s1 (replicate 15 0) ≡ Ok 3
  dark : total (replicate 15 0) ≡ 0
  bright : ltb 0 (total (film_bytes (records 16 s1))) ≡ true
  agreed : agrees aa s1 ≡ true
  other : agrees abab s1 ≡ false

seen : Seen
unfolding pick tabulate every least put cut keep and_then or_else is_none settle before has blank joined home later kind_of node_at nodes lone limits met last limits_at fits_at counted stands next kind digits val pack unpack takes code kind_in size upper_of lower_of count_of entry_at entries_of padding_of begun begun_by nets_of net_at nets pins_of label row_of upper upper_at height_at target ran wall bent drawn climb sink gap opened closed marks draw records rec_bits film_bytes wrong_count head room broken fault_at left scan left_open tail middle judge crowded readable reading alike same_pins agrees drawing total
seen = record { row = refl; film = refl; dark = refl; bright = refl; agreed = refl; other = refl }

module _ (f : Reader) (meets : MeetsReader f) where
  pub not-turned-down : TurnsDown f → ⊥
  not-turned-down a = a s1 aa 2 ((meets s1 aa s1-below-256 (cons {x = 0} (omega arith) (cons {x = 0} (omega arith) nil))).answer ∙ seen.row)

-- a node of a net has a stub, so that a film with a net has a record
draw-some : (pitch ku i n m : ℕ) (ws : List Wire) (es : List Entry) → m < begun_by m es → 1 ≤ length (draw pitch ku i n ws es)
unfolding draw begun_by begun marks
draw-some pitch ku i n m ws [] h = absurd (omega arith)
draw-some pitch ku i n m ws (entry f a ∷ es) h =
    let k = kind_in f in
    let u = upper_at k ku a in
    let x = pitch * i in
    let g = gap (target k u a) (pitch * (i - 1)) ws in
    let vs = opened k n (height_at u (suc a)) x a g.wires in
    let w = get_or vs a (record { net = n; height = axis; since = x }) in
    let after = draw pitch ku (suc i) (begun k n) (closed k a vs) es in
    let some : 1 ≤ length (marks k x w) + length after = go k w after (draw-some pitch ku (suc i) (begun k n) (begun k m) (closed k a vs) es) h in
    omega (arith, some, length-append g.film (marks k x w ++ after), length-append (marks k x w) after)
  where
    go : (k : Kind) (w : Wire) (after : List Rec) → (begun k m < begun_by (begun k m) es → 1 ≤ length after) → m < begun_by (begun k m) es
        → 1 ≤ length (marks k (pitch * i) w) + length after
    go B w after r h = omega arith
    go M w after r h = omega arith
    go E w after r h = omega arith
    go N w after r h = omega (arith, r h)

some-records : (s : List ℕ) → 0 < nets_of s → 1 ≤ length (records 16 s)
unfolding records nets_of
some-records s h = draw-some 16 (upper_of s) 0 0 0 [] (entries_of s) h

module _ (f : Drawer) (meets : MeetsDrawer f) where
  pub not-invented : Invented f → ⊥
  not-invented a =
      let m = meets a.s a.film a.bytes.0 a.bytes.1 in
      a.other (film-count a.s a.film a.k (sym m.answer ∙ a.says)).1

  pub not-empty : SaysEmpty f → ⊥
  not-empty a =
      let m = meets a.s a.film a.bytes.0 a.bytes.1 in
      let c = film-count a.s a.film 0 (sym m.answer ∙ a.says) in
      omega (arith, c.1, some-records a.s a.net)

  pub not-nothing-drawn : NothingDrawn f → ⊥
  unfolding FilmAfter written
  not-nothing-drawn a =
      let film : List ℕ = replicate 15 0 in
      let m = meets s1 film s1-below-256 (below-replicate 15 (omega arith)) in
      let x : FilmAfter (Ok 3) s1 film (f.film s1 film) =
      subst (λ r. FilmAfter r s1 film (f.film s1 film)) (m.answer ∙ seen.film) m.bytes in
      let new = film_bytes x.0 in
      let t : total film ≡ total (new ++ drop (length new) film) = ap total (sym (a s1 film) ∙ x.2) in
      omega (arith, t, seen.dark, total-append new (drop (length new) film), total-same x.1, ltb-true 0 (total (film_bytes (records 16 s1))) seen.bright)

  pub not-hasty : Hasty f → ⊥
  unfolding drawing or_else keep settle
  not-hasty a =
      let m = meets a.s a.film a.bytes.0 a.bytes.1 in
      let k = length (records 16 a.s) in
      let e : drawing a.s a.film ≡ Ok k = rw (a.faultless, le-ltb (length a.film) (5 * k) a.room) in
      let g = sym a.says ∙ m.answer ∙ e in
      let z : ◌≡◌ {A = ℕ} 0 1 = cc in
      omega arith

-- an agreement test that always says yes, or always no
module _ (f : List ℕ → List ℕ → Bool) (meets : MeetsAgreement f) where
  pub not-always-yes : ((row s : List ℕ) → f row s ≡ true) → ⊥
  not-always-yes a =
      let e = sym (a abab s1) ∙ meets abab s1 s4-fair.0.row s1-below-256 ∙ seen.other in
      let z : ◌≡◌ {A = ℕ} 0 1 = cc in
      omega arith

  pub not-always-no : ((row s : List ℕ) → f row s ≡ false) → ⊥
  not-always-no a =
      let e = sym (a aa s1) ∙ meets aa s1 s1-fair.0.row s1-below-256 ∙ seen.agreed in
      let z : ◌≡◌ {A = ℕ} 0 1 = cc in
      omega arith
