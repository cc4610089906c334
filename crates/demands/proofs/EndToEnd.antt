-- From end to end: the router's sheet is read back, agrees and is drawn; the film joins exactly the row's pins; same pins and tracks, same copper.
use mathlib.Core.Path.{◌≡◌, sym, ap, ◌∙◌, subst}
use mathlib.Core.Bool.{true}
use mathlib.Core.List.{List, Memᴰ}
use mathlib.Core.Logic.{◌↔◌}
use mathlib.Core.Option.{Option, none, some}
use Prim.Native.Nat.{ℕ, ◌*◌, ◌≤◌, ◌<◌}
use native.Mathlib.Omega.{arith}
use lib.ListN.{length, get_or, take, length-map}
use lib.Dec.{ltb}
use borrow.Author.Tests.{le-ltb}
use Rattle.std.specs.declared.result.Result.TheVariants.{Ok}
use Rattle.rules.specs.Basic.{keep, or_else, settle}
use Rattle.rules.specs.Row.{blank, joined, SamePins}
use Rattle.rules.specs.Sheet.{count_of, pins_of, label, row_of}
use Rattle.rules.specs.Film.{Rec, axis, records, film_bytes}
use Rattle.rules.specs.Judgement.{judge, readable}
use Rattle.rules.specs.WireRules.{net_of, On, Linked, WireRules}
use Rattle.rules.specs.Answers.{written, agrees, drawing, FilmAfter}
use Rattle.rules.proofs.Pins.{same-sheet}
use Rattle.rules.proofs.Accepted.{readable-exactly}
use Rattle.rules.proofs.Labels.{Shared, given-blank, given-joined}
use Rattle.rules.proofs.Demand2.{read-passes}
use Rattle.sheet.proofs.Walks.{length-row}
use Rattle.wires.proofs.Few.{records-few}
use Rattle.router.proofs.Demand.{reads-back, agrees-with-it, same_answer}
use Rattle.demands.specs.Demands.{RouterCall, ReaderCall, DrawerCall, sheet_of, Filmed, EndToEnd}
use Rattle.demands.proofs.Demand2.{row_back, film-obeys}
use Rattle.demands.proofs.Demand3.{passed, sheet-stands}

-- a film that obeys the rules joins two pins exactly where one net is at both, and touches none without a net
module _ {pitch ku kl : ℕ} {pins : List (Option ℕ)} {rs : List Rec} (rules : WireRules pitch ku kl pins rs) where
  -- the first and the last record of a link
  begins : {net x y x' y' : ℕ} → Linked net rs x y x' y' → (r : Rec) × Memᴰ r rs × (net_of r ≡ net) × On r x y
  begins (Linked.on_one r m n a b) = (r, m, n, a)
  begins (Linked.by_way v w a b) = begins a

  ends : {net x y x' y' : ℕ} → Linked net rs x y x' y' → (r : Rec) × Memᴰ r rs × (net_of r ≡ net) × On r x' y'
  ends (Linked.on_one r m n a b) = (r, m, n, b)
  ends (Linked.by_way v w a b) = ends b

  linked-shared : (i j : ℕ) → i < length pins → j < length pins
      → Shared (get_or pins i none) (get_or pins j none) ↔ ((net : ℕ) × Linked net rs (pitch * i) axis (pitch * j) axis)
  linked-shared i j h k = (
    λ e. (e.0, rules.joins e.0 i j e.1 e.2),
    λ l.
        let a = begins l.1 in
        let b = ends l.1 in
        (l.0, rules.own a.0 i a.1 h a.3 ∙ ap some a.2, rules.own b.0 j b.1 k b.3 ∙ ap some b.2),
  )

  blank-clear : (i : ℕ) → i < length pins → get_or pins i none ≡ none → (r : Rec) → Memᴰ r rs → On r (pitch * i) axis → ⊥
  blank-clear i h e r m o =
      let q : none ≡ some (net_of r) = sym e ∙ rules.own r i m h o in
      let z : ◌≡◌ {A = ℕ} 0 1 = cc in
      omega arith

-- a row that the router took
module _ {row : List ℕ} {ku kl : ℕ} (c : RouterCall row ku kl) (got : c.answer ≡ Ok (length row)) where
  back : (readable (sheet_of c) ≡ none) × SamePins row (row_of (sheet_of c))
  back =
      subst (λ s. (readable s ≡ none) × SamePins row (row_of s)) (sym (sheet-stands c got))
      (reads-back row ku kl c.work c.out c.answer c.work' c.out' c.meets (passed c got) c.bytes got)

  judged : judge (sheet_of c) ≡ none
  judged = ((readable-exactly (sheet_of c)).0 back.0).0

  count : count_of (sheet_of c) ≡ length row
  count = sym (length-row (sheet_of c)) ∙ sym back.1.count

  read_back : (d : ReaderCall (sheet_of c)) → length row ≤ length d.row → (d.answer ≡ Ok (length row)) × SamePins row (take (length row) d.row')
  read_back d h =
      let e : d.answer ≡ Ok (length row) =
      d.meets.answer ∙ (read-passes (sheet_of c) d.row).1 (back.0, omega (arith, count, h)) ∙ ap Ok count in
      (e, subst (SamePins row) (sym (row_back d (length row) e)) back.1)

  agreed : agrees row (sheet_of c) ≡ true
  agreed =
      ap (agrees row) (sheet-stands c got)
      ∙ agrees-with-it row ku kl c.work c.out c.answer c.work' c.out' c.meets (passed c got) c.bytes got

  pinned : length (pins_of (sheet_of c)) ≡ length row
  unfolding row_of
  pinned = sym (length-map (pins_of (sheet_of c)) label) ∙ sym back.1.count

  drawable : (d : DrawerCall (sheet_of c)) → 5 * (14 * length row) ≤ length d.film → (k : ℕ) × (d.answer ≡ Ok k)
  unfolding drawing or_else keep settle
  drawable d h =
      let s = sheet_of c in
      let k = length (records 16 s) in
      let t : ltb (length d.film) (5 * k) ≡ _ = le-ltb (length d.film) (5 * k) (omega (arith, records-few s judged, count, h)) in
      let a : drawing s d.film ≡ Ok k = rw (judged, t) in
      (k, d.meets.answer ∙ a)

  joins : (d : DrawerCall (sheet_of c)) (k : ℕ) → d.answer ≡ Ok k
      → (rs : List Rec)
      × (d.film' ≡ written (film_bytes rs) d.film)
      × ((i j : ℕ) → i < length row → j < length row → joined row i j ≡ true ↔ ((net : ℕ) × Linked net rs (16 * i) axis (16 * j) axis))
      × ((i : ℕ) → i < length row → blank row i ≡ true → (r : Rec) → Memᴰ r rs → On r (16 * i) axis → ⊥)
  joins d k e =
      let f = film-obeys d k e in (
        f.rs,
        f.bytes,
        λ i j h g.
            let l = linked-shared f.rules i j (omega (arith, pinned, h)) (omega (arith, pinned, g)) in
            let q = given-joined (sheet_of c) back.0 i j (omega (arith, back.1.count, h)) (omega (arith, back.1.count, g)) in
            let p = back.1.joins i j h g in (λ a. l.0 (q.0 (sym p ∙ a)), λ a. p ∙ q.1 (l.1 a)),
        λ i h b.
            blank-clear f.rules i (omega (arith, pinned, h))
            ((given-blank (sheet_of c) back.0 i (omega (arith, back.1.count, h))).0 (sym (back.1.blanks i h) ∙ b)),
      )

filmed : {s : List ℕ} (c : DrawerCall s) (k : ℕ) → c.answer ≡ Ok k → Filmed (records 16 s) c.film c.film'
unfolding FilmAfter
filmed {s} c k e =
    let a : FilmAfter (Ok k) s c.film c.film' = subst (λ r. FilmAfter r s c.film c.film') e c.meets.bytes in
    record { order = a.0; same = a.1; bytes = a.2 }

pub end_to_end : EndToEnd
end_to_end =
    record {
      read_back = λ c got d h. read_back c got d h;
      agreed = λ c got. agreed c got;
      drawable = λ c got d h. drawable c got d h;
      joins = λ c got d k e. joins c got d k e;
      same_answer = λ {row} {row₂} {ku} {kl} c c₂ s checked checked₂.
          same_answer row row₂ ku kl c.work c.out c₂.work c₂.out c.answer c₂.answer c.work' c.out' c₂.work' c₂.out'
          c.meets c₂.meets checked checked₂ s;
      same-sheet = λ {row} {row₂} {ku} {kl} c c₂ s got got₂. sheet-stands c got ∙ same-sheet row row₂ s ku kl ∙ sym (sheet-stands c₂ got₂);
      same-records = λ {s} c c₂ k k₂ e e₂. (records 16 s, filmed c k e, filmed c₂ k₂ e₂);
    }
