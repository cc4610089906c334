-- Two rows met node by node, with a table from the labels of the first to the nets of the second: so far they join the same pins.
use mathlib.Core.Path.{◌≡◌, refl, sym, ap, ap₂, ◌∙◌}
use mathlib.Core.Bool.{Bool, true, false, not, ◌&&◌}
use mathlib.Core.List.{List, ◌∷◌, map}
use mathlib.Core.Logic.{◌≢◌}
use Prim.Native.Nat.{ℕ, zero, suc, ◌+◌, ◌≤◌, ◌<◌}
use native.Mathlib.Decide.{ℕ_discrete}
use native.Mathlib.Numerals.{add-one}
use native.Mathlib.Omega.{arith}
use lib.ListN.{length, get_or, drop, set, replicate, length-set, get_or-map}
use lib.Seq.{drop-cons, get_or-set_same, get_or-set_other, set-get_or}
use lib.Dec.{eqb}
use borrow.Author.Tests.{eqb-true, eqb-false, eq-eqb, ne_eqb}
use Rattle.std.specs.Prelude.{Option, None, Some}
use Rattle.std.specs.Option.{option_eq}
use Rattle.std.proofs.lemmas.List.{map-set, set-set, set_comm}
use Rattle.rules.specs.Basic.{pick}
use Rattle.rules.specs.Row.{blank, joined, SamePins}
use Rattle.rules.proofs.Pins.{same-label}
use Rattle.sheet.specs.InTurn.{InTurn, old, new, unjoined, begins}

-- x stands in the list before place i
pub record Past (l : List ℕ) (i x : ℕ) : Type 0 where
  pub at : ℕ
  pub past : at < i
  pub is : get_or l at 0 ≡ x

-- a cell of the table as a number: one more than the net that it has, or 0
abbrev pub cell : Option ℕ → ℕ
cell None = 0
cell (Some x) = suc x

-- before node i, with n nets begun in the second row: the table has one more than the net of each label met, one more than itself for the label of
-- blanks, and 0 elsewhere
pub record Matched (row own nets : List ℕ) (i n : ℕ) : Type 0 where
  pub cells : length nets ≡ 256
  pub within : i ≤ length own
  pub table : (j : ℕ) → j < i → get_or nets (get_or row j 0) 0 ≡ suc (get_or own j 0)
  pub apart : (l l' : ℕ) → 0 < get_or nets l 0 → get_or nets l 0 ≡ get_or nets l' 0 → l ≡ l'
  pub blanks : get_or nets 255 0 ≡ 256
  pub seen : (l : ℕ) → l ≢ 255 → 0 < get_or nets l 0 → Past row i l
  pub low : (l : ℕ) → l ≢ 255 → get_or nets l 0 ≤ n
  pub few : n ≤ 255
  pub all : (x : ℕ) → x < n → Past own i x
  pub turn : InTurn n (drop i own)

zeros : (k l : ℕ) → ◌≡◌ {A = ℕ} (get_or (replicate k 0) l 0) 0
zeros zero l = refl
zeros (suc k) zero = refl
zeros (suc k) (suc l) = zeros k l

-- the table of no labels but that of blanks
abbrev bare : List ℕ
bare = set (replicate 256 0) 255 256

bare-else : (l : ℕ) → l ≢ 255 → get_or bare l 0 ≡ 0
bare-else l q = get_or-set_other (replicate 256 0) 255 l 256 0 q ∙ zeros 256 l

pub match-start : (row own : List ℕ) → InTurn 0 own → Matched row own bare 0 0
match-start row own t =
    record {
      cells = refl;
      within = omega arith;
      table = λ j h. absurd (omega arith);
      apart = λ l l' h e. only l (ℕ_discrete l 255) h ∙ sym (only l' (ℕ_discrete l' 255) (omega arith));
      blanks = refl;
      seen = λ l q h. absurd (omega (arith, bare-else l q));
      low = λ l q. omega (arith, bare-else l q);
      few = omega arith;
      all = λ x h. absurd (omega arith);
      turn = t;
    }
  where
    only : (l : ℕ) → Dec (l ≡ 255) → 0 < get_or bare l 0 → l ≡ 255
    only l (yes q) h = q
    only l (no q) h = absurd (omega (arith, bare-else l q))

later : {l : List ℕ} {i x : ℕ} → Past l i x → Past l (i + 1) x
later p = record { at = p.at; past = omega (arith, p.past); is = p.is }

now-past : (l : List ℕ) (i x : ℕ) → get_or l i 0 ≡ x → Past l (i + 1) x
now-past l i x e = record { at = i; past = omega arith; is = e }

-- a row in turn: the next label, and what follows
data Turn (n x : ℕ) (l : List ℕ) : Type 0 where
  known : x < n → InTurn n l → Turn n x l
  fresh : x ≡ n → n < 255 → InTurn (suc n) l → Turn n x l
  blank-pin : x ≡ 255 → InTurn n l → Turn n x l

turn-of : {n x : ℕ} {l : List ℕ} → InTurn n (x ∷ l) → Turn n x l
turn-of (old h t) = known h t
turn-of (new e h t) = fresh e h t
turn-of (unjoined e t) = blank-pin e t

-- whether a node begins a net
begins-new : {net n : ℕ} → net ≡ n → n < 255 → begins net n ≡ true
unfolding begins
begins-new {net} {n} e h = rw (ne_eqb net 255 (omega arith), eq-eqb net n e)

begins-old : {net n : ℕ} → net < n → begins net n ≡ false
unfolding begins
begins-old {net} {n} h = go (eqb net 255)
  where
    go : (t : Bool) → (not t && eqb net n) ≡ false
    go true = refl
    go false = ne_eqb net n (omega arith)

pub begins-blank : {net : ℕ} (n : ℕ) → net ≡ 255 → begins net n ≡ false
unfolding begins
begins-blank {net} n e = rw (eq-eqb net 255 e)

module _ (row own nets : List ℕ) (i n : ℕ) (h : i < length own) (m : Matched row own nets i n) where
  -- node i's label in both rows
  abbrev lab : ℕ
  lab = get_or row i 0

  abbrev net : ℕ
  net = get_or own i 0

  next-turn : Turn n net (drop (suc i) own)
  next-turn = turn-of (rw (drop-cons own i 0 h) at m.turn)

  meets-known : InTurn n (drop (suc i) own) → get_or nets lab 0 ≡ suc net → Matched row own nets (i + 1) n
  meets-known t e =
      record {
        cells = m.cells;
        within = omega arith;
        table = λ j l. go j l (ℕ_discrete j i);
        apart = m.apart;
        blanks = m.blanks;
        seen = λ l q p. later (m.seen l q p);
        low = m.low;
        few = m.few;
        all = λ x l. later (m.all x l);
        turn = rw (add-one i) t;
      }
    where
      go : (j : ℕ) → j < i + 1 → Dec (j ≡ i) → get_or nets (get_or row j 0) 0 ≡ suc (get_or own j 0)
      go j l (yes q) = rw q e
      go j l (no q) = m.table j (omega (arith, q))

  module _ (b : lab < 256) (k : net ≡ n) (f : n < 255) (z : get_or nets lab 0 ≡ 0) where
    same-cell : get_or (set nets lab (suc net)) lab 0 ≡ suc net
    same-cell = get_or-set_same nets lab (suc net) 0 (omega (arith, m.cells))

    other-cell : (l : ℕ) → (l ≡ lab → ⊥) → get_or (set nets lab (suc net)) l 0 ≡ get_or nets l 0
    other-cell l q = get_or-set_other nets lab l (suc net) 0 q

    no-blank : (255 ≡ lab) → ⊥
    no-blank q = let e : get_or nets lab 0 ≡ 256 = rw q at m.blanks in omega arith

    -- no cell has the next net
    none_has : (l : ℕ) → Dec (l ≡ 255) → get_or nets l 0 ≡ suc net → ⊥
    none_has l (yes q) e = let x : get_or nets l 0 ≡ 256 = rw q m.blanks in omega arith
    none_has l (no q) e = omega (arith, m.low l q)

    meets-fresh : InTurn (suc n) (drop (suc i) own) → Matched row own (set nets lab (suc net)) (i + 1) (suc n)
    meets-fresh t =
        record {
          cells = length-set nets lab (suc net) ∙ m.cells;
          within = omega arith;
          table = λ j l. table' j l (ℕ_discrete j i);
          apart = λ l l'. apart' l l' (ℕ_discrete l lab) (ℕ_discrete l' lab);
          blanks = other-cell 255 no-blank ∙ m.blanks;
          seen = λ l r. seen' l r (ℕ_discrete l lab);
          low = λ l r. low' l r (ℕ_discrete l lab);
          few = f;
          all = λ x l. all' x l (ℕ_discrete x n);
          turn = rw (add-one i) t;
        }
      where
        -- an earlier node has another label
        apart_from : (j : ℕ) → j < i → get_or row j 0 ≡ lab → ⊥
        apart_from j l q = let e : get_or nets lab 0 ≡ suc (get_or own j 0) = rw q at (m.table j l) in omega arith

        table' : (j : ℕ) → j < i + 1 → Dec (j ≡ i) → get_or (set nets lab (suc net)) (get_or row j 0) 0 ≡ suc (get_or own j 0)
        table' j l (yes q) = rw q same-cell
        table' j l (no q) =
            let j< : j < i = omega (arith, q) in
            other-cell (get_or row j 0) (apart_from j j<) ∙ m.table j j<

        apart' : (l l' : ℕ) → Dec (l ≡ lab) → Dec (l' ≡ lab) → 0 < get_or (set nets lab (suc net)) l 0
            → get_or (set nets lab (suc net)) l 0 ≡ get_or (set nets lab (suc net)) l' 0 → l ≡ l'
        apart' l l' (yes p) (yes q) g e = p ∙ sym q
        apart' l l' (yes p) (no q) g e =
            absurd (none_has l' (ℕ_discrete l' 255)
            (sym (other-cell l' q) ∙ sym e ∙ ap (λ (y : ℕ). get_or (set nets lab (suc net)) y 0) p ∙ same-cell))
        apart' l l' (no p) (yes q) g e =
            absurd (none_has l (ℕ_discrete l 255)
            (sym (other-cell l p) ∙ e ∙ ap (λ (y : ℕ). get_or (set nets lab (suc net)) y 0) q ∙ same-cell))
        apart' l l' (no p) (no q) g e =
            m.apart l l' (omega (arith, other-cell l p)) (sym (other-cell l p) ∙ e ∙ other-cell l' q)

        seen' : (l : ℕ) → l ≢ 255 → Dec (l ≡ lab) → 0 < get_or (set nets lab (suc net)) l 0 → Past row (i + 1) l
        seen' l r (yes p) g = now-past row i l (sym p)
        seen' l r (no p) g = later (m.seen l r (omega (arith, other-cell l p)))

        low' : (l : ℕ) → l ≢ 255 → Dec (l ≡ lab) → get_or (set nets lab (suc net)) l 0 ≤ suc n
        low' l r (yes p) = rw p (omega (arith, same-cell))
        low' l r (no p) = omega (arith, other-cell l p, m.low l r)

        all' : (x : ℕ) → x < suc n → Dec (x ≡ n) → Past own (i + 1) x
        all' x l (yes p) = now-past own i x (k ∙ sym p)
        all' x l (no p) = later (m.all x (omega (arith, p)))

  -- the node agrees: the table and the count go on
  pub match-step : lab < 256 → get_or nets lab 0 ≡ pick (begins net n) 0 (suc net) → {v n' : ℕ} → v ≡ suc net → n' ≡ pick (begins net n) (suc n) n
      → Matched row own (set nets lab v) (i + 1) n'
  unfolding pick
  match-step b e p q = rw (p, q) (go next-turn)
    where
      goes_on : begins net n ≡ false → InTurn n (drop (suc i) own) → Matched row own (set nets lab (suc net)) (i + 1) (pick (begins net n) (suc n) n)
      goes_on f t =
          let e' : get_or nets lab 0 ≡ suc net = rw f at e in
          let s : set nets lab (suc net) ≡ nets = ap (set nets lab) (sym e') ∙ set-get_or nets lab 0 in
          rw (f, s) (meets-known t e')

      go : Turn n net (drop (suc i) own) → Matched row own (set nets lab (suc net)) (i + 1) (pick (begins net n) (suc n) n)
      go (known k t) = goes_on (begins-old k) t
      go (fresh k l t) =
          let f = begins-new k l in
          rw f (meets-fresh b k l (rw f at e) t)
      go (blank-pin k t) = goes_on (begins-blank n k) t

  -- the node does not agree: neither do the rows
  pub match-fails : i < length row → (get_or nets lab 0 ≡ pick (begins net n) 0 (suc net) → ⊥) → SamePins row own → ⊥
  unfolding pick blank
  match-fails hr d s = go next-turn
    where
      same : (j : ℕ) → j < i → (get_or row j 0 ≡ lab → get_or own j 0 ≡ net) × (get_or own j 0 ≡ net → get_or row j 0 ≡ lab)
      same j l =
          let q = same-label row own s j i (omega arith) hr in (
            λ e. eqb-true (get_or own j 0) net (sym q ∙ eq-eqb (get_or row j 0) lab e),
            λ e. eqb-true (get_or row j 0) lab (q ∙ eq-eqb (get_or own j 0) net e),
          )

      go : Turn n net (drop (suc i) own) → ⊥
      go (known k t) =
          let p = m.all net k in
          let r : get_or row p.at 0 ≡ lab = (same p.at p.past).1 p.is in
          d (rw (begins-old k) (ap (λ (y : ℕ). get_or nets y 0) (sym r) ∙ m.table p.at p.past ∙ ap suc p.is))
      go (fresh k f t) =
          d (rw (begins-new k f) (none-met (ℕ_discrete (get_or nets lab 0) 0)))
        where
          wired : lab ≢ 255
          wired q =
              let b : net ≡ 255 = eqb-true net 255 (sym (s.blanks i hr) ∙ eq-eqb lab 255 q) in
              omega arith

          none-met : Dec (get_or nets lab 0 ≡ 0) → get_or nets lab 0 ≡ 0
          none-met (yes z) = z
          none-met (no z) =
              let p = m.seen lab wired (omega (arith, z)) in
              let o : get_or own p.at 0 ≡ net = (same p.at p.past).0 p.is in
              absurd (omega (arith, m.table p.at p.past, m.low lab wired, ap (λ (y : ℕ). get_or nets y 0) p.is))
      go (blank-pin k t) =
          let l : lab ≡ 255 = eqb-true lab 255 (s.blanks i hr ∙ eq-eqb net 255 k) in
          d (rw (begins-blank n k) (ap (λ (y : ℕ). get_or nets y 0) l ∙ m.blanks ∙ ap suc (sym k)))

-- ---- the table of nets, of which the cells are these numbers

-- two cells that are told to be the same
same-cells : (x y : Option ℕ) → option_eq eqb x y ≡ true → x ≡ y
same-cells None None e = refl
same-cells None (Some y) e = cc
same-cells (Some x) None e = cc
same-cells (Some x) (Some y) e = ap Some (eqb-true x y e)

cells-same : (x y : Option ℕ) → x ≡ y → option_eq eqb x y ≡ true
cells-same x None e = rw e
cells-same x (Some y) e = rw e (eq-eqb y y refl)

cell-pick : (t : Bool) (x : ℕ) → cell (pick t None (Some x)) ≡ pick t 0 (suc x)
unfolding pick
cell-pick true x = refl
cell-pick false x = refl

-- a cell is what it was asked to be, by the number that it has
cell-injective : (x y : Option ℕ) → cell x ≡ cell y → x ≡ y
cell-injective None None e = refl
cell-injective None (Some y) e = absurd (omega arith)
cell-injective (Some x) None e = absurd (omega arith)
cell-injective (Some x) (Some y) e = let z : x ≡ y = omega arith in ap Some z

-- the table of all labels: that of blanks has itself
abbrev pub full : List (Option ℕ) → List ℕ
full table = set (map cell table) 255 256

told : (t : Bool) → false ≡ not t → t ≡ true
told true e = refl
told false e = cc

module _ (row own : List ℕ) (table : List (Option ℕ)) (i n : ℕ) (h : i < length own) (m : Matched row own (full table) i n) {l x : ℕ} (p : l ≡ get_or row i 0) (q : x ≡ get_or own i 0) where
  -- a blank meets a net
  pub cells-apart : (eqb l 255 ≡ eqb x 255 → ⊥) → i < length row → SamePins row own → ⊥
  unfolding blank
  cells-apart d hr s = d (rw (p, q) (s.blanks i hr))

  -- a blank meets a blank
  pub cells-blank : eqb l 255 ≡ eqb x 255 → x ≡ 255 → Matched row own (full table) (i + 1) n
  unfolding pick
  cells-blank alike z =
      let a : get_or row i 0 ≡ 255 = sym p ∙ eqb-true l 255 (alike ∙ eq-eqb x 255 z) in
      let b : get_or own i 0 ≡ 255 = sym q ∙ z in
      let f : begins (get_or own i 0) n ≡ false = begins-blank n b in
      let k : get_or (full table) (get_or row i 0) 0 ≡ pick (begins (get_or own i 0) n) 0 (suc (get_or own i 0)) = rw (f, a, b) m.blanks in
      let s : Matched row own (set (full table) (get_or row i 0) 256) (i + 1) n =
      match-step row own (full table) i n h m (omega arith) k (omega arith) (rw f refl) in
      rw set-set at (rw a at s)

  -- a net meets a net
  module _ (alike : eqb l 255 ≡ eqb x 255) (e : x ≢ 255) {k : Option ℕ} (r : k ≡ pick (eqb x n) None (Some x)) where
    d : l ≢ 255
    d y = e (eqb-true x 255 (sym alike ∙ eq-eqb l 255 y))

    begins-net : eqb x n ≡ begins x n
    unfolding begins
    begins-net = rw (ne_eqb x 255 e) refl

    asked : cell k ≡ pick (begins (get_or own i 0) n) 0 (suc (get_or own i 0))
    asked =
        ap cell r
        ∙ cell-pick (eqb x n) x
        ∙ ap (λ (t : Bool). pick t 0 (suc x)) begins-net
        ∙ ap (λ (x : ℕ). pick (begins x n) 0 (suc x)) q

    there : cell (get_or table l None) ≡ get_or (full table) (get_or row i 0) 0
    there =
        sym (get_or-map cell table l None)
        ∙ sym (get_or-set_other (map cell table) 255 l 256 0 d)
        ∙ ap (λ (l : ℕ). get_or (full table) l 0) p

    pub cells-step : l < 256 → false ≡ not (option_eq eqb (get_or table l None) k) → {n' : ℕ} → n' ≡ pick (eqb x n) (suc n) n
        → Matched row own (full (set table l (Some x))) (i + 1) n'
    cells-step b t g =
        let same : get_or table l None ≡ k = same-cells (get_or table l None) k (told (option_eq eqb (get_or table l None) k) t) in
        let b' : get_or row i 0 < 256 = omega arith in
        let g' = g ∙ ap (λ (t : Bool). pick t (suc n) n) begins-net ∙ ap (λ (x : ℕ). pick (begins x n) (suc n) n) q in
        rw (map-set cell table l (Some x), set_comm (map cell table) l 255 (suc x) 256 d, p)
        (match-step row own (full table) i n h m b' (sym there ∙ ap cell same ∙ asked) (ap suc q) g')

    pub cells-fail : true ≡ not (option_eq eqb (get_or table l None) k) → i < length row → SamePins row own → ⊥
    cells-fail t hr =
        match-fails row own (full table) i n h m hr
        (λ g. let same = cells-same (get_or table l None) k (cell-injective (get_or table l None) k (there ∙ g ∙ sym asked)) in
        let z : true ≡ false = rw same at t in clash z)
      where
        clash : true ≡ false → ⊥
        clash z = let w : ◌≡◌ {A = ℕ} 0 1 = cc in omega arith

-- every node agrees: so do the rows
pub match-end : (row own nets : List ℕ) (n i : ℕ) → length row ≡ length own → i ≡ length own → Matched row own nets i n → SamePins row own
unfolding joined blank
match-end row own nets n i e q m =
    record {
      count = e;
      joins = λ j k hj hk. ap₂ (λ (t u : Bool). not t && u) (empty j (omega arith)) (go j k (omega arith) (omega arith) (eqb (get_or row j 0) (get_or row k 0)) refl);
      blanks = λ j h. empty j (omega arith);
    }
  where
    go : (j k : ℕ) → j < i → k < i → (t : Bool) → eqb (get_or row j 0) (get_or row k 0) ≡ t → eqb (get_or row j 0) (get_or row k 0) ≡ eqb (get_or own j 0) (get_or own k 0)
    go j k hj hk true t =
        let r : get_or row j 0 ≡ get_or row k 0 = eqb-true (get_or row j 0) (get_or row k 0) t in
        let c : get_or nets (get_or row j 0) 0 ≡ get_or nets (get_or row k 0) 0 = ap (λ (y : ℕ). get_or nets y 0) r in
        t ∙ sym (eq-eqb (get_or own j 0) (get_or own k 0) (omega (arith, m.table j hj, m.table k hk)))
    go j k hj hk false t =
        t ∙ sym (ne_eqb (get_or own j 0) (get_or own k 0) (λ o.
        eqb-false (get_or row j 0) (get_or row k 0) t
        (m.apart (get_or row j 0) (get_or row k 0) (omega (arith, m.table j hj)) (m.table j hj ∙ ap suc o ∙ sym (m.table k hk)))))

    -- the label of blanks alone has its own cell
    empty : (j : ℕ) → j < i → eqb (get_or row j 0) 255 ≡ eqb (get_or own j 0) 255
    empty j h = by (ℕ_discrete (get_or row j 0) 255)
      where
        by : Dec (get_or row j 0 ≡ 255) → eqb (get_or row j 0) 255 ≡ eqb (get_or own j 0) 255
        by (yes r) =
            let c : get_or nets (get_or row j 0) 0 ≡ 256 = rw r m.blanks in
            eq-eqb (get_or row j 0) 255 r ∙ sym (eq-eqb (get_or own j 0) 255 (omega (arith, m.table j h)))
        by (no r) =
            ne_eqb (get_or row j 0) 255 r ∙ sym (ne_eqb (get_or own j 0) 255 (omega (arith, m.table j h, m.low (get_or row j 0) r, m.few)))
