-- A sheet is accepted exactly when it is the sheet of some row's placing and has at most 255 nets; the row given back has the same pins.
use mathlib.Core.Path.{◌≡◌, refl, sym, ap, ap₂, ◌∙◌}
use mathlib.Core.Bool.{Bool, true, false, not, ◌&&◌, ◌||◌}
use mathlib.Core.List.{List, [], ◌∷◌, ◌++◌, map, tail as list-tail}
use mathlib.Core.Logic.{◌↔◌}
use mathlib.Core.Option.{Option, none, some}
use Prim.Native.Nat.{ℕ, zero, suc, ◌+◌, ◌-◌, ◌≤◌, ◌<◌}
use native.Mathlib.Nat.{add-zero, zero-add}
use native.Mathlib.Omega.{arith}
use lib.ListN.{length, get_or}
use lib.Dec.{eqb, ltb, leb}
use borrow.Author.Tests.{not-false, eqb-true, eq-eqb, ltb-false, le-ltb, leb-true, le-leb}
use Rattle.rules.specs.declared.Fault.TheVariants.{Head, Tracks, Length, Open, Padding, Nets}
use Rattle.rules.specs.Basic.{pick, keep, or_else, tabulate}
use Rattle.rules.specs.declared.Kind.{Kind}
use Rattle.rules.specs.declared.Kind.TheVariants.{B, M, E, N}
use Rattle.rules.specs.Row.{blank, home, later, Node, node, node_at, nodes, kind_of, SamePins}
use Rattle.rules.specs.Street.{last, counted, kind, run}
use Rattle.rules.specs.Bits.{Below, bytes}
use Rattle.rules.specs.Sheet.{takes, code, kind_in, Entry, entry, entries, size, sheet_bits, sheet, upper_of, lower_of, count_of, entries_of, padding_of, begun, begun_by, nets_of, net_at, nets, pins_of, row_of, Placed, SheetOf}
use Rattle.rules.specs.Judgement.{wrong_count, head, middle, tail, judge, crowded, readable, left, left_open}
use Rattle.rules.proofs.Fits.{FitsAt}
use Rattle.rules.proofs.Pins.{length-tabulate, nodes-same}
use Rattle.rules.proofs.Open.{onto, times}
use Rattle.rules.proofs.Legal.{Legal, done, then, scan-legal, legal-scan, legal-open, code_lt, code-kind_in, kind_in-code, placing-legal, New, Own, same_entries}
use Rattle.rules.proofs.GivenBack.{times-at, places, entry_kind, Numbered, Clear, given_back, Walk, walk-next, no_walk, labelled, labels, then-order, length-then, begun_by-le}
use Rattle.rules.proofs.SheetFields.{Narrow, LaidOut, laid_out, laid-out-again, narrow-entries_of, length-entries_of}

-- ---- the entries of a placing

-- an impossible answer of a run
no_run : {w : List ℕ} → ◌≡◌ {A = Option (List ℕ)} none (some w) → ⊥
no_run e = let z : ◌≡◌ {A = ℕ} 0 1 = cc in omega arith

module _ (ku kl : ℕ) where
  pub places-entries : (ns : List Node) (o ps w : List ℕ) → run ku kl ns o ps ≡ some w → places (entries ns ps) ≡ ps
  unfolding run entries places
  places-entries [] o [] w e = refl
  places-entries [] o (p ∷ ps) w e = absurd (no_run e)
  places-entries (n ∷ ns) o [] w e = absurd (no_run e)
  places-entries (n ∷ ns) o (p ∷ ps) w e =
      let a = onto ku kl n ns o p ps w e in
      ap₂ {C = List ℕ} (λ q l. q ∷ l) (omega (arith, a.fitted.low)) (places-entries ns _ ps w a.rest)

  pub kinds-entries : (ns : List Node) (o ps w : List ℕ) → run ku kl ns o ps ≡ some w → map entry_kind (entries ns ps) ≡ map kind ns
  unfolding run entries entry_kind
  kinds-entries [] o [] w e = refl
  kinds-entries [] o (p ∷ ps) w e = refl
  kinds-entries (n ∷ ns) o [] w e = absurd (no_run e)
  kinds-entries (n ∷ ns) o (p ∷ ps) w e =
      let a = onto ku kl n ns o p ps w e in
      ap₂ {C = List Kind} (λ q l. q ∷ l) (kind_in-code (kind n)) (kinds-entries ns _ ps w a.rest)

  pub length-entries : (ns : List Node) (o ps w : List ℕ) → run ku kl ns o ps ≡ some w → length (entries ns ps) ≡ length ns
  unfolding run entries
  length-entries [] o [] w e = refl
  length-entries [] o (p ∷ ps) w e = refl
  length-entries (n ∷ ns) o [] w e = absurd (no_run e)
  length-entries (n ∷ ns) o (p ∷ ps) w e = ap suc (length-entries ns _ ps w (onto ku kl n ns o p ps w e).rest)

  pub narrow-entries : ku ≤ 3 → (ns : List Node) (o ps w : List ℕ) → run ku kl ns o ps ≡ some w → Narrow (entries ns ps)
  unfolding run entries
  narrow-entries h [] o [] w e = Narrow.nil
  narrow-entries h [] o (p ∷ ps) w e = Narrow.nil
  narrow-entries h (n ∷ ns) o [] w e = absurd (no_run e)
  narrow-entries h (n ∷ ns) o (p ∷ ps) w e =
      let a = onto ku kl n ns o p ps w e in
      Narrow.cons {f = code (kind n)} {a = p - 1} (omega (arith, code_lt (kind n))) (omega (arith, a.fitted.upper)) (narrow-entries h ns _ ps w a.rest)

-- entries whose kinds nodes have are the nodes' entries
entries-back : (ku kl : ℕ) {b : ℕ} {es : List Entry} → Legal ku kl b es → Narrow es → (ns : List Node) → map kind ns ≡ map entry_kind es → entries ns (places es) ≡ es
unfolding entries places entry_kind
entries-back ku kl done w [] e = refl
entries-back ku kl done w (n ∷ ns) e = let z : ◌≡◌ {A = ℕ} 0 1 = cc in absurd (omega arith)
entries-back ku kl (then h l) w [] e = let z : ◌≡◌ {A = ℕ} 0 1 = cc in absurd (omega arith)
entries-back ku kl (then {b} {f} {a} {es} h l) (Narrow.cons u v w) (n ∷ ns) e =
    let k : kind n ≡ kind_in f = cc in
    ap₂ {C = List Entry} (λ x y. x ∷ y)
    (ap₂ entry (ap code k ∙ code-kind_in f (omega arith)) (omega arith))
    (entries-back ku kl l w ns (ap list-tail e))

-- ---- how many nets

-- each net that begins ends
pub begun_by-twice : {ku kl b : ℕ} {es : List Entry} → Legal ku kl b es → (n : ℕ) → begun_by n es + begun_by n es + b ≤ length es + n + n
unfolding begun_by begun left last counted
begun_by-twice done n = omega arith
begun_by-twice {ku} {kl} (then {b} {f} {a} {es} h l) n = go (kind_in f) h (begun_by-twice l (begun (kind_in f) n))
  where
    go : (k : Kind) → FitsAt k ku kl (suc a) (counted k b) → begun_by (begun k n) es + begun_by (begun k n) es + left k b ≤ length es + begun k n + begun k n
        → begun_by (begun k n) es + begun_by (begun k n) es + b ≤ suc (length es) + n + n
    go B h i = omega arith
    go M h i = omega arith
    go E h i = omega (arith, h.high)
    go N h i = omega arith

net-low : (k : Kind) (a n x : ℕ) (o : List ℕ) → a < last k (counted k (length o)) → ((y : ℕ) → 0 < times y o → y < n) → net_at k a n o ≡ some x → x < begun k n
unfolding last counted begun net_at
net-low B a n x o h low e = let z : n ≡ x = cc in omega arith
net-low M a n x o h low e = let z : get_or o a 0 ≡ x = cc in omega (arith, low (get_or o a 0) (times-at o a h))
net-low E a n x o h low e = let z : get_or o a 0 ≡ x = cc in omega (arith, low (get_or o a 0) (times-at o a h))
net-low N a n x o h low e = let z : ◌≡◌ {A = ℕ} 0 1 = cc in absurd (omega arith)

-- the nets at pins are numbered below how many there are
nets-low : {ku kl b : ℕ} {es : List Entry} → Legal ku kl b es → (n : ℕ) (o pre : List ℕ) → length o ≡ b → Walk 0 pre n o
    → (i x : ℕ) → get_or (nets n o es) i none ≡ some x → x < begun_by n es
unfolding nets begun_by
nets-low done n o pre q w i x e = let z : ◌≡◌ {A = ℕ} 0 1 = cc in absurd (omega arith)
nets-low (then {b} {f} {a} {es} h l) n o pre q w zero x e =
    omega (arith, net-low (kind_in f) a n x o (rw q h.high) w.low e, begun_by-le (begun (kind_in f) n) es)
nets-low (then {b} {f} {a} {es} h l) n o pre q w (suc i) x e =
    let k : Kind = kind_in f in
    let g : a < last k (counted k (length o)) = rw q h.high in
    nets-low l (begun k n) (then-order k a n o) (pre ++ (labelled k a n o ∷ [])) (length-then k a n o g ∙ ap (left k) q) (walk-next 0 k a pre n o w g) i x e

-- ---- accepted sheets

-- what acceptance says, field by field
pub record Passed (s : List ℕ) : Type 0 where
  pub long : 2 ≤ length s
  pub count : wrong_count (count_of s) ≡ false
  pub tracks : takes (upper_of s) (lower_of s) ≡ true
  pub sized : length s ≡ size (count_of s)
  pub legal : Legal (upper_of s) (lower_of s) 0 (entries_of s)
  pub clear : padding_of s ≡ 0

pub keep-none {ℓ} : {A : Type ℓ} (t : Bool) (a : A) → keep t a ≡ none → t ≡ false
unfolding keep
keep-none true a e = let z : ◌≡◌ {A = ℕ} 0 1 = cc in absurd (omega arith)
keep-none false a e = refl

pub or_else-none {ℓ} : {A : Type ℓ} (x y : Option A) → or_else x y ≡ none → (x ≡ none) × (y ≡ none)
unfolding or_else
or_else-none none y e = (refl, e)
or_else-none (some a) y e = let z : ◌≡◌ {A = ℕ} 0 1 = cc in absurd (omega arith)

pub none-or_else {ℓ} : {A : Type ℓ} {x y : Option A} → x ≡ none → y ≡ none → or_else x y ≡ none
unfolding or_else
none-or_else e f = rw e f

pub none-keep {ℓ} : {A : Type ℓ} {t : Bool} (a : A) → t ≡ false → keep t a ≡ none
unfolding keep
none-keep a e = rw e

or-false : (a b : Bool) → a || b ≡ false → (a ≡ false) × (b ≡ false)
or-false true b e = let z : ◌≡◌ {A = ℕ} 0 1 = cc in absurd (omega arith)
or-false false b e = (refl, e)

module _ (s : List ℕ) where
  pub judge-passed : judge s ≡ none → Passed s
  unfolding judge head middle tail
  judge-passed e =
      let a = or_else-none (head s) (or_else (middle s) (tail s)) e in
      let b = or_else-none (middle s) (tail s) a.1 in
      let h₁ = or_else-none (keep (ltb (length s) 2 || wrong_count (count_of s)) Head) _ a.0 in
      let h₂ = or_else-none (keep (not (takes (upper_of s) (lower_of s))) Tracks) _ h₁.1 in
      let t = or_else-none (keep (not (eqb (left_open 0 (entries_of s)) 0)) (Open (count_of s))) _ b.1 in
      let c = or-false (ltb (length s) 2) (wrong_count (count_of s)) (keep-none _ Head h₁.0) in
      record {
        long = ltb-false (length s) 2 c.0;
        count = c.1;
        tracks = not-false (takes (upper_of s) (lower_of s)) (keep-none _ Tracks h₂.0);
        sized = eqb-true (length s) (size (count_of s)) (not-false _ (keep-none _ Length h₂.1));
        legal = scan-legal (upper_of s) (lower_of s) 1 0 (entries_of s) b.0 (eqb-true (left_open 0 (entries_of s)) 0 (not-false _ (keep-none _ (Open (count_of s)) t.0)));
        clear = eqb-true (padding_of s) 0 (not-false _ (keep-none _ Padding t.1));
      }

  pub passed-judge : Passed s → judge s ≡ none
  unfolding judge head middle tail
  passed-judge p =
      none-or_else
      (none-or_else (none-keep Head (rw (le-ltb (length s) 2 p.long, p.count)))
      (none-or_else (none-keep Tracks (rw p.tracks)) (none-keep Length (rw (eq-eqb (length s) (size (count_of s)) p.sized)))))
      (none-or_else (legal-scan (upper_of s) (lower_of s) 1 p.legal)
      (none-or_else (none-keep (Open (count_of s)) (rw (legal-open (upper_of s) (lower_of s) p.legal))) (none-keep Padding (rw p.clear))))

-- ---- the theorem

pub takes-le : (ku kl : ℕ) → takes ku kl ≡ true → (ku ≤ 3) × (kl ≤ 3)
unfolding takes
takes-le ku kl e = go (leb ku 3) (leb kl 3) refl refl e
  where
    go : (a b : Bool) → leb ku 3 ≡ a → leb kl 3 ≡ b → a && b ≡ true → (ku ≤ 3) × (kl ≤ 3)
    go true true ea eb e = (leb-true ku 3 ea, leb-true kl 3 eb)
    go true false ea eb e = let z : ◌≡◌ {A = ℕ} 0 1 = cc in absurd (omega arith)
    go false b ea eb e = let z : ◌≡◌ {A = ℕ} 0 1 = cc in absurd (omega arith)

pub count-within : (n : ℕ) → wrong_count n ≡ false → (2 ≤ n) × (n ≤ 512)
unfolding wrong_count
count-within n e = let c = or-false (ltb n 2) (ltb 512 n) e in (ltb-false n 2 c.0, ltb-false 512 n c.1)

pub within_count : (n : ℕ) → 2 ≤ n → n ≤ 512 → wrong_count n ≡ false
unfolding wrong_count
within_count n a b = rw (le-ltb n 2 a, le-ltb 512 n b)

pub le-takes : (ku kl : ℕ) → ku ≤ 3 → kl ≤ 3 → takes ku kl ≡ true
unfolding takes
le-takes ku kl a b = rw (le-leb ku 3 a, le-leb kl 3 b)

pub length-nodes : (row : List ℕ) → length (nodes row) ≡ length row
unfolding nodes
length-nodes row = length-tabulate (node_at row) (length row)

size-pos : (n : ℕ) → 2 ≤ size n
unfolding size
size-pos n = omega arith

-- each B and each blank of a row's nodes has its own number
tabulated-own : (row : List ℕ) (k i : ℕ) (f : ℕ → Node) → ((j : ℕ) → f j ≡ node_at row (i + j)) → Own i (tabulate f k)
unfolding tabulate node_at pick kind_of
tabulated-own row zero i f e = Own.nil
tabulated-own row (suc k) i f e =
    let q : f 0 ≡ node_at row i = e 0 ∙ ap (node_at row) (add-zero i) in
    rw q (one_more (blank row i) (tabulated-own row k (suc i) (λ j. f (suc j)) (λ j. e (suc j) ∙ ap (node_at row) (omega arith))))
  where
    own : (t l : Bool) → eqb (home row i) i ≡ t → New (kind_of t l) → home row i ≡ i
    own true l a b = eqb-true (home row i) i a
    own false true a b = absurd b
    own false false a b = absurd b

    one_more : (t : Bool) {ns : List Node} → Own (suc i) ns
        → Own i (pick t (node N i) (node (kind_of (eqb (home row i) i) (later row i)) (home row i)) ∷ ns)
    one_more true o = Own.cons (λ b. refl) o
    one_more false o = Own.cons (own (eqb (home row i) i) (later row i) refl) o

pub nodes-own : (row : List ℕ) → Own 0 (nodes row)
unfolding nodes
nodes-own row = tabulated-own row (length row) 0 (node_at row) (λ j. ap (node_at row) (sym (zero-add j)))

module _ (row : List ℕ) (ku kl : ℕ) (ps : List ℕ) (p : Placed row ku kl ps) where
  -- the fields of the sheet of a placing
  pub placed-laid : LaidOut ku kl (entries (nodes row) ps) (sheet ku kl (nodes row) ps)
  unfolding sheet
  placed-laid =
      let n : length (entries (nodes row) ps) ≡ length row = length-entries ku kl (nodes row) [] ps [] p.placing ∙ length-nodes row in
      laid_out ku kl (omega (arith, p.upper)) (omega (arith, p.lower)) (omega (arith, p.most)) (narrow-entries ku kl p.upper (nodes row) [] ps [] p.placing)

  pub placed-passed : Passed (sheet ku kl (nodes row) ps)
  placed-passed =
      let l = placed-laid in
      let n : length (entries (nodes row) ps) ≡ length row = length-entries ku kl (nodes row) [] ps [] p.placing ∙ length-nodes row in
      record {
        long = rw l.sized (size-pos (length (entries (nodes row) ps)));
        count = rw (l.count, n) (within_count (length row) p.least p.most);
        tracks = rw (l.upper, l.lower) (le-takes ku kl p.upper p.lower);
        sized = l.sized ∙ ap size (sym l.count);
        legal = rw (l.upper, l.lower, l.nodes) (placing-legal ku kl (nodes row) [] ps p.placing);
        clear = l.clear;
      }

module _ (s : List ℕ) where
  pub sheet-accepted : SheetOf s → judge s ≡ none
  sheet-accepted x = ap judge x.is ∙ passed-judge (sheet x.ku x.kl (nodes x.row) x.ps) (placed-passed x.row x.ku x.kl x.ps x.placed)

  pub crowded-few : crowded s ≡ none → nets_of s ≤ 255
  unfolding crowded
  crowded-few e = ltb-false 255 (nets_of s) (keep-none _ Nets e)

  pub few-crowded : nets_of s ≤ 255 → crowded s ≡ none
  unfolding crowded
  few-crowded h = none-keep Nets (le-ltb 255 (nets_of s) h)

  -- the reader's rules are the judgement and at most 255 nets
  pub readable-exactly : readable s ≡ none ↔ ((judge s ≡ none) × (nets_of s ≤ 255))
  unfolding readable
  readable-exactly =
      (λ e. let a = or_else-none (judge s) (crowded s) e in (a.0, crowded-few a.1), λ p. none-or_else p.0 (few-crowded p.1))

  -- a sheet that passes is that of its row with the nets numbered from m on, where none is 255
  sheet-from : (m : ℕ) → Clear m m (entries_of s) → Below 256 s → judge s ≡ none → SheetOf s
  unfolding sheet
  sheet-from m clear b e =
      let p = judge-passed s e in
      let row : List ℕ = labels m [] (entries_of s) in
      let k = given_back (upper_of s) (lower_of s) m p.legal clear in
      let n : length row ≡ count_of s = k.count ∙ length-entries_of s in
      let c = count-within (count_of s) p.count in
      let t = takes-le (upper_of s) (lower_of s) p.tracks in
      record {
        row = row;
        ku = upper_of s;
        kl = lower_of s;
        ps = places (entries_of s);
        placed =
            record {
              least = rw n c.0;
              most = rw n c.1;
              whole = k.whole;
              upper = t.0;
              lower = t.1;
              placing = k.placing;
            };
        is = laid-out-again b p.sized p.clear
            ∙ ap (λ es. bytes (sheet_bits (upper_of s) (lower_of s) es))
            (sym (entries-back (upper_of s) (lower_of s) p.legal (narrow-entries_of s) (nodes row) k.kinds));
      }

  -- the judgement passes exactly for the sheets of placings, of 256 nets too
  pub taken : Below 256 s → judge s ≡ none ↔ SheetOf s
  taken b = (sheet-from 256 (λ x h l (q : x ≡ 255). omega arith) b, sheet-accepted)

  few-clear : nets_of s ≤ 255 → Clear 0 0 (entries_of s)
  unfolding nets_of
  few-clear few x h l q = omega arith

  -- one of at most 255 nets is that of the row given back
  pub accepted-sheet : Below 256 s → judge s ≡ none → nets_of s ≤ 255 → SheetOf s
  accepted-sheet b e few = sheet-from 0 (few-clear few) b e

  pub accepted-row : (b : Below 256 s) (e : judge s ≡ none) (few : nets_of s ≤ 255) → (accepted-sheet b e few).row ≡ row_of s
  unfolding accepted-sheet sheet-from row_of pins_of
  accepted-row b e few = refl

  -- the row given back has the pins of every row whose sheet this is
  pub given-pins : (x : SheetOf s) → nets_of s ≤ 255 → SamePins x.row (row_of s)
  unfolding row_of pins_of
  given-pins x few =
      let p = judge-passed s (sheet-accepted x) in
      let k = given_back (upper_of s) (lower_of s) 0 p.legal (few-clear few) in
      let l = placed-laid x.row x.ku x.kl x.ps x.placed in
      let run₁ = x.placed.placing in
      let es : entries_of s ≡ entries (nodes x.row) x.ps = ap entries_of x.is ∙ l.nodes in
      let ku : upper_of s ≡ x.ku = ap upper_of x.is ∙ l.upper in
      let kl : lower_of s ≡ x.kl = ap lower_of x.is ∙ l.lower in
      let ps : places (entries_of s) ≡ x.ps = ap places es ∙ places-entries x.ku x.kl (nodes x.row) [] x.ps [] run₁ in
      let run₂ : run x.ku x.kl (nodes (row_of s)) [] x.ps ≡ some [] =
      ap₂ (λ u d. run u d (nodes (row_of s)) [] x.ps) (sym ku) (sym kl)
      ∙ ap (run (upper_of s) (lower_of s) (nodes (row_of s)) []) (sym ps) ∙ k.placing in
      nodes-same x.row (row_of s)
      (same_entries x.ku x.kl (nodes-own x.row) (nodes-own (row_of s)) [] x.ps [] [] run₁ run₂
      (sym (kinds-entries x.ku x.kl (nodes x.row) [] x.ps [] run₁) ∙ ap (map entry_kind) (sym es) ∙ sym k.kinds))

  -- and is labelled 0, 1, 2 in the order of the nets' first nodes
  pub given-numbered : readable s ≡ none → Numbered 0 (row_of s)
  unfolding row_of pins_of
  given-numbered e = let r = readable-exactly.0 e in (given_back (upper_of s) (lower_of s) 0 (judge-passed s r.0).legal (few-clear r.1)).numbered

  -- nets are numbered below how many there are; there are at most half as many as nodes
  pub pins-low : judge s ≡ none → (i x : ℕ) → get_or (pins_of s) i none ≡ some x → x < nets_of s
  unfolding pins_of nets_of
  pins-low e = nets-low (judge-passed s e).legal 0 [] [] refl (no_walk 0)

  pub nets-half : judge s ≡ none → nets_of s + nets_of s ≤ count_of s
  unfolding nets_of
  nets-half e = omega (arith, begun_by-twice (judge-passed s e).legal 0, length-entries_of s)

  -- accepted exactly when it is the sheet of some row's placing and has at most 255 nets
  pub accepted : Below 256 s → readable s ≡ none ↔ (SheetOf s × (nets_of s ≤ 255))
  accepted b =
      (λ e. let r = readable-exactly.0 e in ((taken b).0 r.0, r.1), λ x. readable-exactly.1 (sheet-accepted x.0, x.1))

-- two sheets of placings are equal exactly when track counts, kinds and positions are; then the rows join the same pins
module _ (row row' : List ℕ) (ku kl ku' kl' : ℕ) (ps ps' : List ℕ) (p : Placed row ku kl ps) (p' : Placed row' ku' kl' ps') where
  pub record SameFields : Type 0 where
    pub upper : ku ≡ ku'
    pub lower : kl ≡ kl'
    pub kinds : map kind (nodes row) ≡ map kind (nodes row')
    pub positions : ps ≡ ps'

  pub sheets-fields : sheet ku kl (nodes row) ps ≡ sheet ku' kl' (nodes row') ps' → SameFields
  sheets-fields e =
      let l = placed-laid row ku kl ps p in
      let l' = placed-laid row' ku' kl' ps' p' in
      let es : entries (nodes row) ps ≡ entries (nodes row') ps' = sym l.nodes ∙ ap entries_of e ∙ l'.nodes in
      record {
        upper = sym l.upper ∙ ap upper_of e ∙ l'.upper;
        lower = sym l.lower ∙ ap lower_of e ∙ l'.lower;
        kinds =
            sym (kinds-entries ku kl (nodes row) [] ps [] p.placing) ∙ ap (map entry_kind) es
            ∙ kinds-entries ku' kl' (nodes row') [] ps' [] p'.placing;
        positions =
            sym (places-entries ku kl (nodes row) [] ps [] p.placing) ∙ ap places es ∙ places-entries ku' kl' (nodes row') [] ps' [] p'.placing;
      }

  pub fields-nodes : SameFields → nodes row ≡ nodes row'
  fields-nodes f =
      same_entries ku kl (nodes-own row) (nodes-own row') [] ps [] [] p.placing
      (ap₂ (λ u d. run u d (nodes row') [] ps) f.upper f.lower ∙ ap (run ku' kl' (nodes row') []) f.positions ∙ p'.placing) f.kinds

  pub fields-sheets : SameFields → sheet ku kl (nodes row) ps ≡ sheet ku' kl' (nodes row') ps'
  fields-sheets f = ap₂ (λ u d. sheet u d (nodes row) ps) f.upper f.lower ∙ ap₂ (sheet ku' kl') (fields-nodes f) f.positions

  pub same-sheets : sheet ku kl (nodes row) ps ≡ sheet ku' kl' (nodes row') ps' ↔ SameFields
  same-sheets = (sheets-fields, fields-sheets)

  pub same-sheet-pins : sheet ku kl (nodes row) ps ≡ sheet ku' kl' (nodes row') ps' → SamePins row row'
  same-sheet-pins e = nodes-same row row' (fields-nodes (sheets-fields e))
