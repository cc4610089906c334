-- A walk over nodes without a fault by their fields: each is ready for its turn, and the labels are those of their row.
use mathlib.Core.Path.{◌≡◌, refl, sym, ap, ◌∙◌}
use mathlib.Core.List.{List, [], ◌∷◌}
use mathlib.Core.Option.{none}
use Prim.Native.Nat.{ℕ, suc, ◌+◌, ◌*◌, ◌≤◌, ◌<◌}
use native.Mathlib.Numerals.{add-one}
use native.Mathlib.Omega.{arith}
use lib.ListN.{length, get_or, take, drop, length-drop, length-map}
use lib.Seq.{drop-cons, length-take-le}
use Rattle.rules.specs.declared.Kind.{Kind}
use Rattle.rules.specs.declared.Kind.TheVariants.{B, M, E, N}
use Rattle.rules.specs.Row.{node}
use Rattle.rules.specs.Street.{last, counted, next}
use Rattle.rules.specs.Sheet.{kind_in, Entry, entry, upper_of, lower_of, count_of, entries_of, begun, begun_by, nets_of, nets, net_at, pins_of, row_of}
use Rattle.rules.specs.Judgement.{left, judge}
use Rattle.rules.proofs.Fits.{FitsAt}
use Rattle.rules.proofs.Legal.{Legal, done, then, scan-legal, legal-scan, legal-open}
use Rattle.rules.proofs.SheetFields.{length-entries_of}
use Rattle.rules.proofs.GivenBack.{labelled, labels, length-then, length-labels}
use Rattle.rules.proofs.Accepted.{judge-passed}
use Rattle.sheet.specs.declared.reader.Walk.{Walk}
use Rattle.sheet.specs.Fields.{entry_in, entries_in, row_in, Unpacked, Faultless}
use Rattle.sheet.specs.Told.{kind_at, above_at}
use Rattle.sheet.specs.Walk.{Ready, label_on, after}
use Rattle.sheet.proofs.Heads.{headed}
use Rattle.sheet.proofs.Readings.{headless}
use Rattle.sheet.proofs.Scans.{entries_from}

-- a placing that meets the limits meets those of wider streets
legal-widest : {ku kl b : ℕ} {es : List Entry} → ku ≤ 3 → kl ≤ 3 → Legal ku kl b es → Legal 3 3 b es
legal-widest u l done = done
legal-widest {ku} {kl} u l (then {b} {f} {a} {es} h r) =
    then {b = b} {f = f} {a = a} {es = es}
    (record { low = h.low; high = h.high; upper = omega (arith, h.upper); lower = omega (arith, h.lower); sum = omega (arith, h.sum) })
    (legal-widest u l r)

pub faultless-legal : {ku kl : ℕ} {fs : List ℕ} → Faultless ku kl fs → Legal ku kl 0 (entries_in fs)
faultless-legal {ku} {kl} {fs} f = scan-legal ku kl 1 0 (entries_in fs) f.clear f.closed

-- what has no fault under some track counts has none under the most that there are
pub faultless-widest : {ku kl : ℕ} {fs : List ℕ} → Faultless ku kl fs → Faultless 3 3 fs
faultless-widest {ku} {kl} {fs} f =
    let l = legal-widest f.upper f.lower (faultless-legal f) in
    record {
      upper = omega arith;
      lower = omega arith;
      few = f.few;
      clear = legal-scan 3 3 1 l;
      closed = legal-open 3 3 l;
    }

-- the first bytes are the fields of all nodes of a sheet without a fault
pub faultless : (s : List ℕ) {fields : List ℕ} → judge s ≡ none → Unpacked s fields → Faultless (upper_of s) (lower_of s) (take (count_of s) fields)
faultless s {fields} e u =
    let h = headed s (headless s e) in
    let l = (judge-passed s e).legal in
    record {
      upper = h.upper;
      lower = h.lower;
      few = omega (arith, h.high, length-take-le (count_of s) fields u.within);
      clear = rw u.entries (legal-scan (upper_of s) (lower_of s) 1 l);
      closed = rw u.entries (legal-open (upper_of s) (lower_of s) l);
    }

-- with a sheet's entries, their row and their nets are the sheet's
module _ (s fs : List ℕ) (e : entries_in fs ≡ entries_of s) where
  pub entries-row : row_in fs ≡ row_of s
  unfolding row_of pins_of
  entries-row = ap (labels 0 []) e

  pub entries-nets : begun_by 0 (entries_in fs) ≡ nets_of s
  unfolding nets_of
  entries-nets = ap (begun_by 0) e

-- ---- what a legal entry allows

record Allowed (ku kl b : ℕ) (e : Entry) (es : List Entry) : Type 0 where
  fits : FitsAt (kind_at e) ku kl (suc (above_at e)) (counted (kind_at e) b)
  rest : Legal ku kl (left (kind_at e) b) es

allowed : {ku kl b : ℕ} {e : Entry} {es : List Entry} → Legal ku kl b (e ∷ es) → Allowed ku kl b e es
unfolding kind_at above_at
allowed (then h l) = record { fits = h; rest = l }

-- every open net has a node ahead that ends it
pub legal-few : {ku kl b : ℕ} {es : List Entry} → Legal ku kl b es → b ≤ length es
unfolding left
legal-few done = omega arith
legal-few (then {b} {f} {es = es} h l) = go (kind_in f) (legal-few l)
  where
    go : (k : Kind) → left k b ≤ length es → b ≤ suc (length es)
    go B h = omega arith
    go M h = omega arith
    go E h = omega arith
    go N h = omega arith

-- ---- the labels of a sheet's row

labels-cons : (n : ℕ) (o : List ℕ) (e : Entry) (es : List Entry)
    → labels n o (e ∷ es) ≡ labelled (kind_at e) (above_at e) n o ∷ labels (begun (kind_at e) n) (next (node (kind_at e) n) o (suc (above_at e))) es
unfolding nets net_at kind_at above_at
labels-cons n o (entry f a) es = refl

pub length-row : (s : List ℕ) → length (row_of s) ≡ count_of s
unfolding row_of pins_of
length-row s = length-labels 0 [] (entries_of s) ∙ length-entries_of s

pub length-row_in : (fs : List ℕ) → length (row_in fs) ≡ length fs
length-row_in fs = length-labels 0 [] (entries_in fs) ∙ length-map fs entry_in

-- ---- the walk

module _ (fs : List ℕ) {ku kl : ℕ} (d : Faultless ku kl fs) where
  -- before node i: the walk's order, with the nets begun, is legal for the entries from there on, whose labels are the rest of the row
  pub record Walked (i : ℕ) (w : Walk) : Type 0 where
    pub within : i ≤ length fs
    pub legal : Legal ku kl (length w.order) (drop i (entries_in fs))
    pub few : 2 * w.begun ≤ i + length w.order
    pub ahead : labels w.begun w.order (drop i (entries_in fs)) ≡ drop i (row_in fs)

  pub walk_start : (o : List ℕ) → o ≡ [] → Walked 0 (record { order = o; begun = 0 })
  walk_start o e =
      record {
        within = omega arith;
        legal = rw e (faultless-legal d);
        few = omega arith;
        ahead = rw e;
      }

  module _ (i : ℕ) (h : i < length fs) (w : Walk) (m : Walked i w) where
    -- node i's entry
    abbrev own : Entry
    own = entry_in (get_or fs i 0)

    here : Allowed ku kl (length w.order) own (drop (suc i) (entries_in fs))
    here = allowed (rw (entries_from fs i h) at m.legal)

    -- each net has two of at most 512 nodes: a new one has a number below 256
    pub walk-ready : Ready own w
    unfolding begun left counted
    walk-ready =
        record {
          stands = here.fits.high;
          few = omega (arith, here.fits.sum, d.upper, d.lower);
          small = go (kind_at own) (legal-few here.rest);
        }
      where
        go : (k : Kind) → left k (length w.order) ≤ length (drop (suc i) (entries_in fs)) → begun k w.begun ≤ 256
        go B l = omega (arith, length-drop (suc i) (entries_in fs), length-map fs entry_in, m.few, d.few)
        go M l = omega (arith, length-drop (suc i) (entries_in fs), length-map fs entry_in, m.few, d.few)
        go E l = omega (arith, length-drop (suc i) (entries_in fs), length-map fs entry_in, m.few, d.few)
        go N l = omega (arith, length-drop (suc i) (entries_in fs), length-map fs entry_in, m.few, d.few)

    abbrev passed : Walk
    passed = after w own

    both : (label_on w own ∷ labels passed.begun passed.order (drop (suc i) (entries_in fs))) ≡ get_or (row_in fs) i 0 ∷ drop (suc i) (row_in fs)
    unfolding label_on after
    both =
        sym (labels-cons w.begun w.order own (drop (suc i) (entries_in fs)))
        ∙ ap (labels w.begun w.order) (sym (entries_from fs i h))
        ∙ m.ahead
        ∙ drop-cons (row_in fs) i 0 (omega (arith, length-row_in fs))

    -- the label is the row's
    pub walk-label : {x : ℕ} → x ≡ label_on w own → x ≡ get_or (row_in fs) i 0
    walk-label e = cc both

    -- the wires after the node
    wires : length passed.order ≡ left (kind_at own) (length w.order)
    unfolding after
    wires = length-then (kind_at own) (above_at own) w.begun w.order here.fits.high

    nets-begun : passed.begun ≡ begun (kind_at own) w.begun
    unfolding after
    nets-begun = refl

    pub walk_step : {v : Walk} → v ≡ after w own → Walked (i + 1) v
    unfolding begun left last counted
    walk_step e =
        rw e
        (record {
          within = omega arith;
          legal = rw (add-one i, wires) here.rest;
          few = rw (wires, nets-begun) (go (kind_at own) here.fits.high);
          ahead = rw (add-one i) (cc both);
        })
      where
        go : (k : Kind) → suc (above_at own) ≤ last k (counted k (length w.order)) → 2 * begun k w.begun ≤ i + 1 + left k (length w.order)
        go B l = omega (arith, m.few)
        go M l = omega (arith, m.few)
        go E l = omega (arith, m.few)
        go N l = omega (arith, m.few)
