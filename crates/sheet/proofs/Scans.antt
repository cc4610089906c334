-- The walk over nodes by their fields: what is left of the scan at a node, with the count of open nets there.
use mathlib.Core.Path.{◌≡◌, refl, sym, ap, ◌∙◌}
use mathlib.Core.Bool.{true, false}
use mathlib.Core.List.{List, [], ◌∷◌}
use mathlib.Core.Option.{none, some}
use Prim.Native.Nat.{ℕ, zero, suc, ◌+◌, ◌/◌, ◌%◌, ◌≤◌, ◌<◌}
use native.Mathlib.Nat.{not-suc-le-zero, le_of_suc-le-suc}
use native.Mathlib.Numerals.{add-one}
use native.Mathlib.Omega.{arith}
use lib.ListN.{length, get_or, drop, length-map}
use lib.Seq.{drop-length}
use Rattle.rules.specs.Basic.{or_else}
use Rattle.rules.specs.declared.Kind.{Kind}
use Rattle.rules.specs.declared.Kind.TheVariants.{E}
use Rattle.rules.specs.Street.{last, counted, fits_at}
use Rattle.rules.specs.Sheet.{Entry, entry}
use Rattle.rules.specs.Judgement.{fault_at, left, scan, left_open}
use Rattle.rules.proofs.Fits.{FitsAt, fits_at→, →fits_at}
use Rattle.rules.proofs.Legal.{left_le, clear-fits, fits-clear}
use Rattle.rules.specs.declared.Fault.{Fault}
use Rattle.std.specs.Prelude.{Ok, Err}
use Rattle.sheet.specs.Fields.{entry_in, entries_in}
use Rattle.sheet.specs.Told.{passed, kind_at, above_at}
use Rattle.sheet.proofs.Tells.{passed-fault, passed_none, after_none, after-fault}

-- the entries from node i on are its own and those after it
pub entries_from : (fs : List ℕ) (i : ℕ) → i < length fs → drop i (entries_in fs) ≡ entry_in (get_or fs i 0) ∷ drop (suc i) (entries_in fs)
entries_from [] i h = absurd (not-suc-le-zero h)
entries_from (x ∷ fs) zero h = refl
entries_from (x ∷ fs) (suc i) h = entries_from fs i (le_of_suc-le-suc h)

pub entries-end : (fs : List ℕ) (i : ℕ) → i ≡ length fs → drop i (entries_in fs) ≡ []
entries-end fs i e = rw (e ∙ sym (length-map fs entry_in)) (drop-length (entries_in fs))

scan-cons : (ku kl i b : ℕ) (e : Entry) (es : List Entry)
    → scan ku kl i b (e ∷ es) ≡ or_else (fault_at ku kl i b e) (scan ku kl (suc i) (left (kind_at e) b) es)
unfolding scan kind_at
scan-cons ku kl i b (entry f a) es = refl

open-cons : (b : ℕ) (e : Entry) (es : List Entry) → left_open b (e ∷ es) ≡ left_open (left (kind_at e) b) es
unfolding left_open kind_at
open-cons b (entry f a) es = refl

-- the nodes before i have no fault, and leave b nets open: what is found from there on is what is found of all
pub record Scanned (ku kl : ℕ) (fs : List ℕ) (i b : ℕ) : Type 0 where
  pub within : i ≤ length fs
  pub few : b ≤ ku + kl
  pub faults : scan ku kl (suc i) b (drop i (entries_in fs)) ≡ scan ku kl 1 0 (entries_in fs)
  pub opens : left_open b (drop i (entries_in fs)) ≡ left_open 0 (entries_in fs)

module _ {ku kl : ℕ} {fs : List ℕ} {i b : ℕ} (m : Scanned ku kl fs i b) where
  module _ (h : i < length fs) where
    -- node i's entry
    abbrev own : Entry
    own = entry_in (get_or fs i 0)

    -- the limits are asked of its kind, and of how many wires it has above
    module _ {k : Kind} {a : ℕ} (p : k ≡ kind_at own) (q : a ≡ above_at own) where
      module _ (legal : true ≡ fits_at k ku kl (suc a) (counted k b)) where
        fits : FitsAt k ku kl (suc a) (counted k b)
        fits = fits_at→ ku kl (suc a) (counted k b) k (rw (← legal) tt)

        -- a net that ends is open
        pub ends_open : k ≡ E → 0 < b
        unfolding last counted
        ends_open j =
            let g : FitsAt E ku kl (suc a) b = rw j at fits in
            omega (arith, g.high)

        -- the walk goes on
        pub scan_step : {b' : ℕ} → b' ≡ left k b → Scanned ku kl fs (i + 1) b'
        unfolding entry_in kind_at above_at
        scan_step {b'} l =
            let f : FitsAt (kind_at own) ku kl (suc (above_at own)) (counted (kind_at own) b) = rw (← p, ← q) fits in
            let clear : fault_at ku kl (suc i) b own ≡ none = fits-clear ku kl (suc i) b (get_or fs i 0 / 16) (get_or fs i 0 % 16) f in
            rw (add-one i, l, p)
            (record {
              within = h;
              few = omega (arith, left_le (kind_at own) b, f.sum);
              faults =
                  sym (after_none (scan ku kl (suc (suc i)) (left (kind_at own) b) (drop (suc i) (entries_in fs))) clear)
                  ∙ sym (scan-cons ku kl (suc i) b own (drop (suc i) (entries_in fs)))
                  ∙ ap (scan ku kl (suc i) b) (sym (entries_from fs i h))
                  ∙ m.faults;
              opens = sym (open-cons b own (drop (suc i) (entries_in fs))) ∙ ap (left_open b) (sym (entries_from fs i h)) ∙ m.opens;
            })

      -- a node that is not legal has a fault
      pub scan-stops : false ≡ fits_at k ku kl (suc a) (counted k b) → fault_at ku kl (i + 1) b own ≡ none → ⊥
      unfolding entry_in kind_at above_at
      scan-stops r n =
          let clear : fault_at ku kl (suc i) b own ≡ none = rw (← add-one i) n in
          let f = clear-fits ku kl (suc i) b (get_or fs i 0 / 16) (get_or fs i 0 % 16) clear in
          let g : FitsAt k ku kl (suc a) (counted k b) = rw (p, q) f in
          rw (← r) at (→fits_at ku kl (suc a) (counted k b) k g)

    -- which is the first of all
    pub scan-fault : {e : Fault} → fault_at ku kl (i + 1) b own ≡ some e → Err e ≡ passed (scan ku kl 1 0 (entries_in fs)) (left_open 0 (entries_in fs))
    scan-fault {e} f =
        let told : fault_at ku kl (suc i) b own ≡ some e = rw (add-one i) at f in
        passed-fault (left_open 0 (entries_in fs))
        (sym m.faults
        ∙ ap (scan ku kl (suc i) b) (entries_from fs i h)
        ∙ scan-cons ku kl (suc i) b own (drop (suc i) (entries_in fs))
        ∙ after-fault (scan ku kl (suc (suc i)) (left (kind_at own) b) (drop (suc i) (entries_in fs))) told)

  -- no node has a fault
  pub scan-end : length fs ≤ i → Ok b ≡ passed (scan ku kl 1 0 (entries_in fs)) (left_open 0 (entries_in fs))
  unfolding scan left_open
  scan-end h =
      let none_left = entries-end fs i (omega (arith, m.within)) in
      let clear : scan ku kl 1 0 (entries_in fs) ≡ none = sym m.faults ∙ rw none_left in
      let nets : left_open 0 (entries_in fs) ≡ b = sym m.opens ∙ rw none_left in
      passed_none b clear ∙ ap (passed (scan ku kl 1 0 (entries_in fs))) (sym nets)
