-- Labels and nets: a row of bytes has at most 255 nets, one for each label besides that of blanks; the row given back, of at most 255 nets, is one
-- of bytes that joins two pins exactly where one net is at both, and is blank exactly where none is.
use mathlib.Core.Path.{◌≡◌, refl, sym, ap, ◌∙◌}
use mathlib.Core.Bool.{Bool, true, false, not, ◌&&◌}
use mathlib.Core.List.{List, [], ◌∷◌, map}
use mathlib.Core.Logic.{◌↔◌}
use mathlib.Core.Option.{Option, none, some}
use Prim.Native.Nat.{ℕ, zero, suc, ◌+◌, ◌≤◌, ◌<◌}
use native.Mathlib.Nat.{add-zero, le_of_suc-le-suc, not-suc-le-zero}
use native.Mathlib.Omega.{arith}
use lib.ListN.{length, get_or, length-map}
use lib.Dec.{eqb, ltb}
use borrow.Author.Tests.{eqb-true, eqb-false, eq-eqb, ne_eqb, ltb-true, lt-ltb, le-ltb}
use Rattle.rules.specs.Basic.{pick, tabulate}
use Rattle.rules.specs.declared.Kind.TheVariants.{N}
use Rattle.rules.specs.Row.{before, blank, joined, home, later, Node, node, node_at, nodes, kind_of}
use Rattle.rules.specs.Street.{kind}
use Rattle.rules.specs.Bits.{Below}
use Rattle.rules.specs.Sheet.{code, kind_in, entries, begun, begun_by, nets_of, pins_of, label, row_of, sheet, Placed, SheetOf}
use Rattle.rules.specs.Judgement.{readable}
use Rattle.rules.proofs.Fields.{below_at, below-from}
use Rattle.rules.proofs.Open.{one}
use Rattle.rules.proofs.Legal.{kind_in-code}
use Rattle.rules.proofs.Accepted.{placed-laid, readable-exactly, pins-low, accepted-sheet, accepted-row}

-- how many numbers below m pass a test
count : (ℕ → Bool) → ℕ → ℕ
count f zero = 0
count f (suc m) = one (f m) + count f m

one-le : (a b : Bool) → (a ≡ true → b ≡ true) → (one a ≤ one b) × (one a ≤ 1)
unfolding one
one-le true b h = rw (h refl) (omega arith)
one-le false b h = omega arith

module _ (f g : ℕ → Bool) (more : (y : ℕ) → f y ≡ true → g y ≡ true) where
  count-more : (m : ℕ) → (count f m ≤ count g m) × (count f m ≤ m)
  unfolding count
  count-more zero = omega arith
  count-more (suc m) = omega (arith, one-le (f m) (g m) (more m), count-more m)

  -- a number that passes only the second test
  count-new : (m y : ℕ) → y < m → f y ≡ false → g y ≡ true → suc (count f m) ≤ count g m
  unfolding count one
  count-new zero y h e e' = absurd (omega arith)
  count-new (suc m) y h e e' = go (eqb y m) refl (λ l. count-new m y l e e')
    where
      go : (t : Bool) → eqb y m ≡ t → (y < m → suc (count f m) ≤ count g m) → suc (one (f m) + count f m) ≤ one (g m) + count g m
      go true q ih =
          let y≡ : y ≡ m = eqb-true y m q in
          let z : f m ≡ false = rw y≡ at e in
          let z' : g m ≡ true = rw y≡ at e' in
          rw (z, z') (omega (arith, count-more m))
      go false q ih = omega (arith, one-le (f m) (g m) (more m), ih (omega (arith, eqb-false y m q)))

module _ (row : List ℕ) (b : Below 256 row) where
  -- label y stands before node i
  stood : ℕ → ℕ → Bool
  stood i y = ltb (before y row) i

  stood-more : (i y : ℕ) → stood i y ≡ true → stood (suc i) y ≡ true
  unfolding stood
  stood-more i y e = lt-ltb (before y row) (suc i) (omega (arith, ltb-true (before y row) i e))

  -- as many labels of nets stand before a node as nets begin there, or more
  begun-stood : (i n : ℕ) → i < length row → n ≤ count (stood i) 255 → begun (kind (node_at row i)) n ≤ count (stood (suc i)) 255
  unfolding node_at pick kind kind_of begun home stood blank
  begun-stood i n h l = go (blank row i) (eqb (home row i) i) (later row i) refl refl
    where
      old : n ≤ count (stood (suc i)) 255
      old = omega (arith, count-more (stood i) (stood (suc i)) (stood-more i) 255)

      go : (t f m : Bool) → blank row i ≡ t → eqb (home row i) i ≡ f
          → begun (kind (pick t (node N i) (node (kind_of f m) (home row i)))) n ≤ count (stood (suc i)) 255
      go true f m et ef = old
      go false true m et ef =
          let y : ℕ = get_or row i 0 in
          let e : before y row ≡ i = eqb-true (home row i) i ef in
          let not_255 : y ≡ 255 → ⊥ = eqb-false y 255 et in
          omega (
            arith,
            count-new (stood i) (stood (suc i)) (stood-more i) 255 y (omega (arith, below_at b i 0 h))
                (le-ltb (before y row) i (omega arith)) (lt-ltb (before y row) (suc i) (omega arith)),
          )
      go false false true et ef = old
      go false false false et ef = old

  begun-few : (k i n : ℕ) (f : ℕ → Node) (ps : List ℕ) → ((j : ℕ) → j < k → f j ≡ node_at row (i + j)) → i + k ≡ length row
      → n ≤ count (stood i) 255 → begun_by n (entries (tabulate f k) ps) ≤ 255
  unfolding tabulate entries begun_by
  begun-few zero i n f ps e q l = omega (arith, count-more (stood i) (stood i) (λ y t. t) 255)
  begun-few (suc k) i n f [] e q l = omega (arith, count-more (stood i) (stood i) (λ y t. t) 255)
  begun-few (suc k) i n f (p ∷ ps) e q l =
      let k≡ : kind_in (code (kind (f 0))) ≡ kind (node_at row i) = kind_in-code (kind (f 0)) ∙ ap kind (e 0 (omega arith) ∙ ap (node_at row) (add-zero i)) in
      omega (
        arith,
        ap (λ c. begun_by (begun c n) (entries (tabulate (λ j. f (suc j)) k) ps)) k≡,
        begun-few k (suc i) (begun (kind (node_at row i)) n) (λ j. f (suc j)) ps (λ j h. e (suc j) (omega arith) ∙ ap (node_at row) (omega arith)) (omega arith)
            (begun-stood i n (omega arith) l),
      )

  -- a row of bytes has at most 255 nets
  pub few-nets : (ps : List ℕ) → begun_by 0 (entries (nodes row) ps) ≤ 255
  unfolding nodes
  few-nets ps = begun-few (length row) 0 0 (node_at row) ps (λ j h. ap (node_at row) (omega arith)) (omega arith) (omega arith)

-- and so has its sheet
pub placed-few : (row : List ℕ) (ku kl : ℕ) (ps : List ℕ) → Below 256 row → Placed row ku kl ps → nets_of (sheet ku kl (nodes row) ps) ≤ 255
unfolding nets_of
placed-few row ku kl ps b p = rw (placed-laid row ku kl ps p).nodes (few-nets row b ps)

-- ---- the row given back

get_or-label : (pins : List (Option ℕ)) (i : ℕ) → i < length pins → get_or (map label pins) i 0 ≡ label (get_or pins i none)
get_or-label [] i h = absurd (not-suc-le-zero h)
get_or-label (m ∷ pins) zero h = refl
get_or-label (m ∷ pins) (suc i) h = get_or-label pins i (le_of_suc-le-suc h)

-- a pin whose net has a label of its own
abbrev Small : Option ℕ → Type 0
Small m = (x : ℕ) → m ≡ some x → x < 255

label-lt : (m : Option ℕ) → Small m → label m < 256
unfolding label
label-lt none h = omega arith
label-lt (some x) h = omega (arith, h x refl)

label-blank : (m : Option ℕ) → Small m → eqb (label m) 255 ≡ true ↔ (m ≡ none)
unfolding label
label-blank none h = (λ e. refl, λ e. refl)
label-blank (some x) h =
    (λ e. absurd (omega (arith, h x refl, eqb-true x 255 e)), λ e. let z : ◌≡◌ {A = ℕ} 0 1 = cc in absurd (omega arith))

-- one net is at both
abbrev pub Shared : Option ℕ → Option ℕ → Type 0
Shared m m' = (x : ℕ) × (m ≡ some x) × (m' ≡ some x)

label-joined : (m m' : Option ℕ) → Small m → not (eqb (label m) 255) && eqb (label m) (label m') ≡ true ↔ Shared m m'
unfolding label
label-joined m m' h = (to m m' h, from)
  where
    to : (m m' : Option ℕ) → Small m → not (eqb (label m) 255) && eqb (label m) (label m') ≡ true → Shared m m'
    to none m' h e = let z : ◌≡◌ {A = ℕ} 0 1 = cc in absurd (omega arith)
    to (some x) m' h e = at m' (rw (ne_eqb x 255 (λ (q : x ≡ 255). omega (arith, h x refl))) at e)
      where
        at : (m' : Option ℕ) → eqb x (label m') ≡ true → Shared (some x) m'
        at none e = absurd (omega (arith, h x refl, eqb-true x 255 e))
        at (some y) e = (x, refl, ap some (sym (eqb-true x y e)))

    from : Shared m m' → not (eqb (label m) 255) && eqb (label m) (label m') ≡ true
    from q =
        let x : ℕ = q.0 in
        rw (q.1, q.2, ne_eqb x 255 (λ (e : x ≡ 255). omega (arith, h x q.1)), eq-eqb x x refl)

module _ (s : List ℕ) (e : readable s ≡ none) where
  small : (i : ℕ) → Small (get_or (pins_of s) i none)
  small i x q = let r = (readable-exactly s).0 e in omega (arith, r.1, pins-low s r.0 i x q)

  given-label : (i : ℕ) → i < length (row_of s) → get_or (row_of s) i 0 ≡ label (get_or (pins_of s) i none)
  unfolding row_of
  given-label i h = get_or-label (pins_of s) i (rw (← length-map (pins_of s) label) h)

  pub given-bytes : Below 256 (row_of s)
  given-bytes = below-from 256 (row_of s) (λ i h. rw (given-label i h) (label-lt (get_or (pins_of s) i none) (small i)))

  -- a sheet that is accepted is that of a row of bytes
  pub accepted-bytes : Below 256 s → (x : SheetOf s) × Below 256 x.row
  accepted-bytes b =
      let r = (readable-exactly s).0 e in (accepted-sheet s b r.0 r.1, rw (accepted-row s b r.0 r.1) given-bytes)

  pub given-blank : (i : ℕ) → i < length (row_of s) → blank (row_of s) i ≡ true ↔ (get_or (pins_of s) i none ≡ none)
  unfolding blank
  given-blank i h = rw (given-label i h) (label-blank (get_or (pins_of s) i none) (small i))

  pub given-joined : (i j : ℕ) → i < length (row_of s) → j < length (row_of s)
      → joined (row_of s) i j ≡ true ↔ Shared (get_or (pins_of s) i none) (get_or (pins_of s) j none)
  unfolding joined blank
  given-joined i j h l = rw (given-label i h, given-label j l) (label-joined (get_or (pins_of s) i none) (get_or (pins_of s) j none) (small i))
