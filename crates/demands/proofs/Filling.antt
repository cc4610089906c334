-- No router that routes the first k nodes and fills in the others meets its contract, for any k that leaves four nodes.
--
-- The row is k + 1 nodes of one net, then a second net's first node, under one track: all pass but the last, which finds two nets open.
use mathlib.Core.Path.{◌≡◌, refl, sym, ap, ap₂, ◌∙◌, subst}
use mathlib.Core.Bool.{Bool, true, false, not, ◌&&◌}
use mathlib.Core.List.{List, [], ◌∷◌, ◌++◌}
use mathlib.Core.Logic.{◌⊎◌, inl, inr}
use mathlib.Core.Option.{some}
use Prim.Native.Nat.{ℕ, zero, suc, ◌+◌, ◌-◌, ◌*◌, ◌≤◌, ◌<◌}
use native.Mathlib.Omega.{arith}
use Rattle.wires.proofs.Among.{lt-or-ge}
use native.Mathlib.Nat.{zero-add, suc-add}
use lib.ListN.{length, get_or, take, replicate, length-append, length-replicate, get_or-replicate, get_or-append}
use lib.Seq.{get_or-append-add, take-append-le}
use lib.Dec.{eqb}
use borrow.Author.Tests.{ne_eqb, eq-eqb, le-ltb}
use Rattle.std.specs.declared.result.Result.TheVariants.{Err}
use Rattle.rules.specs.declared.RouteError.TheVariants.{RowLength, Tracks, Lone, WorkShort, SheetShort}
use Rattle.rules.specs.Basic.{pick, tabulate, least, put, keep, and_then}
use Rattle.rules.specs.declared.Kind.TheVariants.{B, M}
use Rattle.rules.specs.Row.{before, blank, home, later, Node, node, kind_of, node_at, nodes, lone}
use Rattle.rules.specs.Street.{Placing, Passes, limits, met, last, limits_at, fits_at, counted, stands, next, kind, step, run}
use Rattle.rules.specs.Sheet.{size}
use Rattle.rules.specs.Bits.{Below, nil, cons}
use Rattle.rules.specs.Answers.{refusal, first_lone}
use Rattle.rules.proofs.Fields.{below-append, below-replicate, below_at, below-mono}
use Rattle.rules.proofs.Accepted.{none-or_else, none-keep, within_count, le-takes}
use Rattle.rules.proofs.Least.{least-holds}
use Rattle.rules.proofs.Pins.{tabulate-cong, home-le, label-home, node-net}
use Rattle.rules.proofs.Runs.{Runs, ends_at, at-ends, runs-take}
use Rattle.rules.proofs.Open.{ahead-later, onto}
use Rattle.rules.proofs.Demand3.{sheet-exactly}
use Rattle.demands.specs.Demands.{Checked}
use Rattle.demands.specs.Impostors.{Router, MeetsRouter, FirstNodesAlone}
use Rattle.demands.proofs.Impostors.{asked, asked-bytes}

-- nodes that are alike, then others
tabulate-alike : {A : Type 0} (f : ℕ → A) (c : A) (k n : ℕ) → ((i : ℕ) → i < k → f i ≡ c) → tabulate f (k + n) ≡ replicate k c ++ tabulate (λ i. f (k + i)) n
unfolding tabulate
tabulate-alike f c zero n h = ap (tabulate f) (zero-add n) ∙ tabulate-cong f (λ i. f (0 + i)) n (λ i g. ap f (sym (zero-add i)))
tabulate-alike f c (suc k) n h =
    ap (tabulate f) (suc-add k n)
    ∙ ap₂ (λ x l. x ∷ l) (h 0 (omega arith)) (tabulate-alike (λ i. f (suc i)) c k n (λ i g. h (suc i) (omega arith)))
    ∙ ap (λ l. c ∷ (replicate k c ++ l)) (tabulate-cong (λ i. f (suc (k + i))) (λ i. f (suc k + i)) n (λ i g. ap f (sym (suc-add k i))))

and-false : (a : Bool) → a && false ≡ false
and-false true = refl
and-false false = refl

true-false : true ≡ false → ⊥
true-false e = let z : ◌≡◌ {A = ℕ} 0 1 = cc in omega arith

module _ (k : ℕ) where
  abbrev end : List ℕ
  end = 1 ∷ 0 ∷ 1 ∷ []

  filled : List ℕ
  filled = 0 ∷ (replicate k 0 ++ end)

  filled-length : length filled ≡ 4 + k
  unfolding filled
  filled-length = omega (arith, length-append (replicate k 0) end, length-replicate {A = ℕ} k 0)

  -- its labels
  at_first : (i : ℕ) → i ≤ k → get_or filled i 0 ≡ 0
  unfolding filled
  at_first zero h = refl
  at_first (suc i) h =
      get_or-append (replicate k 0) end 0 i (omega (arith, length-replicate {A = ℕ} k 0)) ∙ get_or-replicate k i 0 0 (omega arith)

  at-end : (i : ℕ) → get_or filled (suc (k + i)) 0 ≡ get_or end i 0
  unfolding filled
  at-end i = ap (λ j. get_or (replicate k 0 ++ end) (j + i) 0) (sym (length-replicate {A = ℕ} k 0)) ∙ get_or-append-add (replicate k 0) end i 0

  labels-low : Below 255 filled
  unfolding filled
  labels-low =
      cons {x = 0} (omega arith)
      (below-append (below-replicate {x = 0} k (omega arith)) (cons {x = 1} (omega arith) (cons {x = 0} (omega arith) (cons {x = 1} (omega arith) nil))))

  no-blank : (i : ℕ) → i < length filled → blank filled i ≡ false
  unfolding blank
  no-blank i h = ne_eqb (get_or filled i 0) 255 (omega (arith, below_at labels-low i 0 h))

  second : ℕ
  second = suc (k + 0)

  -- where its nets begin
  home-first : (i : ℕ) → get_or filled i 0 ≡ 0 → home filled i ≡ 0
  unfolding filled home before pick
  home-first i e = ap (λ x. before x filled) e

  home-second : before 1 filled ≡ second
  unfolding second home
  home-second =
      let e = at-end 0 in
      let h = home-le filled second (omega (arith, filled-length)) in
      let l = label-home filled second (omega (arith, filled-length)) in
      let b : home filled second ≡ before 1 filled = ap (λ x. before x filled) e in
      go (home filled second) b h (l ∙ e)
    where
      go : (j : ℕ) → j ≡ before 1 filled → j ≤ suc (k + 0) → get_or filled j 0 ≡ 1 → before 1 filled ≡ suc (k + 0)
      go j b h e = sym b ∙ eq (lt-or-ge j (suc (k + 0)))
        where
          eq : (j < suc (k + 0)) ⊎ (suc (k + 0) ≤ j) → j ≡ suc (k + 0)
          eq (inl l) = absurd (omega (arith, e, at_first j (omega arith)))
          eq (inr l) = omega arith

  -- and which nodes follow
  later_first : (i : ℕ) → i ≤ k → later filled i ≡ true
  later_first i h =
      ahead-later filled i
      (record { at = suc (k + 1); from = omega arith; within = omega (arith, filled-length); label = at-end 1 ∙ sym (at_first i h) })

  later_second : later filled second ≡ true
  unfolding second
  later_second =
      ahead-later filled (suc (k + 0))
      (record { at = suc (k + 2); from = omega arith; within = omega (arith, filled-length); label = at-end 2 ∙ sym (at-end 0) })

  second-home : (i : ℕ) → get_or filled i 0 ≡ 1 → home filled i ≡ second
  unfolding home
  second-home i e = ap (λ x. before x filled) e ∙ home-second

  -- no label of it is lone
  lone-later : (i : ℕ) → later filled i ≡ true → lone filled i ≡ false
  unfolding lone
  lone-later i e = rw e (and-false (not (blank filled i) && eqb (home filled i) i))

  lone-other : (i x : ℕ) → home filled i ≡ x → (x ≡ i → ⊥) → lone filled i ≡ false
  unfolding lone
  lone-other i x e h = rw (e, ne_eqb x i h, and-false (not (blank filled i)))

  whole-end : (d : ℕ) → d < 3 → lone filled (suc (k + d)) ≡ false
  unfolding second
  whole-end zero h = lone-later (suc (k + 0)) later_second
  whole-end (suc zero) h = lone-other (suc (k + 1)) 0 (home-first (suc (k + 1)) (at-end 1)) (λ e. omega arith)
  whole-end (suc (suc zero)) h = lone-other (suc (k + 2)) (suc (k + 0)) (second-home (suc (k + 2)) (at-end 2)) (λ e. omega arith)
  whole-end (suc (suc (suc d))) h = absurd (omega arith)

  whole : (i : ℕ) → i < length filled → lone filled i ≡ false
  whole i h = go (lt-or-ge k i)
    where
      go : (k < i) ⊎ (i ≤ k) → lone filled i ≡ false
      go (inl l) =
          let e : suc (k + (i - suc k)) ≡ i = omega arith in
          subst (λ j. lone filled j ≡ false) e (whole-end (i - suc k) (omega (arith, filled-length)))
      go (inr l) = lone-later i (later_first i l)

  none-lone : length filled ≤ least (lone filled) (length filled)
  none-lone = go (lt-or-ge i n)
    where
      n : ℕ
      n = length filled

      i : ℕ
      i = least (lone filled) n

      go : (i < n) ⊎ (n ≤ i) → n ≤ i
      go (inl l) = let z : true ≡ false = sym (least-holds (lone filled) n l) ∙ whole i l in absurd (true-false z)
      go (inr l) = l

  -- its nodes
  node-is : (i x : ℕ) (first more : Bool) → i < length filled → home filled i ≡ x → eqb x i ≡ first → later filled i ≡ more
      → node_at filled i ≡ node (kind_of first more) x
  node-is i x first more h e f g = node-net filled i (no-blank i h) ∙ rw (e, f, g)

  middle : (i : ℕ) → i < k → node_at filled (suc i) ≡ node M 0
  unfolding kind_of
  middle i h =
      node-is (suc i) 0 false true (omega (arith, filled-length)) (home-first (suc i) (at_first (suc i) (omega arith))) (ne_eqb 0 (suc i) (λ e. omega arith))
      (later_first (suc i) (omega arith))

  start : node_at filled 0 ≡ node B 0
  unfolding kind_of
  start = node-is 0 0 true (later filled 0) (omega (arith, filled-length)) (home-first 0 (at_first 0 (omega arith))) refl refl

  turn : node_at filled second ≡ node B second
  unfolding kind_of second
  turn =
      node-is (suc (k + 0)) (suc (k + 0)) true (later filled (suc (k + 0))) (omega (arith, filled-length)) (second-home (suc (k + 0)) (at-end 0)) (eq-eqb (suc (k + 0)) (suc (k + 0)) refl)
      refl

  rest : List Node
  rest = node_at filled (suc (k + 1)) ∷ node_at filled (suc (k + 2)) ∷ []

  shape : nodes filled ≡ node B 0 ∷ (replicate k (node M 0) ++ node B second ∷ rest)
  unfolding nodes rest tabulate second
  shape =
      let n : length filled ≡ suc (k + 3) = omega (arith, filled-length) in
      ap (tabulate (node_at filled)) n
      ∙ ap₂ (λ x l. x ∷ l) start (tabulate-alike (λ i. node_at filled (suc i)) (node M 0) k 3 middle)
      ∙ ap (λ x. node B 0 ∷ (replicate k (node M 0) ++ x ∷ rest)) turn

  -- the first k nodes pass
  stay : (j : ℕ) → run 1 0 (replicate j (node M 0)) (0 ∷ []) (replicate j 1) ≡ some (0 ∷ [])
  unfolding run step stands limits met last limits_at fits_at next kind counted keep and_then pick before
  stay zero = refl
  stay (suc j) = stay j

  along : Runs 1 0 (node B 0 ∷ replicate k (node M 0)) [] (1 ∷ replicate k 1)
  unfolding run step stands limits met last limits_at fits_at next kind counted keep and_then pick before put
  along = at-ends (λ w. true) (stay k) tt

  passes : Passes 1 0 (take k (nodes filled))
  passes =
      let begin = node B 0 ∷ replicate k (node M 0) in
      let a : take k (nodes filled) ≡ take k begin =
      ap (take k) shape ∙ take-append-le k begin (node B second ∷ rest) (omega (arith, length-replicate {A = Node} k (node M 0))) in
      let e = ends_at (λ w. true) _ (runs-take 1 0 k begin [] (1 ∷ replicate k 1) along) in
      record { ps = take k (1 ∷ replicate k 1); order = e.0; runs = ap (λ ns. run 1 0 ns [] (take k (1 ∷ replicate k 1))) a ∙ e.1 }

  -- and the second net finds no track
  full : (j x : ℕ) (ns : List Node) (ps w : List ℕ) → run 1 0 (replicate j (node M 0) ++ node B x ∷ ns) (0 ∷ []) ps ≡ some w → ⊥
  unfolding run next last counted kind
  full zero x ns [] w e = let z : ◌≡◌ {A = ℕ} 0 1 = cc in omega arith
  full zero x ns (p ∷ ps) w e = omega (arith, (onto 1 0 (node B x) ns (0 ∷ []) p ps w e).fitted.sum)
  full (suc j) x ns [] w e = let z : ◌≡◌ {A = ℕ} 0 1 = cc in omega arith
  full (suc j) x ns (p ∷ ps) w e = full j x ns ps w (onto 1 0 (node M 0) (replicate j (node M 0) ++ node B x ∷ ns) (0 ∷ []) p ps w e).rest

  no-placing : (ps : List ℕ) → Placing 1 0 (nodes filled) ps → ⊥
  unfolding run next put last counted kind
  no-placing [] e = let z : ◌≡◌ {A = ℕ} 0 1 = cc (e, ap (λ ns. run 1 0 ns [] []) shape) in omega arith
  no-placing (p ∷ ps) e =
      let later = replicate k (node M 0) ++ node B second ∷ rest in
      let o = onto 1 0 (node B 0) later [] p ps [] (ap (λ ns. run 1 0 ns [] (p ∷ ps)) (sym shape) ∙ e) in
      let one : p - 1 ≡ 0 = omega (arith, o.fitted.high) in
      full k second rest ps [] (ap (λ i. run 1 0 later (put i 0 []) ps) (sym one) ∙ o.rest)

  module _ (short : k ≤ 508) where
    checked : Checked filled 1 0 (asked filled 1 0).work (asked filled 1 0).sheet
    unfolding refusal first_lone
    checked =
        let n = length filled in
        let i = least (lone filled) n in
        none-or_else (none-keep (Err RowLength) (within_count n (omega (arith, filled-length)) (omega (arith, filled-length))))
        (none-or_else (none-keep (Err Tracks) (ap not (le-takes 1 0 (omega arith) (omega arith))))
        (none-or_else (none-keep (Err (Lone (suc i))) (le-ltb i n none-lone))
        (none-or_else (none-keep (Err WorkShort) (le-ltb _ (90 * n) (omega (arith, length-replicate {A = ℕ} (90 * n) 0))))
        (none-keep (Err SheetShort) (le-ltb _ (size n) (omega (arith, length-replicate {A = ℕ} (size n) 0)))))))

pub not-the-first-nodes-alone : (k : ℕ) → k ≤ 508 → (f : Router) → MeetsRouter f → FirstNodesAlone k f → ⊥
not-the-first-nodes-alone k short f meets a =
    let l = asked (filled k) 1 0 in
    let b = asked-bytes (filled k) 1 0 (below-mono (omega arith) (labels-low k)) (omega arith) (omega arith) in
    let c = checked k short in
    let e = sym (meets l b).answer ∙ a l (b, c) (passes k) in
    let p = (sheet-exactly (filled k) 1 0 l.work l.sheet c).0 e in
    no-placing k p.0 p.1
