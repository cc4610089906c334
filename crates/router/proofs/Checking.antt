-- Checks 1 to 5 in their order: the first cause that holds gives the router's answer, and buffers stay as they were.
use mathlib.Core.Path.{◌≡◌, refl, ◌∙◌}
use mathlib.Core.Bool.{true, false}
use mathlib.Core.List.{List}
use mathlib.Core.Option.{none}
use Prim.Native.Nat.{ℕ, suc, ◌*◌, ◌≤◌, ◌<◌}
use native.Mathlib.Omega.{arith}
use lib.ListN.{length}
use borrow.Author.Tests.{lt-ltb, le-ltb}
use Rattle.std.specs.declared.result.Result.TheVariants.{Err}
use Rattle.rules.specs.Answers.{Routing}
use Rattle.rules.specs.declared.RouteError.TheVariants.{RowLength, Tracks, Lone, WorkShort, SheetShort}
use Rattle.rules.specs.Basic.{keep, or_else, settle}
use Rattle.rules.specs.Sheet.{takes, size}
use Rattle.rules.specs.Judgement.{wrong_count}
use Rattle.rules.specs.Answers.{first_lone, refusal, routing, work_after, sheet_after}
use Rattle.rules.proofs.Accepted.{within_count}
use Rattle.rules.proofs.Demand3.{Fit, checked-fit}
use Rattle.router.specs.Routed.{Routed, Laid}

module _ (row : List ℕ) (ku kl : ℕ) (work out : List ℕ) where
  abbrev n : ℕ
  n = length row

  pub routed-few : n < 2 → Routed row ku kl work out (Err RowLength) work out
  unfolding routing refusal wrong_count settle or_else keep work_after sheet_after
  routed-few h = record { answer = rw (lt-ltb n 2 h); cleared = refl; written = refl }

  pub routed-many : 512 < n → Routed row ku kl work out (Err RowLength) work out
  unfolding routing refusal wrong_count settle or_else keep work_after sheet_after
  routed-many h = record { answer = rw (le-ltb n 2 (omega arith), lt-ltb 512 n h); cleared = refl; written = refl }

  module _ (a : 2 ≤ n) (b : n ≤ 512) where
    pub routed-tracks : takes ku kl ≡ false → Routed row ku kl work out (Err Tracks) work out
    unfolding routing refusal settle or_else keep work_after sheet_after
    routed-tracks t = record { answer = rw (within_count n a b, t); cleared = refl; written = refl }

    module _ (t : takes ku kl ≡ true) where
      pub routed-lone : (i : ℕ) → i ≡ first_lone row → i < n → Routed row ku kl work out (Err (Lone (suc i))) work out
      unfolding routing refusal settle or_else keep work_after sheet_after
      routed-lone i e h =
          record { answer = rw (within_count n a b, t, lt-ltb (first_lone row) n (rw e at h), e); cleared = refl; written = refl }

      module _ (l : n ≤ first_lone row) where
        pub routed-work : length work < 90 * n → Routed row ku kl work out (Err WorkShort) work out
        unfolding routing refusal settle or_else keep work_after sheet_after
        routed-work h =
            record { answer = rw (within_count n a b, t, le-ltb (first_lone row) n l, lt-ltb (length work) (90 * n) h); cleared = refl; written = refl }

        module _ (w : 90 * n ≤ length work) where
          pub routed-sheet : length out < size n → Routed row ku kl work out (Err SheetShort) work out
          unfolding routing refusal settle or_else keep work_after sheet_after
          routed-sheet h =
              record {
                answer =
                    rw (within_count n a b, t, le-ltb (first_lone row) n l, le-ltb (length work) (90 * n) w, lt-ltb (length out) (size n) h);
                cleared = refl;
                written = refl;
              }

          module _ (s : size n ≤ length out) where
            none-refused : refusal n (first_lone row) ku kl (length work) (length out) ≡ none
            unfolding refusal or_else keep
            none-refused =
                rw (within_count n a b, t, le-ltb (first_lone row) n l, le-ltb (length work) (90 * n) w, le-ltb (length out) (size n) s)

            pub routed-fit : Fit row ku kl work out
            routed-fit = checked-fit row ku kl work out none-refused

            pub routed-laid : (r : Routing) (work' out' : List ℕ) → Laid row ku kl work out r work' out' → Routed row ku kl work out r work' out'
            unfolding routing settle
            routed-laid r work' out' h = record { answer = h.answer ∙ rw none-refused; cleared = h.cleared; written = h.written }
