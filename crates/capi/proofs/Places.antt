-- The place of every answer is below 2^32: a node of at most 1023, or the count of a film's records.
use mathlib.Core.Path.{◌≡◌, refl}
use mathlib.Core.Bool.{Bool, true, false, not}
use mathlib.Core.List.{List, [], ◌∷◌}
use mathlib.Core.Option.{Option, none, some, map}
use Prim.Native.Nat.{ℕ, suc, ◌+◌, ◌*◌, ◌≤◌, ◌<◌}
use native.Mathlib.Omega.{arith}
use lib.ListN.{length, take}
use lib.Dec.{leb, ltb}
use Rattle.std.specs.declared.option.Option.TheVariants.{None, Some}
use Rattle.std.specs.declared.result.Result.TheVariants.{Ok, Err}
use Rattle.rules.specs.declared.DrawError.{DrawError}
use Rattle.rules.specs.declared.ReadError.{ReadError}
use Rattle.rules.specs.declared.RouteError.{RouteError}
use Rattle.rules.specs.Limits.{Broken}
use Rattle.rules.specs.declared.Limit.TheVariants.{Upper, Lower, Sum}
use Rattle.rules.specs.declared.Fault.{Fault}
use Rattle.rules.specs.declared.Fault.TheVariants.{Head, Tracks, Length, Position, Open, Padding, Nets}
use Rattle.rules.specs.Answers.{unread}
use Rattle.rules.specs.Basic.{keep, or_else, settle, is_none}
use Rattle.rules.specs.Row.{lone, nodes}
use Rattle.rules.specs.Street.{last, limits_at, counted, way, first, failing}
use Rattle.rules.specs.Sheet.{takes, kind_in, size, Entry, entry, upper_of, lower_of, count_of, entries_of}
use Rattle.rules.specs.Film.{records}
use Rattle.rules.specs.Judgement.{wrong_count, head, room, broken, fault_at, left, scan, tail, middle, judge, crowded}
use Rattle.rules.specs.Answers.{Said, fault_said, route_said, read_said, draw_said, first_lone, refusal, outcome, routing, reading, drawing}
use Rattle.rules.proofs.Least.{least-le}
use Rattle.rules.proofs.SheetFields.{count_of-lt, length-entries_of}
use Rattle.rules.proofs.Accepted.{count-within, length-nodes}
use Rattle.wires.proofs.Few.{records-few}
use Rattle.capi.specs.Codes.{places}

-- the place of an answer that may be there
module _ {A : Type 0} (said : A → Said) where
  unfoldable place_of : Option A → ℕ
  place_of none = 0
  place_of (some a) = (said a).place

  or-place : {k : ℕ} (a b : Option A) → place_of a ≤ k → place_of b ≤ k → place_of (or_else a b) ≤ k
  unfolding or_else
  or-place none b h g = g
  or-place (some a) b h g = h

  keep-place : {k : ℕ} (t : Bool) (a : A) → (said a).place ≤ k → place_of (keep t a) ≤ k
  unfolding place_of keep
  keep-place true a h = h
  keep-place false a h = omega arith

  settle-place : {k : ℕ} (x : Option A) (a : A) → place_of x ≤ k → (said a).place ≤ k → (said (settle x a)).place ≤ k
  unfolding place_of settle
  settle-place none a h g = g
  settle-place (some b) a h g = h

-- a fault's place is 0 or a node's number
broken-place : (l : Broken) (i : ℕ) → place_of fault_said (broken l i) ≤ i
unfolding place_of broken fault_said
broken-place None i = omega arith
broken-place (Some Upper) i = omega arith
broken-place (Some Lower) i = omega arith
broken-place (Some Sum) i = omega arith

fault-place : (ku kl i b : ℕ) (e : Entry) → place_of fault_said (fault_at ku kl i b e) ≤ i
unfolding fault_at fault_said
fault-place ku kl i b (entry f a) =
    let k = kind_in f in
    or-place fault_said (keep (leb (last k (counted k b)) a) (Position i)) _
    (keep-place fault_said (leb (last k (counted k b)) a) (Position i) (omega arith))
    (broken-place (limits_at k ku kl (suc a) (counted k b)) i)

scan-place : (ku kl i b : ℕ) (es : List Entry) → place_of fault_said (scan ku kl i b es) ≤ i + length es
unfolding scan place_of
scan-place ku kl i b [] = omega arith
scan-place ku kl i b (entry f a ∷ es) =
    or-place fault_said (fault_at ku kl i b (entry f a)) (scan ku kl (suc i) (left (kind_in f) b) es)
    (omega (arith, fault-place ku kl i b (entry f a)))
    (omega (arith, scan-place ku kl (suc i) (left (kind_in f) b) es))

module _ (s : List ℕ) where
  few : count_of s ≤ 1023
  few = omega (arith, count_of-lt s)

  head-place : place_of fault_said (head s) ≤ 1024
  unfolding head fault_said
  head-place =
      or-place fault_said (keep _ Head) _ (keep-place fault_said _ Head (omega arith))
      (or-place fault_said (keep _ Tracks) _ (keep-place fault_said _ Tracks (omega arith)) (keep-place fault_said _ Length (omega arith)))

  middle-place : place_of fault_said (middle s) ≤ 1024
  unfolding middle
  middle-place = omega (arith, few, length-entries_of s, scan-place (upper_of s) (lower_of s) 1 0 (entries_of s))

  tail-place : place_of fault_said (tail s) ≤ 1024
  unfolding tail fault_said
  tail-place =
      or-place fault_said (keep _ (Open (count_of s))) _ (keep-place fault_said _ (Open (count_of s)) (omega (arith, few)))
      (keep-place fault_said _ Padding (omega arith))

  crowded-place : place_of fault_said (crowded s) ≤ 1024
  unfolding crowded fault_said
  crowded-place = keep-place fault_said _ Nets (omega arith)

  rest-place : place_of fault_said (or_else (middle s) (or_else (tail s) (crowded s))) ≤ 1024
  rest-place = or-place fault_said (middle s) _ middle-place (or-place fault_said (tail s) (crowded s) tail-place crowded-place)

judge-place : (s : List ℕ) → place_of fault_said (judge s) ≤ 1024
unfolding judge
judge-place s =
    or-place fault_said (head s) _ (head-place s) (or-place fault_said (middle s) (tail s) (middle-place s) (tail-place s))

unfit-read : (x : Option Fault) → place_of read_said (map unread x) ≡ place_of fault_said x
unfolding place_of read_said
unfit-read none = refl
unfit-read (some f) = refl

pub read-place : (s row : List ℕ) → (read_said (reading s row)).place < places
unfolding reading read_said
read-place s row =
    let p : (read_said (reading s row)).place ≤ 1024 =
    settle-place read_said _ (Ok (count_of s))
    (or-place read_said (map unread (head s)) _ (omega (arith, unfit-read (head s), head-place s))
    (or-place read_said (keep (room s row) (Err ReadError.RowShort)) _ (keep-place read_said (room s row) (Err ReadError.RowShort) (omega arith))
    (omega (arith, unfit-read (or_else (middle s) (or_else (tail s) (crowded s))), rest-place s))))
    (omega (arith, few s)) in
    omega (arith, p)

pub draw-place : (s film : List ℕ) → (draw_said (drawing s film)).place < places
unfolding drawing draw_said settle or_else place_of
draw-place s film = go (judge s) refl
  where
    go : (j : Option Fault) → judge s ≡ j → (draw_said (drawing s film)).place < places
    go none e =
        let k = length (records 16 s) in
        let p : (draw_said (settle (keep (ltb (length film) (5 * k)) (Err DrawError.FilmShort)) (Ok k))).place ≤ 14 * 1023 =
        settle-place draw_said (keep (ltb (length film) (5 * k)) (Err DrawError.FilmShort)) (Ok k)
        (keep-place draw_said (ltb (length film) (5 * k)) (Err DrawError.FilmShort) (omega arith))
        (omega (arith, few s, records-few s e)) in
        rw e (omega (arith, p))
    go (some f) e = let p : (fault_said f).place ≤ 1024 = rw e at (judge-place s) in rw e (omega (arith, p))

outcome-place : (ku kl : ℕ) (row : List ℕ) (r : Option (List ℕ)) → (route_said (outcome ku kl (nodes row) r)).place ≤ suc (length row)
unfolding outcome route_said failing
outcome-place ku kl row (some ps) = omega (arith, length-nodes row)
outcome-place ku kl row none =
    omega (
      arith,
      length-nodes row,
      least-le (λ i. is_none (way (λ o. true) ku kl (take (suc i) (nodes row)) [])) (length (nodes row)),
    )

pub route-place : (row : List ℕ) (ku kl : ℕ) (work out : List ℕ) → (route_said (routing row ku kl work out)).place < places
unfolding routing refusal first_lone route_said or_else keep settle
route-place row ku kl work out = go (wrong_count (length row)) refl
  where
    go : (t : Bool) → wrong_count (length row) ≡ t → (route_said (routing row ku kl work out)).place < places
    go true e = rw e (omega arith)
    go false e =
        let n = length row in
        let h = count-within n e in
        let i = first_lone row in
        let late = outcome ku kl (nodes row) (first ku kl (nodes row)) in
        let p : (route_said (routing row ku kl work out)).place ≤ 513 =
        settle-place route_said _ late
        (or-place route_said (keep (wrong_count n) (Err RouteError.RowLength)) _ (keep-place route_said (wrong_count n) (Err RouteError.RowLength) (omega arith))
        (or-place route_said (keep (not (takes ku kl)) (Err RouteError.Tracks)) _ (keep-place route_said (not (takes ku kl)) (Err RouteError.Tracks) (omega arith))
        (or-place route_said (keep (ltb i n) (Err (RouteError.Lone (suc i)))) _
        (keep-place route_said (ltb i n) (Err (RouteError.Lone (suc i))) (omega (arith, h.1, least-le (lone row) n)))
        (or-place route_said (keep (ltb (length work) (90 * n)) (Err RouteError.WorkShort)) _
        (keep-place route_said (ltb (length work) (90 * n)) (Err RouteError.WorkShort) (omega arith))
        (keep-place route_said (ltb (length out) (size n)) (Err RouteError.SheetShort) (omega arith))))))
        (omega (arith, h.1, outcome-place ku kl row (first ku kl (nodes row)))) in
        omega (arith, p)
