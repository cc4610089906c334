-- Demand 1: every call says the number and place of the first cause that holds, and leaves its buffers in the condition that goes with that.
use mathlib.Core.Path.{◌≡◌, refl, sym, ap, ◌∙◌}
use mathlib.Core.Bool.{Bool, true, false, not}
use mathlib.Core.List.{List, [], ◌∷◌, ◌++◌, append_assoc}
use mathlib.Core.Logic.{◌≢◌, ◌⊎◌, inl, inr}
use mathlib.Core.Option.{Option, none, some, map}
use Prim.Native.Nat.{ℕ, suc, ◌+◌, ◌-◌, ◌*◌, ◌≤◌}
use native.Mathlib.Omega.{arith}
use lib.ListN.{length}
use lib.Dec.{leb, ltb}
use Rattle.std.specs.declared.option.Option.TheVariants.{None, Some}
use Rattle.std.specs.declared.result.Result.TheVariants.{Ok, Err}
use Rattle.rules.specs.declared.DrawError.{DrawError}
use Rattle.rules.specs.declared.ReadError.{ReadError}
use Rattle.rules.specs.declared.RouteError.{RouteError}
use Rattle.rules.specs.Limits.{Broken}
use Rattle.rules.specs.declared.Limit.TheVariants.{Upper, Lower, Sum}
use Rattle.rules.specs.declared.Fault.{Fault}
use Rattle.rules.specs.declared.Fault.TheVariants.{Head, Tracks, Length, Position, Open, Padding, Nets}
use Rattle.rules.specs.Answers.{Routing, unread, undrawn}
use Rattle.rules.specs.Answers.{Reading}
use Rattle.rules.specs.Answers.{Drawing}
use Rattle.rules.specs.Basic.{pick, keep, or_else, settle, is_none}
use Rattle.rules.specs.declared.Kind.{Kind}
use Rattle.rules.specs.declared.Kind.TheVariants.{B, M, E, N}
use Rattle.rules.specs.Row.{nodes}
use Rattle.rules.specs.Street.{limits, blank_limits, last, limits_at, counted, first, failing}
use Rattle.rules.specs.Sheet.{takes, kind_in, size, Entry, entry, upper_of, lower_of, count_of, entries_of, nets_of, row_of}
use Rattle.rules.specs.Film.{records}
use Rattle.rules.specs.Judgement.{wrong_count, head, room, broken, fault_at, left, scan, tail, middle, judge, crowded}
use Rattle.rules.specs.Answers.{Said, says, fault_said, limit_number, route_said, read_said, draw_said, first_lone, refusal, outcome, routing, written, first_sheet, cleared, work_after, sheet_after, reading, row_after, drawing, FilmAfter}
use Rattle.rules.proofs.Accepted.{length-nodes}
use Rattle.demands.specs.Causes.{Cause, cause, first_cause, router_causes, head_causes, wire_causes, blank_causes, kind_causes, node_causes, end_causes, body_causes, reader_causes, drawer_causes}
use Rattle.demands.specs.Demands.{Filmed, Demand1}

-- what is said of an answer that may be there, or else r
module _ {A : Type 0} (said : A → Said) where
  unfoldable said_or : Option A → Said → Said
  said_or none r = r
  said_or (some a) r = said a

  said_or-or : (a b : Option A) (r : Said) → said_or (or_else a b) r ≡ said_or a (said_or b r)
  unfolding said_or or_else
  said_or-or none b r = refl
  said_or-or (some a) b r = refl

  said_or-settle : (x : Option A) (a : A) → said (settle x a) ≡ said_or x (said a)
  unfolding said_or settle
  said_or-settle none a = refl
  said_or-settle (some b) a = refl

  -- a test that gives an answer is a cause, before those of r
  by-test : (t : Bool) (a : A) (number place : ℕ) (cs : List Cause) (fine r : Said) → said a ≡ says number place → r ≡ first_cause cs fine
      → said_or (keep t a) r ≡ first_cause (cause number place t ∷ cs) fine
  unfolding said_or keep first_cause pick
  by-test true a number place cs fine r e g = e
  by-test false a number place cs fine r e g = g

  -- and so it is before further tests
  then-test : (t : Bool) (a : A) (number place : ℕ) (x : Option A) (cs : List Cause) (fine r : Said) → said a ≡ says number place
      → said_or x r ≡ first_cause cs fine → said_or (or_else (keep t a) x) r ≡ first_cause (cause number place t ∷ cs) fine
  then-test t a number place x cs fine r e g = said_or-or (keep t a) x r ∙ by-test t a number place cs fine (said_or x r) e g

-- the causes of a sheet, before those of r
module _ (cs : List Cause) (fine : Said) where
  -- the first limit that is broken, of three tests
  broken-said : (u l s : Bool) (i : ℕ) (r : Said) → r ≡ first_cause cs fine
      → said_or fault_said (broken (pick u (Some Upper) (pick l (Some Lower) (pick s (Some Sum) None))) i) r ≡ first_cause (cause 17 i u ∷ cause 30 i l ∷ cause 31 i s ∷ cs) fine
  unfolding said_or broken fault_said limit_number first_cause pick
  broken-said true l s i r e = refl
  broken-said false true s i r e = refl
  broken-said false false true i r e = refl
  broken-said false false false i r e = e

  -- of two
  broken-blank-said : (u l : Bool) (i : ℕ) (r : Said) → r ≡ first_cause cs fine
      → said_or fault_said (broken (pick u (Some Upper) (pick l (Some Lower) None)) i) r ≡ first_cause (cause 17 i u ∷ cause 30 i l ∷ cs) fine
  unfolding said_or broken fault_said limit_number first_cause pick
  broken-blank-said true l i r e = refl
  broken-blank-said false true i r e = refl
  broken-blank-said false false i r e = e

  module _ (s : List ℕ) where
    head-said : (r : Said) → r ≡ first_cause cs fine → said_or fault_said (head s) r ≡ first_cause (head_causes s ++ cs) fine
    unfolding head head_causes fault_said
    head-said r e =
        then-test fault_said _ Head 11 0 _ _ fine r refl
        (then-test fault_said _ Tracks 12 0 _ _ fine r refl (by-test fault_said _ Length 13 0 cs fine r refl e))

    tail-said : (r : Said) → r ≡ first_cause cs fine → said_or fault_said (tail s) r ≡ first_cause (end_causes s ++ cs) fine
    unfolding tail end_causes fault_said
    tail-said r e =
        then-test fault_said _ (Open (count_of s)) 18 (count_of s) _ _ fine r refl (by-test fault_said _ Padding 19 0 cs fine r refl e)

-- the three tests of a net with a above it, of c, and the two of a blank
three-tests : (ku kl a c : ℕ) → limits ku kl (suc a) c ≡ pick (ltb ku a) (Some Upper) (pick (ltb kl (c - suc a)) (Some Lower) (pick (ltb (ku + kl) c) (Some Sum) None))
unfolding limits
three-tests ku kl a c = let e : suc a - 1 ≡ a = omega arith in rw e

two-tests : (ku kl a c : ℕ) → blank_limits ku kl (suc a - 1) c ≡ pick (ltb ku a) (Some Upper) (pick (ltb kl (c - a)) (Some Lower) None)
unfolding blank_limits
two-tests ku kl a c = let e : suc a - 1 ≡ a = omega arith in rw e

-- the causes at one node, before those of r
module _ (cs : List Cause) (fine : Said) (ku kl i a c : ℕ) (r : Said) (e : r ≡ first_cause cs fine) where
  wire-said : said_or fault_said (or_else (keep (leb c a) (Position i)) (broken (limits ku kl (suc a) c) i)) r ≡ first_cause (wire_causes ku kl i a c ++ cs) fine
  unfolding wire_causes fault_said
  wire-said =
      then-test fault_said (leb c a) (Position i) 16 i (broken (limits ku kl (suc a) c) i) _ fine r refl
      (ap (λ (x : Broken). said_or fault_said (broken x i) r) (three-tests ku kl a c)
      ∙ broken-said cs fine (ltb ku a) (ltb kl (c - suc a)) (ltb (ku + kl) c) i r e)

  blank-said : said_or fault_said (or_else (keep (ltb c a) (Position i)) (broken (blank_limits ku kl (suc a - 1) c) i)) r
      ≡ first_cause (blank_causes ku kl i a c ++ cs) fine
  unfolding blank_causes fault_said
  blank-said =
      then-test fault_said (ltb c a) (Position i) 16 i (broken (blank_limits ku kl (suc a - 1) c) i) _ fine r refl
      (ap (λ (x : Broken). said_or fault_said (broken x i) r) (two-tests ku kl a c) ∙ broken-blank-said cs fine (ltb ku a) (ltb kl (c - a)) i r e)

  kind-said : (k : Kind) → said_or fault_said (or_else (keep (leb (last k c) a) (Position i)) (broken (limits_at k ku kl (suc a) c) i)) r
      ≡ first_cause (kind_causes k ku kl i a c ++ cs) fine
  unfolding last limits_at kind_causes
  kind-said B = wire-said
  kind-said M = wire-said
  kind-said E = wire-said
  kind-said N = blank-said

module _ (cs : List Cause) (fine : Said) (ku kl : ℕ) where
  scan-said : (i b : ℕ) (es : List Entry) (r : Said) → r ≡ first_cause cs fine
      → said_or fault_said (scan ku kl i b es) r ≡ first_cause (node_causes ku kl i b es ++ cs) fine
  unfolding scan fault_at node_causes fault_said said_or
  scan-said i b [] r e = e
  scan-said i b (entry f a ∷ es) r e =
      let k = kind_in f in
      let next = scan ku kl (suc i) (left k b) es in
      let rest = node_causes ku kl (suc i) (left k b) es in
      said_or-or fault_said (fault_at ku kl i b (entry f a)) next r
      ∙ kind-said (rest ++ cs) fine ku kl i a (counted k b) (said_or fault_said next r) (scan-said (suc i) (left k b) es r e) k
      ∙ ap (λ l. first_cause l fine) (sym (append_assoc (kind_causes k ku kl i a (counted k b)) rest cs))

module _ (cs : List Cause) (fine : Said) (s : List ℕ) where
  body-said : (r : Said) → r ≡ first_cause cs fine → said_or fault_said (or_else (middle s) (tail s)) r ≡ first_cause (body_causes s ++ cs) fine
  unfolding middle body_causes
  body-said r e =
      said_or-or fault_said (middle s) (tail s) r
      ∙ scan-said (end_causes s ++ cs) fine (upper_of s) (lower_of s) 1 0 (entries_of s) (said_or fault_said (tail s) r) (tail-said cs fine s r e)
      ∙ ap (λ l. first_cause l fine) (sym (append_assoc (node_causes (upper_of s) (lower_of s) 1 0 (entries_of s)) (end_causes s) cs))

unfit-read : (x : Option Fault) (r : Said) → said_or read_said (map unread x) r ≡ said_or fault_said x r
unfolding said_or read_said
unfit-read none r = refl
unfit-read (some f) r = refl

unfit-drawn : (x : Option Fault) (r : Said) → said_or draw_said (map undrawn x) r ≡ said_or fault_said x r
unfolding said_or draw_said
unfit-drawn none r = refl
unfit-drawn (some f) r = refl

-- the body's causes and then 23
nets-said : (s : List ℕ) (fine : Said)
    → said_or fault_said (or_else (middle s) (or_else (tail s) (crowded s))) fine ≡ first_cause (body_causes s ++ (cause 23 0 (ltb 255 (nets_of s)) ∷ [])) fine
unfolding crowded fault_said first_cause
nets-said s fine =
    let last = cause 23 0 (ltb 255 (nets_of s)) ∷ [] in
    let r = said_or fault_said (crowded s) fine in
    let e : r ≡ first_cause last fine = by-test fault_said (ltb 255 (nets_of s)) Nets 23 0 [] fine fine refl refl in
    said_or-or fault_said (middle s) (or_else (tail s) (crowded s)) fine
    ∙ ap (said_or fault_said (middle s)) (said_or-or fault_said (tail s) (crowded s) fine)
    ∙ sym (said_or-or fault_said (middle s) (tail s) r)
    ∙ body-said last fine s r e

read-said : (s row : List ℕ) → read_said (reading s row) ≡ first_cause (reader_causes s row) (says 0 (count_of s))
unfolding reading reader_causes room read_said first_cause
read-said s row =
    let n = count_of s in
    let fine = says 0 n in
    let short = keep (ltb (length row) n) (Err ReadError.RowShort) in
    let found = or_else (middle s) (or_else (tail s) (crowded s)) in
    let body = map unread found in
    let upper = map unread (head s) in
    let causes = body_causes s ++ (cause 23 0 (ltb 255 (nets_of s)) ∷ []) in
    let b : said_or read_said body fine ≡ first_cause causes fine = unfit-read found fine ∙ nets-said s fine in
    said_or-settle read_said (or_else upper (or_else short body)) (Ok n)
    ∙ said_or-or read_said upper (or_else short body) fine
    ∙ unfit-read (head s) (said_or read_said (or_else short body) fine)
    ∙ head-said (cause 14 0 (ltb (length row) n) ∷ causes) fine s (said_or read_said (or_else short body) fine)
    (then-test read_said (ltb (length row) n) (Err ReadError.RowShort) 14 0 body causes fine fine refl b)

draw-said : (s film : List ℕ) → draw_said (drawing s film) ≡ first_cause (drawer_causes s film) (says 0 (length (records 16 s)))
unfolding drawing judge drawer_causes draw_said first_cause
draw-said s film =
    let k = length (records 16 s) in
    let fine = says 0 k in
    let short = keep (ltb (length film) (5 * k)) (Err DrawError.FilmShort) in
    let t = cause 21 0 (ltb (length film) (5 * k)) ∷ [] in
    let r = said_or draw_said short fine in
    let e : r ≡ first_cause t fine = by-test draw_said (ltb (length film) (5 * k)) (Err DrawError.FilmShort) 21 0 [] fine fine refl refl in
    said_or-settle draw_said (or_else (map undrawn (judge s)) short) (Ok k)
    ∙ said_or-or draw_said (map undrawn (judge s)) short fine
    ∙ unfit-drawn (judge s) r
    ∙ said_or-or fault_said (head s) (or_else (middle s) (tail s)) r
    ∙ head-said (body_causes s ++ t) fine s (said_or fault_said (or_else (middle s) (tail s)) r) (body-said t fine s r e)

outcome-said : (row : List ℕ) (ku kl : ℕ) (x : Option (List ℕ))
    → route_said (outcome ku kl (nodes row) x) ≡ first_cause (cause 6 (suc (failing ku kl (nodes row))) (is_none x) ∷ []) (says 0 (length row))
unfolding outcome route_said first_cause is_none pick
outcome-said row ku kl none = refl
outcome-said row ku kl (some ps) = ap (says 0) (length-nodes row)

route-said : (row : List ℕ) (ku kl : ℕ) (work out : List ℕ)
    → route_said (routing row ku kl work out) ≡ first_cause (router_causes row ku kl work out) (says 0 (length row))
unfolding routing refusal router_causes route_said first_cause
route-said row ku kl work out =
    let n = length row in
    let i = first_lone row in
    let fine = says 0 n in
    let late = outcome ku kl (nodes row) (first ku kl (nodes row)) in
    let r = route_said late in
    let c₆ = cause 6 (suc (failing ku kl (nodes row))) (is_none (first ku kl (nodes row))) ∷ [] in
    let c₅ = cause 5 0 (ltb (length out) (size n)) ∷ c₆ in
    let c₄ = cause 4 0 (ltb (length work) (90 * n)) ∷ c₅ in
    let c₃ = cause 3 (suc i) (ltb i n) ∷ c₄ in
    let c₂ = cause 2 0 (not (takes ku kl)) ∷ c₃ in
    said_or-settle route_said _ late
    ∙ then-test route_said (wrong_count n) (Err RouteError.RowLength) 1 0 _ c₂ fine r refl
    (then-test route_said (not (takes ku kl)) (Err RouteError.Tracks) 2 0 _ c₃ fine r refl
    (then-test route_said (ltb i n) (Err (RouteError.Lone (suc i))) 3 (suc i) _ c₄ fine r refl
    (then-test route_said (ltb (length work) (90 * n)) (Err RouteError.WorkShort) 4 0 _ c₅ fine r refl
    (by-test route_said (ltb (length out) (size n)) (Err RouteError.SheetShort) 5 0 c₆ fine r refl (outcome-said row ku kl (first ku kl (nodes row)))))))

neither : {n a b : ℕ} → n ≢ a → n ≢ b → (n ≡ a) ⊎ (n ≡ b) → ⊥
neither h g (inl e) = h e
neither h g (inr e) = g e

-- the buffers after each answer of the router
module _ (row : List ℕ) (ku kl : ℕ) (work out : List ℕ) where
  sheet-kept : (r : Routing) → (route_said r).number ≢ 0 → sheet_after r row ku kl out ≡ out
  unfolding route_said sheet_after
  sheet-kept (Ok n) h = absurd (h refl)
  sheet-kept (Err RouteError.RowLength) h = refl
  sheet-kept (Err RouteError.Tracks) h = refl
  sheet-kept (Err (RouteError.Lone i)) h = refl
  sheet-kept (Err RouteError.WorkShort) h = refl
  sheet-kept (Err RouteError.SheetShort) h = refl
  sheet-kept (Err (RouteError.Stuck i)) h = refl

  sheet-written : (r : Routing) → (route_said r).number ≡ 0 → sheet_after r row ku kl out ≡ written (first_sheet row ku kl) out
  unfolding route_said sheet_after
  sheet-written (Ok n) h = refl
  sheet-written (Err RouteError.RowLength) h = absurd (omega arith)
  sheet-written (Err RouteError.Tracks) h = absurd (omega arith)
  sheet-written (Err (RouteError.Lone i)) h = absurd (omega arith)
  sheet-written (Err RouteError.WorkShort) h = absurd (omega arith)
  sheet-written (Err RouteError.SheetShort) h = absurd (omega arith)
  sheet-written (Err (RouteError.Stuck i)) h = absurd (omega arith)

  work-kept : (r : Routing) → (route_said r).number ≢ 0 → (route_said r).number ≢ 6 → work_after r row work ≡ work
  unfolding route_said work_after
  work-kept (Ok n) h g = absurd (h refl)
  work-kept (Err RouteError.RowLength) h g = refl
  work-kept (Err RouteError.Tracks) h g = refl
  work-kept (Err (RouteError.Lone i)) h g = refl
  work-kept (Err RouteError.WorkShort) h g = refl
  work-kept (Err RouteError.SheetShort) h g = refl
  work-kept (Err (RouteError.Stuck i)) h g = absurd (g refl)

  work-cleared : (r : Routing) → ((route_said r).number ≡ 0) ⊎ ((route_said r).number ≡ 6) → work_after r row work ≡ cleared row work
  unfolding route_said work_after
  work-cleared (Ok n) h = refl
  work-cleared (Err RouteError.RowLength) h = absurd (neither (λ e. omega arith) (λ e. omega arith) h)
  work-cleared (Err RouteError.Tracks) h = absurd (neither (λ e. omega arith) (λ e. omega arith) h)
  work-cleared (Err (RouteError.Lone i)) h = absurd (neither (λ e. omega arith) (λ e. omega arith) h)
  work-cleared (Err RouteError.WorkShort) h = absurd (neither (λ e. omega arith) (λ e. omega arith) h)
  work-cleared (Err RouteError.SheetShort) h = absurd (neither (λ e. omega arith) (λ e. omega arith) h)
  work-cleared (Err (RouteError.Stuck i)) h = refl

-- a fault that is found has a number of its own, from 11 on
module _ {A : Type 0} (said : A → Said) where
  unfoldable number_of : Option A → ℕ
  number_of none = 11
  number_of (some a) = (said a).number

  or-number : (a b : Option A) → 11 ≤ number_of a → 11 ≤ number_of b → 11 ≤ number_of (or_else a b)
  unfolding or_else
  or-number none b h g = g
  or-number (some a) b h g = h

  keep-number : (t : Bool) (a : A) → 11 ≤ (said a).number → 11 ≤ number_of (keep t a)
  unfolding number_of keep
  keep-number true a h = h
  keep-number false a h = omega arith

broken-number : (l : Broken) (i : ℕ) → 11 ≤ number_of fault_said (broken l i)
unfolding number_of broken fault_said limit_number
broken-number None i = omega arith
broken-number (Some Upper) i = omega arith
broken-number (Some Lower) i = omega arith
broken-number (Some Sum) i = omega arith

scan-number : (ku kl i b : ℕ) (es : List Entry) → 11 ≤ number_of fault_said (scan ku kl i b es)
unfolding number_of scan fault_at fault_said
scan-number ku kl i b [] = omega arith
scan-number ku kl i b (entry f a ∷ es) =
    let k = kind_in f in
    let past = leb (last k (counted k b)) a in
    or-number fault_said (fault_at ku kl i b (entry f a)) (scan ku kl (suc i) (left k b) es)
    (or-number fault_said (keep past (Position i)) _ (keep-number fault_said past (Position i) (omega arith))
    (broken-number (limits_at k ku kl (suc a) (counted k b)) i))
    (scan-number ku kl (suc i) (left k b) es)

module _ (s : List ℕ) where
  head-number : 11 ≤ number_of fault_said (head s)
  unfolding head fault_said
  head-number =
      or-number fault_said (keep _ Head) _ (keep-number fault_said _ Head (omega arith))
      (or-number fault_said (keep _ Tracks) _ (keep-number fault_said _ Tracks (omega arith)) (keep-number fault_said _ Length (omega arith)))

  middle-number : 11 ≤ number_of fault_said (middle s)
  unfolding middle
  middle-number = scan-number (upper_of s) (lower_of s) 1 0 (entries_of s)

  tail-number : 11 ≤ number_of fault_said (tail s)
  unfolding tail fault_said
  tail-number =
      or-number fault_said (keep _ (Open (count_of s))) _ (keep-number fault_said _ (Open (count_of s)) (omega arith))
      (keep-number fault_said _ Padding (omega arith))

  judge-number : 11 ≤ number_of fault_said (judge s)
  unfolding judge
  judge-number = or-number fault_said (head s) _ head-number (or-number fault_said (middle s) (tail s) middle-number tail-number)

  reader-number : 11 ≤ number_of fault_said (or_else (middle s) (or_else (tail s) (crowded s)))
  unfolding crowded fault_said
  reader-number =
      or-number fault_said (middle s) _ middle-number
      (or-number fault_said (tail s) (crowded s) tail-number (keep-number fault_said _ Nets (omega arith)))

-- so that 0 is said of acceptance alone
module _ (s row : List ℕ) where
  row_kept : (r : Reading) → (read_said r).number ≢ 0 → row_after r s row ≡ row
  unfolding read_said row_after
  row_kept (Ok n) h = absurd (h refl)
  row_kept (Err ReadError.RowShort) h = refl
  row_kept (Err (ReadError.Unfit e)) h = refl

  answer : Option Fault → Bool → Option Fault → Reading
  answer a t b = settle (or_else (map unread a) (or_else (keep t (Err ReadError.RowShort)) (map unread b))) (Ok (count_of s))

  row_written : (read_said (reading s row)).number ≡ 0 → row_after (reading s row) s row ≡ written (row_of s) row
  unfolding reading room read_said row_after settle or_else keep number_of answer
  row_written h = go (head s) (ltb (length row) (count_of s)) (or_else (middle s) (or_else (tail s) (crowded s))) (head-number s) (reader-number s) h
    where
      go : (a : Option Fault) (t : Bool) (b : Option Fault) → 11 ≤ number_of fault_said a → 11 ≤ number_of fault_said b
          → (read_said (answer a t b)).number ≡ 0 → row_after (answer a t b) s row ≡ written (row_of s) row
      go (some f) t b h g e = absurd (omega arith)
      go none true b h g e = absurd (omega arith)
      go none false (some f) h g e = absurd (omega arith)
      go none false none h g e = refl

module _ (s film : List ℕ) where
  film-kept : (r : Drawing) (film' : List ℕ) → (draw_said r).number ≢ 0 → FilmAfter r s film film' → film' ≡ film
  unfolding draw_said FilmAfter
  film-kept (Ok k) film' h a = absurd (h refl)
  film-kept (Err DrawError.FilmShort) film' h a = a
  film-kept (Err (DrawError.Unfit e)) film' h a = a

  film-written : (r : Drawing) (film' : List ℕ) → r ≡ drawing s film → (draw_said r).number ≡ 0 → FilmAfter r s film film' → Filmed (records 16 s) film film'
  unfolding draw_said FilmAfter drawing settle or_else keep number_of judge
  film-written (Ok k) film' e h a = record { order = a.0; same = a.1; bytes = a.2 }
  film-written (Err DrawError.FilmShort) film' e h a = absurd (omega arith)
  film-written (Err (DrawError.Unfit f)) film' e h a =
      absurd (go (judge s) (ltb (length film) (5 * length (records 16 s))) (judge-number s) e)
    where
      go : (j : Option Fault) (t : Bool) → 11 ≤ number_of fault_said j
          → Err (DrawError.Unfit f) ≡ settle (or_else (map undrawn j) (keep t (Err DrawError.FilmShort))) (Ok (length (records 16 s))) → ⊥
      go (some g) t l e = let z : f ≡ g = cc in omega (arith, rw (sym z) at l)
      go none true l e = let z : ◌≡◌ {A = ℕ} 0 1 = cc in omega arith
      go none false l e = let z : ◌≡◌ {A = ℕ} 0 1 = cc in omega arith

pub demand-1 : Demand1
demand-1 =
    record {
      router = λ {row} {ku} {kl} c.
          let m = c.meets in
          record {
            said = ap route_said m.answer ∙ route-said row ku kl c.work c.out;
            sheet-kept = λ h. m.written ∙ sheet-kept row ku kl c.work c.out c.answer h;
            sheet-written = λ h. m.written ∙ sheet-written row ku kl c.work c.out c.answer h;
            work-kept = λ h g. m.cleared ∙ work-kept row ku kl c.work c.out c.answer h g;
            work-cleared = λ h. m.cleared ∙ work-cleared row ku kl c.work c.out c.answer h;
          };
      reader = λ {s} c.
          let m = c.meets in
          record {
            said = ap read_said m.answer ∙ read-said s c.row;
            row_kept = λ h. m.bytes ∙ row_kept s c.row c.answer h;
            row_written = λ h.
                m.bytes ∙ ap (λ r. row_after r s c.row) m.answer ∙ row_written s c.row (ap (λ r. (read_said r).number) (sym m.answer) ∙ h);
          };
      drawer = λ {s} c.
          let m = c.meets in
          record {
            said = ap draw_said m.answer ∙ draw-said s c.film;
            film-kept = λ h. film-kept s c.film c.answer c.film' h m.bytes;
            film-written = λ h. film-written s c.film c.answer c.film' m.answer h m.bytes;
          };
    }
