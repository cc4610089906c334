-- Document 01, 'When the software says no', with request 6's numbers of the limits and request 1's blanks and 23: what router, reader, agreement test and drawer say, and every byte of the buffers after the call.
use Rattle.std.specs.Prelude.{◌≡◌, Bool, true, false, not, ◌&&◌, List, [], ◌∷◌, ◌++◌, ℕ, suc, ◌*◌, length, drop, replicate, eqb, ltb, Result, Ok, Err}
use Rattle.std.proofs.Math.Option.{Option, none, some, map}
use Rattle.rules.specs.declared.Limit.{Limit}
use Rattle.rules.specs.declared.Fault.{Fault}
use Rattle.rules.specs.declared.RouteError.{RouteError}
use Rattle.rules.specs.declared.ReadError.{ReadError}
use Rattle.rules.specs.declared.DrawError.{DrawError}
use Rattle.rules.specs.Basic.{every, least, keep, or_else, settle, is_none}
use Rattle.rules.specs.Row.{blank, joined, Node, nodes, lone}
use Rattle.rules.specs.Street.{first, failing}
use Rattle.rules.specs.Sheet.{takes, size, sheet, count_of, row_of}
use Rattle.rules.specs.Film.{Rec, records, film_bytes}
use Rattle.rules.specs.Judgement.{wrong_count, head, room, middle, tail, judge, crowded, readable}

-- the router's answer: the number of nodes of the row whose sheet is written, or why the row is refused
abbrev pub Routing : Type 0
Routing = Result ℕ RouteError

-- the reader's: the number of nodes of the row that is written, or why the sheet is not read
abbrev pub Reading : Type 0
Reading = Result ℕ ReadError

-- the drawer's: the number of records of the film that is written, or why the sheet is not drawn
abbrev pub Drawing : Type 0
Drawing = Result ℕ DrawError

-- a sheet is refused for its fault, by the reader and by the drawer
abbrev pub unread : Fault → Reading
unread e = Err (ReadError.Unfit e)

abbrev pub undrawn : Fault → Drawing
undrawn e = Err (DrawError.Unfit e)

-- an answer's number and place
pub record Said : Type 0 where
  pub number : ℕ
  pub place : ℕ

abbrev pub says : ℕ → ℕ → Said
says number place = record { number = number; place = place }

-- the three limits: 17 the upper, 30 the lower, 31 the sum of both streets
unfoldable pub limit_number : Limit → ℕ
limit_number Limit.Upper = 17
limit_number Limit.Lower = 30
limit_number Limit.Sum = 31

unfoldable pub fault_said : Fault → Said
fault_said Fault.Head = says 11 0
fault_said Fault.Tracks = says 12 0
fault_said Fault.Length = says 13 0
fault_said (Fault.Position i) = says 16 i
fault_said (Fault.Street l i) = says (limit_number l) i
fault_said (Fault.Open n) = says 18 n
fault_said Fault.Padding = says 19 0
fault_said Fault.Nets = says 23 0

unfoldable pub route_said : Routing → Said
route_said (Ok n) = says 0 n
route_said (Err RouteError.RowLength) = says 1 0
route_said (Err RouteError.Tracks) = says 2 0
route_said (Err (RouteError.Lone i)) = says 3 i
route_said (Err RouteError.WorkShort) = says 4 0
route_said (Err RouteError.SheetShort) = says 5 0
route_said (Err (RouteError.Stuck i)) = says 6 i

unfoldable pub read_said : Reading → Said
read_said (Ok n) = says 0 n
read_said (Err ReadError.RowShort) = says 14 0
read_said (Err (ReadError.Unfit e)) = fault_said e

unfoldable pub draw_said : Drawing → Said
draw_said (Ok k) = says 0 k
draw_said (Err DrawError.FilmShort) = says 21 0
draw_said (Err (DrawError.Unfit e)) = fault_said e

-- what is written fills the start of its buffer, the rest is untouched
unfoldable pub written : List ℕ → List ℕ → List ℕ
written new buffer = new ++ drop (length new) buffer

-- the first lone node, from 0; the number of nodes where there is none
unfoldable pub first_lone : List ℕ → ℕ
first_lone row = least (lone row) (length row)

-- the router's checks 1 to 5, of a row of n nodes whose first lone node is i, and buffers of so many bytes
unfoldable pub refusal : (n i ku kl work sheet : ℕ) → Option Routing
refusal n i ku kl work sheet =
    or_else (keep (wrong_count n) (Err RouteError.RowLength))
    (or_else (keep (not (takes ku kl)) (Err RouteError.Tracks))
    (or_else (keep (ltb i n) (Err (RouteError.Lone (suc i))))
    (or_else (keep (ltb work (90 * n)) (Err RouteError.WorkShort)) (keep (ltb sheet (size n)) (Err RouteError.SheetShort)))))

-- accepted, or 6
unfoldable pub outcome : (ku kl : ℕ) → List Node → Option (List ℕ) → Routing
outcome ku kl ns (some ps) = Ok (length ns)
outcome ku kl ns none = Err (RouteError.Stuck (suc (failing ku kl ns)))

-- the router's answer
unfoldable pub routing : (row : List ℕ) (ku kl : ℕ) (work sheet : List ℕ) → Routing
routing row ku kl work sheet =
    let late = outcome ku kl (nodes row) (first ku kl (nodes row)) in
    settle (refusal (length row) (first_lone row) ku kl (length work) (length sheet)) late

-- the sheet of a row's first placing; read only where there is one
unfoldable pub first_sheet : (row : List ℕ) (ku kl : ℕ) → List ℕ
first_sheet row ku kl = sheet ku kl (nodes row) (settle (first ku kl (nodes row)) [])

-- the first 90 × n bytes of work are zero after 6 and after accepted rows
unfoldable pub cleared : (row work : List ℕ) → List ℕ
cleared row work = written (replicate (90 * length row) 0) work

unfoldable pub work_after : Routing → (row work : List ℕ) → List ℕ
work_after (Ok n) row work = cleared row work
work_after (Err RouteError.RowLength) row work = work
work_after (Err RouteError.Tracks) row work = work
work_after (Err (RouteError.Lone i)) row work = work
work_after (Err RouteError.WorkShort) row work = work
work_after (Err RouteError.SheetShort) row work = work
work_after (Err (RouteError.Stuck i)) row work = cleared row work

unfoldable pub sheet_after : Routing → (row : List ℕ) (ku kl : ℕ) (sheet : List ℕ) → List ℕ
sheet_after (Ok n) row ku kl sheet = written (first_sheet row ku kl) sheet
sheet_after (Err e) row ku kl sheet = sheet

-- the reader's answer
unfoldable pub reading : (s row : List ℕ) → Reading
reading s row =
    settle
    (or_else (map unread (head s))
    (or_else (keep (room s row) (Err ReadError.RowShort)) (map unread (or_else (middle s) (or_else (tail s) (crowded s))))))
    (Ok (count_of s))

unfoldable pub row_after : Reading → (s row : List ℕ) → List ℕ
row_after (Ok n) s row = written (row_of s) row
row_after (Err e) s row = row

-- two tests say the same
unfoldable pub alike : Bool → Bool → Bool
alike true b = b
alike false b = not b

-- two rows join the same pins, as a test
unfoldable pub same_pins : (row row' : List ℕ) → Bool
same_pins row row' =
    let n = length row in
    eqb n (length row') && every (λ i. alike (blank row i) (blank row' i)) n
    && every (λ i. every (λ j. alike (joined row i j) (joined row' i j)) n) n

-- the agreement test's answer
unfoldable pub agrees : (row s : List ℕ) → Bool
agrees row s = is_none (readable s) && same_pins row (row_of s)

-- the drawer's answer; a record has 5 bytes
unfoldable pub drawing : (s film : List ℕ) → Drawing
drawing s film =
    let k = length (records 16 s) in
    settle (or_else (map undrawn (judge s)) (keep (ltb (length film) (5 * k)) (Err DrawError.FilmShort))) (Ok k)

-- one list is the other in some order
pub data Reordered {ℓ} {A : Type ℓ} : List A → List A → Type ℓ where
  nil : Reordered [] []
  cons : {x : A} {xs ys : List A} → Reordered xs ys → Reordered (x ∷ xs) (x ∷ ys)
  swap : {x y : A} {xs : List A} → Reordered (x ∷ y ∷ xs) (y ∷ x ∷ xs)
  both : {xs ys zs : List A} → Reordered xs ys → Reordered ys zs → Reordered xs zs

-- the film's bytes after the call: accepted, it starts with the sheet's records, each once and no others, in an order that is left free
unfoldable pub FilmAfter : Drawing → (s film after : List ℕ) → Type 0
FilmAfter (Ok k) s film after = (rs : List Rec) × Reordered rs (records 16 s) × (after ≡ written (film_bytes rs) film)
FilmAfter (Err e) s film after = after ≡ film
