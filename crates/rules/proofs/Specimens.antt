-- S1 to S12 of document 01, S12 with request 6's number, hold for the definitions, and so do its table of u, some films and refusals more, and rows and sheets with blanks: antt computes each.
use mathlib.Core.Bool.{Bool, true, false, ◌&&◌}
use mathlib.Core.List.{List, [], ◌∷◌, ◌++◌}
use Prim.Native.Nat.{ℕ, ◌+◌, ◌-◌, ◌*◌}
use lib.ListN.{length, replicate}
use lib.Dec.{T, eqb}
use Rattle.rules.specs.Basic.{pick, tabulate, every, least, put, cut, keep, and_then, or_else, is_none, settle}
use Rattle.rules.specs.Row.{before, has, blank, joined, home, later, kind_of, node_at, nodes, lone}
use Rattle.rules.specs.Street.{limits, blank_limits, met, last, limits_at, fits_at, counted, stands, next, kind, step, run, positions, choices, first_from, also, way, empty, first, failing}
use Rattle.rules.specs.Bits.{digits, val, pack, unpack, bytes}
use Rattle.rules.specs.Sheet.{takes, code, kind_in, entries, entry_bits, size, padding, sheet_bits, sheet, upper_of, lower_of, count_of, entry_at, entries_of, padding_of, begun, begun_by, nets_of, net_at, nets, pins_of, label, row_of}
use Rattle.rules.specs.Film.{upper, upper_at, height_at, target, ran, wall, bent, drawn, climb, sink, gap, opened, closed, marks, draw, records, rec_bits, film_bytes, Rec, across, upright}
use Rattle.rules.specs.Judgement.{wrong_count, head, room, broken, fault_at, left, scan, left_open, tail, middle, judge, crowded, readable}
use Rattle.rules.specs.Answers.{limit_number, fault_said, route_said, read_said, draw_said, written, first_lone, refusal, outcome, routing, first_sheet, cleared, work_after, sheet_after, reading, row_after, alike, same_pins, agrees, drawing, Said}

-- what is said of a specimen
data Fact : Type 0 where
  -- the row gets this sheet, and the reader gives its pins back
  routes : (row : List ℕ) (ku kl : ℕ) (sheet : List ℕ) → Fact
  -- the row's first placing has these positions, and the row gets its sheet
  places : (row : List ℕ) (ku kl : ℕ) (ps : List ℕ) → Fact
  -- the router refuses the row, with number and place
  stops : (row : List ℕ) (ku kl number place : ℕ) → Fact
  -- the reader and the drawer refuse the sheet, with number and place
  refused : (sheet : List ℕ) (number place : ℕ) → Fact
  -- the sheet's film has these records and no others
  draws : (sheet : List ℕ) (film : List Rec) → Fact
  -- the sheet is refused where the row's or the film's buffer is a byte short, and not where it is exact
  tight : (sheet : List ℕ) → Fact
  -- the record's five bytes
  packs : Rec → (bytes : List ℕ) → Fact
  -- under Ku upper tracks u wires are laid in the upper street at a node whose net stands at position p
  lays : (ku p u : ℕ) → Fact

same_said : Said → (number place : ℕ) → Bool
same_said s number place = eqb s.number number && eqb s.place place

same : List ℕ → List ℕ → Bool
same [] [] = true
same [] (y ∷ ys) = false
same (x ∷ xs) [] = false
same (x ∷ xs) (y ∷ ys) = eqb x y && same xs ys

-- a record's fields
fields : Rec → List ℕ
fields (across n h l r) = 0 ∷ n ∷ h ∷ l ∷ r ∷ []
fields (upright n l x h) = 1 ∷ n ∷ l ∷ x ∷ h ∷ []

copies : Rec → List Rec → ℕ
copies r [] = 0
copies r (q ∷ film) = pick (same (fields r) (fields q)) 1 0 + copies r film

-- each record of the first list stands once in both others
once : List Rec → List Rec → List Rec → Bool
once [] a b = true
once (r ∷ rs) a b = eqb (copies r a) 1 && (eqb (copies r b) 1 && once rs a b)

-- a buffer of n bytes
buffer : ℕ → List ℕ
buffer n = replicate n 0xa5

holds : Fact → Bool
holds (routes row ku kl s) =
    let n = length row in
    let work = buffer (90 * n + 1) in
    let out = buffer (size n + 3) in
    let answer = routing row ku kl work out in
    let r = reading s (buffer (n + 2)) in
    same_said (route_said answer) 0 n
    && (same (sheet_after answer row ku kl out) (s ++ buffer 3)
    && (same (work_after answer row work) (replicate (90 * n) 0 ++ buffer 1)
    && (same_said (read_said r) 0 n && (same (row_after r s (buffer (n + 2))) (row_of s ++ buffer 2) && agrees row s))))
holds (places row ku kl ps) =
    let n = length row in
    let answer = routing row ku kl (buffer (90 * n)) (buffer (size n)) in
    same (settle (first ku kl (nodes row)) []) ps && (same_said (route_said answer) 0 n
    && same (sheet_after answer row ku kl (buffer (size n))) (sheet ku kl (nodes row) ps))
holds (stops row ku kl number place) =
    same_said (route_said (routing row ku kl (buffer (90 * length row)) (buffer (size (length row))))) number place
holds (refused s number place) =
    same_said (read_said (reading s (buffer 512))) number place && same_said (draw_said (drawing s (buffer 0))) number place
holds (draws s film) =
    let k = length film in
    same_said (draw_said (drawing s (buffer (5 * k)))) 0 k && (once film film (records 16 s) && once (records 16 s) film (records 16 s))
holds (tight s) =
    let n = count_of s in
    let k = 5 * length (records 16 s) in
    same_said (read_said (reading s (buffer (n - 1)))) 14 0
    && (same_said (read_said (reading s (buffer n))) 0 n
    && (same_said (draw_said (drawing s (buffer (k - 1)))) 21 0 && same_said (draw_said (drawing s (buffer k))) 0 (length (records 16 s))))
holds (packs r b) = same (bytes (rec_bits r)) b
holds (lays ku p u) = eqb (upper ku p) u

all : List Fact → Bool
all [] = true
all (f ∷ fs) = holds f && all fs

-- labels are letters
abbrev a : ℕ
a = 97

abbrev b : ℕ
b = 98

abbrev c : ℕ
c = 99

-- a blank
abbrev z : ℕ
z = 255

-- S1 to S12
specimens : List Fact
specimens =
    -- S1: stubs at columns 0 and 16, one horizontal at level 1
    routes (a ∷ a ∷ []) 1 0 (0x10 ∷ 0x02 ∷ 0x02 ∷ 0x00 ∷ [])
    ∷ draws (0x10 ∷ 0x02 ∷ 0x02 ∷ 0x00 ∷ []) (upright 0 4 0 5 ∷ upright 0 4 16 5 ∷ across 0 5 0 16 ∷ [])
    ∷ packs (upright 0 4 0 5) (0x80 ∷ 0x20 ∷ 0x00 ∷ 0x14 ∷ 0x00 ∷ [])
    ∷ packs (upright 0 4 16 5) (0x80 ∷ 0x20 ∷ 0x04 ∷ 0x14 ∷ 0x00 ∷ [])
    ∷ packs (across 0 5 0 16) (0x00 ∷ 0x28 ∷ 0x00 ∷ 0x00 ∷ 0x20 ∷ [])
    -- S2
    ∷ stops (a ∷ a ∷ []) 0 0 6 1
    -- S3: a goes from 1 to −1 at column 1
    ∷ routes (a ∷ b ∷ a ∷ b ∷ []) 1 1 (0x14 ∷ 0x04 ∷ 0x00 ∷ 0x08 ∷ 0x60 ∷ [])
    ∷ draws (0x14 ∷ 0x04 ∷ 0x00 ∷ 0x08 ∷ 0x60 ∷ [])
    (upright 0 4 0 5 ∷ across 0 5 0 1 ∷ upright 0 3 1 5 ∷ across 0 3 1 32 ∷ upright 0 3 32 4
    ∷ upright 1 4 16 5 ∷ across 1 5 16 48 ∷ upright 1 4 48 5 ∷ [])
    -- S4
    ∷ stops (a ∷ b ∷ a ∷ b ∷ []) 2 0 6 3
    -- S5
    ∷ places (a ∷ b ∷ b ∷ a ∷ []) 2 0 (1 ∷ 2 ∷ 2 ∷ 1 ∷ [])
    -- S6
    ∷ routes (a ∷ b ∷ c ∷ b ∷ a ∷ c ∷ []) 2 1 (0x24 ∷ 0x06 ∷ 0x00 ∷ 0x10 ∷ 0x62 ∷ 0x82 ∷ 0x00 ∷ [])
    -- S7
    ∷ stops (a ∷ b ∷ c ∷ a ∷ b ∷ c ∷ a ∷ b ∷ c ∷ []) 2 1 6 5
    -- S8
    ∷ places (a ∷ b ∷ c ∷ a ∷ b ∷ c ∷ a ∷ b ∷ c ∷ []) 2 2 (1 ∷ 1 ∷ 1 ∷ 3 ∷ 2 ∷ 1 ∷ 3 ∷ 2 ∷ 1 ∷ [])
    -- S9
    ∷ stops (a ∷ b ∷ c ∷ c ∷ b ∷ a ∷ []) 1 1 6 3
    -- S10
    ∷ stops (a ∷ a ∷ b ∷ []) 1 1 3 3
    -- S11
    ∷ refused (0x10 ∷ 0x02 ∷ 0x02 ∷ 0x01 ∷ []) 19 0
    -- S12
    ∷ refused (0x10 ∷ 0x02 ∷ 0x00 ∷ 0x00 ∷ []) 30 2
    ∷ []

-- films of an independent drawer: two wires go down in one gap, two go up in one, and wires at level −2; in S1 and S3 no gap has two moves
films : List Fact
films =
    draws (0x2c ∷ 0x04 ∷ 0x00 ∷ 0x18 ∷ 0x20 ∷ [])
    (upright 0 4 0 5 ∷ across 0 5 0 1 ∷ upright 0 5 1 6 ∷ across 0 6 1 18 ∷ upright 0 5 18 6 ∷ across 0 5 18 32
    ∷ upright 0 4 32 5 ∷ upright 1 4 16 5 ∷ across 1 5 16 17 ∷ upright 1 3 17 5 ∷ across 1 3 17 33 ∷ upright 1 3 33 5
    ∷ across 1 5 33 48 ∷ upright 1 4 48 5 ∷ [])
    ∷ draws (0x34 ∷ 0x05 ∷ 0x00 ∷ 0x08 ∷ 0x50 ∷ 0x80 ∷ [])
    (upright 0 4 0 5 ∷ across 0 5 0 1 ∷ upright 0 3 1 5 ∷ across 0 3 1 18 ∷ upright 0 3 18 5 ∷ across 0 5 18 32
    ∷ upright 0 4 32 5 ∷ upright 1 4 16 5 ∷ across 1 5 16 17 ∷ upright 1 5 17 6 ∷ across 1 6 17 33 ∷ upright 1 5 33 6
    ∷ across 1 5 33 64 ∷ upright 1 4 48 5 ∷ upright 1 4 64 5 ∷ [])
    ∷ draws (0x18 ∷ 0x09 ∷ 0x00 ∷ 0x00 ∷ 0x20 ∷ 0x02 ∷ 0x14 ∷ 0x60 ∷ 0x80 ∷ [])
    (upright 0 4 0 5 ∷ across 0 5 0 1 ∷ upright 0 3 1 5 ∷ across 0 3 1 17 ∷ upright 0 2 17 3 ∷ across 0 2 17 81
    ∷ upright 0 2 81 3 ∷ across 0 3 81 113 ∷ upright 0 3 96 4 ∷ upright 0 3 113 5 ∷ across 0 5 113 128 ∷ upright 0 4 128 5
    ∷ upright 1 4 16 5 ∷ across 1 5 16 18 ∷ upright 1 3 18 5 ∷ across 1 3 18 80 ∷ upright 1 3 80 4 ∷ upright 2 4 32 5
    ∷ across 2 5 32 48 ∷ upright 2 4 48 5 ∷ upright 3 4 64 5 ∷ across 3 5 64 112 ∷ upright 3 4 112 5 ∷ [])
    ∷ []

-- document 01's table of u, its filled cells: a line for each Ku from 0, in it a number for each p from 1
table : List Fact
table =
    lays 0 1 0
    ∷ lays 1 1 1 ∷ lays 1 2 1
    ∷ lays 2 1 1 ∷ lays 2 2 2 ∷ lays 2 3 2
    ∷ lays 3 1 1 ∷ lays 3 2 2 ∷ lays 3 3 3 ∷ lays 3 4 3
    ∷ []

-- each cause of a refused sheet but 23: 11, 12, 13, 16, each of the three limits by itself, 18, 19; then 14 and 21
causes : List Fact
causes =
    refused [] 11 0
    ∷ refused (0x10 ∷ 0x01 ∷ 0x00 ∷ []) 11 0
    ∷ refused (0x40 ∷ 0x02 ∷ 0x02 ∷ 0x00 ∷ []) 12 0
    ∷ refused (0x10 ∷ 0x02 ∷ 0x02 ∷ []) 13 0
    ∷ refused (0x10 ∷ 0x02 ∷ 0x02 ∷ 0x00 ∷ 0x00 ∷ []) 13 0
    ∷ refused (0x10 ∷ 0x02 ∷ 0x03 ∷ 0x00 ∷ []) 30 2
    ∷ refused (0x10 ∷ 0x02 ∷ 0x82 ∷ 0x00 ∷ []) 16 1
    ∷ refused (0x00 ∷ 0x02 ∷ 0x04 ∷ 0x00 ∷ []) 16 1
    ∷ refused (0x08 ∷ 0x04 ∷ 0x00 ∷ 0x18 ∷ 0x20 ∷ []) 17 2
    ∷ refused (0x3c ∷ 0x08 ∷ 0x00 ∷ 0x00 ∷ 0x00 ∷ 0x00 ∷ 0x00 ∷ 0x20 ∷ []) 30 5
    ∷ refused (0x14 ∷ 0x04 ∷ 0x00 ∷ 0x00 ∷ 0x60 ∷ []) 31 3
    ∷ refused (0x10 ∷ 0x02 ∷ 0x01 ∷ 0x00 ∷ []) 18 2
    ∷ refused (0x10 ∷ 0x02 ∷ 0x02 ∷ 0x08 ∷ []) 19 0
    ∷ tight (0x14 ∷ 0x04 ∷ 0x00 ∷ 0x08 ∷ 0x60 ∷ [])
    ∷ []

-- causes at one node: of three Bs under 1/1 the third breaks the sum; at p = 4 16 and the upper limit hold too, at 3 the upper limit, at 1 the lower, at 2 no other
in_turn : List Fact
in_turn =
    refused (0x14 ∷ 0x03 ∷ 0x00 ∷ 0x00 ∷ 0xc0 ∷ []) 16 3
    ∷ refused (0x14 ∷ 0x03 ∷ 0x00 ∷ 0x00 ∷ 0x80 ∷ []) 17 3
    ∷ refused (0x14 ∷ 0x03 ∷ 0x00 ∷ 0x00 ∷ 0x00 ∷ []) 30 3
    ∷ refused (0x14 ∷ 0x03 ∷ 0x00 ∷ 0x00 ∷ 0x40 ∷ []) 31 3
    ∷ []

-- rows and sheets with blanks: the smallest s, films, 3 spares blanks, 16, 17 and 30 at one; another legal s is read and drawn
blanks : List Fact
blanks =
    routes (a ∷ z ∷ a ∷ []) 1 1 (0x14 ∷ 0x03 ∷ 0x03 ∷ 0x08 ∷ 0x00 ∷ [])
    ∷ draws (0x14 ∷ 0x03 ∷ 0x03 ∷ 0x08 ∷ 0x00 ∷ [])
    (upright 0 4 0 5 ∷ across 0 5 0 1 ∷ upright 0 3 1 5 ∷ across 0 3 1 17 ∷ upright 0 3 17 5 ∷ across 0 5 17 32 ∷ upright 0 4 32 5 ∷ [])
    ∷ draws (0x14 ∷ 0x03 ∷ 0x03 ∷ 0x18 ∷ 0x00 ∷ []) (upright 0 4 0 5 ∷ across 0 5 0 32 ∷ upright 0 4 32 5 ∷ [])
    ∷ tight (0x14 ∷ 0x03 ∷ 0x03 ∷ 0x18 ∷ 0x00 ∷ [])
    ∷ routes (z ∷ a ∷ z ∷ a ∷ z ∷ []) 1 1 (0x14 ∷ 0x05 ∷ 0xc0 ∷ 0x0c ∷ 0x20 ∷ 0xc0 ∷ [])
    ∷ routes (a ∷ b ∷ z ∷ a ∷ b ∷ z ∷ []) 1 1 (0x14 ∷ 0x06 ∷ 0x00 ∷ 0x0c ∷ 0x61 ∷ 0x83 ∷ 0x00 ∷ [])
    ∷ routes (z ∷ z ∷ []) 0 0 (0x00 ∷ 0x02 ∷ 0xc3 ∷ 0x00 ∷ [])
    ∷ draws (0x00 ∷ 0x02 ∷ 0xc3 ∷ 0x00 ∷ []) []
    ∷ places (a ∷ b ∷ c ∷ 1 ∷ 2 ∷ 3 ∷ z ∷ 3 ∷ 2 ∷ 1 ∷ c ∷ b ∷ a ∷ []) 3 3 (1 ∷ 1 ∷ 1 ∷ 1 ∷ 2 ∷ 3 ∷ 4 ∷ 3 ∷ 2 ∷ 1 ∷ 1 ∷ 1 ∷ 1 ∷ [])
    ∷ stops (a ∷ b ∷ z ∷ a ∷ b ∷ []) 2 0 6 4
    ∷ stops (z ∷ a ∷ []) 1 1 3 2
    ∷ refused (0x10 ∷ 0x03 ∷ 0x03 ∷ 0x08 ∷ 0x00 ∷ []) 30 2
    ∷ refused (0x04 ∷ 0x03 ∷ 0x03 ∷ 0x18 ∷ 0x00 ∷ []) 17 2
    ∷ refused (0x04 ∷ 0x03 ∷ 0x03 ∷ 0x28 ∷ 0x00 ∷ []) 16 2
    ∷ []

specimens-hold : T (all (specimens ++ (films ++ (table ++ (causes ++ (in_turn ++ blanks))))))
unfolding pick tabulate every least put cut keep and_then or_else is_none settle before has blank joined home later kind_of node_at nodes lone limits blank_limits met last limits_at fits_at counted stands next kind step run positions choices first_from also way empty first failing digits val pack unpack takes code kind_in entries entry_bits size padding sheet_bits sheet upper_of lower_of count_of entry_at entries_of padding_of begun begun_by nets_of net_at nets pins_of label row_of upper upper_at height_at target ran wall bent drawn climb sink gap opened closed marks draw records rec_bits film_bytes wrong_count head room broken fault_at left scan left_open tail middle judge crowded readable limit_number fault_said route_said read_said draw_said written first_lone refusal outcome routing first_sheet cleared work_after sheet_after reading row_after alike same_pins agrees drawing same_said same fields copies once buffer holds all specimens films table causes in_turn blanks
specimens-hold = tt
