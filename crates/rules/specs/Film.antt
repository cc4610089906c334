-- Document 01, 'From sheet to wires', with request 1's blanks: levels, moves, records and the film's bytes.
--
-- A height is a level plus 4, as the film's fields have it: the axis is 4, upper tracks are above it, lower ones below. Columns
-- count from 0, and the pitch, the columns from one node to the next, is a parameter: 16 in document 01. "Film" is its own term.
-- u is given by request 3 of document 02.
use Rattle.std.specs.Prelude.{Bool, true, false, List, [], ◌∷◌, ◌++◌, ℕ, suc, ◌+◌, ◌-◌, ◌*◌, min, max, get_or, leb, ltb}
use Rattle.rules.specs.Basic.{pick, put, cut}
use Rattle.rules.specs.declared.Kind.{Kind}
use Rattle.rules.specs.declared.Kind.TheVariants.{B, M, E, N}
use Rattle.rules.specs.Bits.{digits, bytes}
use Rattle.rules.specs.Sheet.{kind_in, begun, Entry, entry, upper_of, entries_of}

abbrev pub axis : ℕ
axis = 4

-- u, the number of wires laid in the upper street: the smaller of p and Ku
unfoldable pub upper : (ku p : ℕ) → ℕ
upper ku p = min p ku

-- u at a node with a wires above its own; at a blank it is s
unfoldable pub upper_at : Kind → (ku a : ℕ) → ℕ
upper_at B ku a = upper ku (suc a)
upper_at M ku a = upper ku (suc a)
upper_at E ku a = upper ku (suc a)
upper_at N ku a = a

-- the height of the wire at position q: level u − q + 1 where q ≤ u, else −(q − u)
unfoldable pub height_at : (u q : ℕ) → ℕ
height_at u q = pick (leb q u) (axis + (u - q + 1)) (axis - (q - u))

-- the height that the wire with q wires above it has to reach at a node: a new net stands below a of them
unfoldable pub target : Kind → (u a q : ℕ) → ℕ
target B u a q = height_at u (pick (ltb q a) (suc q) (suc (suc q)))
target M u a q = height_at u (suc q)
target E u a q = height_at u (suc q)
target N u a q = height_at u (suc q)

-- a horizontal from column to column, or a vertical from height to height
pub data Rec : Type 0 where
  across : (net height left right : ℕ) → Rec
  upright : (net low column high : ℕ) → Rec

-- an open wire: its net, its height, and the column where its present run began
pub record Wire : Type 0 where
  pub net : ℕ
  pub height : ℕ
  pub since : ℕ

-- the run of a wire up to column x, and a vertical of it between two heights there
unfoldable pub ran : ℕ → Wire → Rec
ran x w = across w.net w.height w.since x

unfoldable pub wall : ℕ → ℕ → Wire → Rec
wall x h w = upright w.net (min h w.height) x (max h w.height)

-- wires in a gap: as they are then, the next free column, and what was drawn
pub record Sweep : Type 0 where
  pub wires : List Wire
  pub column : ℕ
  pub film : List Rec

-- a wire, where the test passes moved to height h at column x
unfoldable pub bent : Bool → (h x : ℕ) → Wire → Wire
bent true h x w = record { net = w.net; height = h; since = x }
bent false h x w = w

unfoldable pub drawn : Bool → (h x : ℕ) → Wire → List Rec
drawn true h x w = ran x w ∷ wall x h w ∷ []
drawn false h x w = []

-- wires going up move first, topmost first; t gives the height to reach by the wires above, q; x is the next free column
unfoldable pub climb : (ℕ → ℕ) → (q x : ℕ) → List Wire → Sweep
climb t q x [] = record { wires = []; column = x; film = [] }
climb t q x (w ∷ ws) =
    let up = ltb w.height (t q) in
    let r = climb t (suc q) (pick up (suc x) x) ws in
    record { wires = bent up (t q) x w ∷ r.wires; column = r.column; film = drawn up (t q) x w ++ r.film }

-- then wires going down, bottommost first
unfoldable pub sink : (ℕ → ℕ) → (q x : ℕ) → List Wire → Sweep
sink t q x [] = record { wires = []; column = x; film = [] }
sink t q x (w ∷ ws) =
    let down = ltb (t q) w.height in
    let r = sink t (suc q) x ws in
    record {
      wires = bent down (t q) r.column w ∷ r.wires;
      column = pick down (suc r.column) r.column;
      film = r.film ++ drawn down (t q) r.column w;
    }

-- the gap after column x
unfoldable pub gap : (ℕ → ℕ) → ℕ → List Wire → Sweep
gap t x ws =
    let up = climb t 0 (suc x) ws in
    let down = sink t 0 up.column up.wires in
    record { wires = down.wires; column = down.column; film = up.film ++ down.film }

-- the wires at a node: at a B with the new net's, which begins there
unfoldable pub opened : Kind → (n h x a : ℕ) → List Wire → List Wire
opened B n h x a ws = put a (record { net = n; height = h; since = x }) ws
opened M n h x a ws = ws
opened E n h x a ws = ws
opened N n h x a ws = ws

-- the wires after it: at an E without the net's
unfoldable pub closed : Kind → ℕ → List Wire → List Wire
closed B a ws = ws
closed M a ws = ws
closed E a ws = cut a ws
closed N a ws = ws

-- what is drawn of a node's own wire: its stub, and at an E its last run; at a blank nothing
unfoldable pub marks : Kind → ℕ → Wire → List Rec
marks B x w = wall x axis w ∷ []
marks M x w = wall x axis w ∷ []
marks E x w = wall x axis w ∷ ran x w ∷ []
marks N x w = []

-- the records from node i on, from 0, with n nets begun: the moves before each node and its marks.
-- In a legal sheet only a blank can lack a wire with a others above, and nothing is drawn of a blank: the wire that stands in for it is never drawn
unfoldable pub draw : (pitch ku i n : ℕ) → List Wire → List Entry → List Rec
draw pitch ku i n ws [] = []
draw pitch ku i n ws (entry f a ∷ es) =
    let k = kind_in f in
    let u = upper_at k ku a in
    let x = pitch * i in
    let g = gap (target k u a) (pitch * (i - 1)) ws in
    let vs = opened k n (height_at u (suc a)) x a g.wires in
    let w = get_or vs a (record { net = n; height = axis; since = x }) in
    g.film ++ (marks k x w ++ draw pitch ku (suc i) (begun k n) (closed k a vs) es)

-- the records of a sheet
unfoldable pub records : ℕ → List ℕ → List Rec
records pitch s = draw pitch (upper_of s) 0 0 [] (entries_of s)

-- a record's 40 bits
unfoldable pub rec_bits : Rec → List ℕ
rec_bits (across n h l r) = digits 1 0 ++ (digits 8 n ++ (digits 4 h ++ (digits 13 l ++ (digits 13 r ++ digits 1 0))))
rec_bits (upright n l x h) = digits 1 1 ++ (digits 8 n ++ (digits 4 l ++ (digits 13 x ++ (digits 4 h ++ digits 10 0))))

-- five bytes a record
unfoldable pub film_bytes : List Rec → List ℕ
film_bytes [] = []
film_bytes (r ∷ rs) = bytes (rec_bits r) ++ film_bytes rs
