-- One move, the loops of a gap, and the gap: wires, columns and film after them are those of the definition's climb, sink and gap.
use mathlib.Core.Path.{◌≡◌, refl, sym, ap, ap₂, ◌∙◌}
use mathlib.Core.Bool.{Bool, true, false}
use mathlib.Core.List.{List, [], ◌∷◌, ◌++◌, append-nil}
use Prim.Native.Nat.{ℕ, suc, ◌+◌, ◌-◌, ◌*◌, ◌≤◌, ◌<◌, min, max}
use native.Mathlib.Nat.{add-zero}
use native.Mathlib.Numerals.{add-one}
use native.Mathlib.Omega.{arith}
use lib.ListN.{length, get_or, take, drop, set, length-append, get_or-append}
use lib.Seq.{set-get_or, take-suc-set, take-suc, drop-set-lt, drop-cons, drop-length, take-length, append_snoc, set_at, length-take-le, get_or-take}
use lib.Dec.{ltb}
use Rattle.rules.specs.Basic.{pick}
use Rattle.rules.specs.Film.{Rec, across, upright, rec_bits, Wire, Sweep, ran, wall, bent, drawn, climb, sink, gap}
use Rattle.film.specs.declared.moves.Plotter.{Plotter}
use Rattle.slots.specs.Stamps.{stamp}
use Rattle.film.specs.Stamps.{laid}
use Rattle.film.specs.Wires.{missing, wire_at}
use Rattle.film.specs.Moves.{SameFilm, Stepped, Swept}

-- ---- records laid one after the other

pub laid-append : (film : List ℕ) (i : ℕ) (a b : List Rec) → laid film i (a ++ b) ≡ laid (laid film i a) (i + length a) b
unfolding laid
laid-append film i [] b = ap (λ (k : ℕ). laid film k b) (sym (add-zero i))
laid-append film i (r ∷ a) b =
    laid-append (stamp film i (rec_bits r)) (suc i) a b
    ∙ ap (λ (k : ℕ). laid (laid (stamp film i (rec_bits r)) (suc i) a) k b) (omega arith)

-- ---- one move

pub drawn-length : (b : Bool) (h x : ℕ) (w : Wire) → length (drawn b h x w) ≤ 2
unfolding drawn
drawn-length true h x w = omega arith
drawn-length false h x w = omega arith

pub pick-le : (b : Bool) (x : ℕ) → pick b (suc x) x ≤ suc x
unfolding pick
pick-le true x = omega arith
pick-le false x = omega arith

-- a run that ends and a vertical
pub move-drawn : (film f₁ f₂ : List ℕ) (d h x : ℕ) {v w : Wire} → v ≡ w → f₁ ≡ stamp film d (rec_bits (across v.net v.height v.since x))
    → f₂ ≡ stamp f₁ (d + 1) (rec_bits (upright v.net (min h v.height) x (max h v.height))) → f₂ ≡ laid film d (drawn true h x w)
unfolding drawn laid ran wall
move-drawn film f₁ f₂ d h x {v} e p q =
    rw (← e)
    (q ∙ ap₂ (λ (f : List ℕ) (i : ℕ). stamp f i (rec_bits (upright v.net (min h v.height) x (max h v.height)))) p (add-one d))

module _ (p : Plotter) (q : ℕ) where
  -- nothing moves
  pub step-rests : (b : Bool) (h : ℕ) → b ≡ false → Stepped b h q p p
  unfolding bent pick drawn laid
  step-rests b h e =
      rw e
      (record {
        same = refl;
        nets = refl;
        count = refl;
        list = sym (set-get_or p.pen.wires q missing);
        column = refl;
        records = sym (add-zero p.pen.drawn);
        bytes = refl;
      })

  -- a step whose test and height are written otherwise
  pub step-as : {b b' : Bool} {h h' : ℕ} {r : Plotter} → b ≡ b' → h ≡ h' → Stepped b h q p r → Stepped b' h' q p r
  step-as e f s = rw (← e, ← f) s

  -- at most one column and two records
  pub step-across : {b : Bool} {h : ℕ} {r : Plotter} → Stepped b h q p r → r.pen.column ≤ p.pen.column + 1
  step-across {b} s = omega (arith, s.column, pick-le b p.pen.column)

  pub step_room : {b : Bool} {h : ℕ} {r : Plotter} → Stepped b h q p r → r.pen.drawn ≤ p.pen.drawn + 2
  step_room {b} {h} s = omega (arith, s.records, drawn-length b h p.pen.column (wire_at p.pen.wires q))

-- ---- the wires that go up

module _ (t : ℕ → ℕ) (p₀ : Plotter) where
  abbrev goal : Sweep
  goal = climb t 0 p₀.pen.column p₀.pen.wires

  -- the wires before q are moved; what is left to do leads to the whole climb
  pub record Climbing (p : Plotter) (q : ℕ) : Type 0 where
    pub lent : SameFilm p₀ p
    pub nets : p.pen.begun ≡ p₀.pen.begun
    pub count : length p.pen.wires ≡ length p₀.pen.wires
    pub within : q ≤ length p.pen.wires
    pub list : take q p.pen.wires ++ (climb t q p.pen.column (drop q p.pen.wires)).wires ≡ goal.wires
    pub column : (climb t q p.pen.column (drop q p.pen.wires)).column ≡ goal.column
    pub records : p.pen.drawn + length (climb t q p.pen.column (drop q p.pen.wires)).film ≡ p₀.pen.drawn + length goal.film
    pub bytes : laid p.film.now p.pen.drawn (climb t q p.pen.column (drop q p.pen.wires)).film ≡ laid p₀.film.now p₀.pen.drawn goal.film
    pub across : p.pen.column ≤ p₀.pen.column + q
    pub room : p.pen.drawn ≤ p₀.pen.drawn + 2 * q

  module _ (p r : Plotter) (q : ℕ) (c : Climbing p q) (h : q < length p.pen.wires) (s : Stepped (ltb (wire_at p.pen.wires q).height (t q)) (t q) q p r) where
    abbrev up : Bool
    up = ltb (wire_at p.pen.wires q).height (t q)

    abbrev rest : Sweep
    rest = climb t (suc q) (pick up (suc p.pen.column) p.pen.column) (drop (suc q) p.pen.wires)

    here : drop q p.pen.wires ≡ wire_at p.pen.wires q ∷ drop (suc q) p.pen.wires
    here = drop-cons p.pen.wires q missing h

    opened : climb t q p.pen.column (drop q p.pen.wires)
        ≡ record { wires = bent up (t q) p.pen.column (wire_at p.pen.wires q) ∷ rest.wires; column = rest.column; film = drawn up (t q) p.pen.column (wire_at p.pen.wires q) ++ rest.film }
    unfolding climb
    opened = ap (climb t q p.pen.column) here

    left : climb t (suc q) r.pen.column (drop (suc q) r.pen.wires) ≡ rest
    left =
        ap₂ (climb t (suc q)) s.column
        (ap (drop (suc q)) s.list ∙ drop-set-lt (suc q) p.pen.wires q (bent up (t q) p.pen.column (wire_at p.pen.wires q)) (omega arith))

    done : take (suc q) r.pen.wires ≡ take q p.pen.wires ++ (bent up (t q) p.pen.column (wire_at p.pen.wires q) ∷ [])
    done = ap (take (suc q)) s.list ∙ take-suc-set p.pen.wires q (bent up (t q) p.pen.column (wire_at p.pen.wires q)) h

    pub climb-step : Climbing r (q + 1)
    climb-step =
        rw (add-one q)
        (record {
          lent = s.same ∙ c.lent;
          nets = s.nets ∙ c.nets;
          count = s.count ∙ c.count;
          within = omega (arith, s.count);
          list =
              ap₂ (λ (a b : List Wire). a ++ b) done (ap (λ (x : Sweep). x.wires) left)
              ∙ append_snoc (take q p.pen.wires) (bent up (t q) p.pen.column (wire_at p.pen.wires q)) rest.wires
              ∙ ap (λ (x : Sweep). take q p.pen.wires ++ x.wires) (sym opened)
              ∙ c.list;
          column = ap (λ (x : Sweep). x.column) (left) ∙ ap (λ (x : Sweep). x.column) (sym opened) ∙ c.column;
          records =
              let a = ap (λ (x : Sweep). length x.film) left in
              let b = ap (λ (x : Sweep). length x.film) opened in
              omega (arith, s.records, c.records, length-append (drawn up (t q) p.pen.column (wire_at p.pen.wires q)) rest.film);
          bytes =
              ap (λ (x : Sweep). laid r.film.now r.pen.drawn x.film) left
              ∙ ap₂ (λ (f : List ℕ) (i : ℕ). laid f i rest.film) s.bytes s.records
              ∙ sym (laid-append p.film.now p.pen.drawn (drawn up (t q) p.pen.column (wire_at p.pen.wires q)) rest.film)
              ∙ ap (λ (x : Sweep). laid p.film.now p.pen.drawn x.film) (sym opened)
              ∙ c.bytes;
          across = omega (arith, step-across p q s, c.across);
          room = omega (arith, step_room p q s, c.room);
        })

  pub climb-end : (p : Plotter) (q : ℕ) → Climbing p q → length p₀.pen.wires ≤ q → Swept goal (length p₀.pen.wires) p₀ p
  unfolding climb laid
  climb-end p q c h =
      let n : q ≡ length p.pen.wires = omega (arith, c.within, c.count) in
      let none : drop q p.pen.wires ≡ [] = ap (λ (k : ℕ). drop k p.pen.wires) n ∙ drop-length p.pen.wires in
      let all : take q p.pen.wires ≡ p.pen.wires = ap (λ (k : ℕ). take k p.pen.wires) n ∙ take-length p.pen.wires in
      let list = rw (none, all) at c.list in
      let column = rw none at c.column in
      let records = rw none at c.records in
      let bytes = rw none at c.bytes in
      record {
        same = c.lent;
        nets = c.nets;
        count = c.count;
        list = sym (append-nil p.pen.wires) ∙ list;
        column = column;
        records = sym (add-zero p.pen.drawn) ∙ records;
        bytes = bytes;
        across = omega (arith, c.across, c.within, c.count);
        room = omega (arith, c.room, c.within, c.count);
      }

-- ---- the wires that go down

module _ (t : ℕ → ℕ) (p₀ : Plotter) where
  abbrev whole : List Wire
  whole = p₀.pen.wires

  -- the sink from wire q on
  abbrev lower : ℕ → Sweep
  lower q = sink t q p₀.pen.column (drop q p₀.pen.wires)

  -- the wires from q on are moved
  pub record Sinking (p : Plotter) (q : ℕ) : Type 0 where
    pub lent : SameFilm p₀ p
    pub nets : p.pen.begun ≡ p₀.pen.begun
    pub count : length p.pen.wires ≡ length p₀.pen.wires
    pub within : q ≤ length p₀.pen.wires
    pub list : p.pen.wires ≡ take q whole ++ (lower q).wires
    pub column : p.pen.column ≡ (lower q).column
    pub records : p.pen.drawn ≡ p₀.pen.drawn + length (lower q).film
    pub bytes : p.film.now ≡ laid p₀.film.now p₀.pen.drawn (lower q).film
    pub across : p.pen.column + q ≤ p₀.pen.column + length p₀.pen.wires
    pub room : p.pen.drawn + 2 * q ≤ p₀.pen.drawn + 2 * length p₀.pen.wires

  pub sink-start : Sinking p₀ (length p₀.pen.wires)
  unfolding sink laid
  sink-start =
      let none : drop (length whole) whole ≡ [] = drop-length whole in
      let all : take (length whole) whole ≡ whole = take-length whole in
      record {
        lent = refl;
        nets = refl;
        count = refl;
        within = omega arith;
        list = rw (none, all) (sym (append-nil whole));
        column = rw none;
        records = rw none (sym (add-zero p₀.pen.drawn));
        bytes = rw none;
        across = omega arith;
        room = omega arith;
      }

  module _ (p r : Plotter) (n q : ℕ) (i : n ≡ suc q) (c : Sinking p n) (s : Stepped (ltb (t q) (wire_at p.pen.wires q).height) (t q) q p r) where
    within-whole : q < length whole
    within-whole = omega (arith, c.within)

    abbrev w : Wire
    w = get_or whole q missing

    there : drop q whole ≡ w ∷ drop (suc q) whole
    there = drop-cons whole q missing within-whole

    front : take (suc q) whole ≡ take q whole ++ (w ∷ [])
    front = take-suc whole q missing within-whole

    present : p.pen.wires ≡ take q whole ++ w ∷ (lower (suc q)).wires
    present =
        c.list ∙ ap (λ (k : ℕ). take k whole ++ (lower k).wires) i
        ∙ ap (λ (l : List Wire). l ++ (lower (suc q)).wires) front
        ∙ append_snoc (take q whole) w (lower (suc q)).wires

    -- the wire at q has not moved yet
    same : wire_at p.pen.wires q ≡ w
    same =
        ap (λ (l : List Wire). get_or l q missing) (c.list ∙ ap (λ (k : ℕ). take k whole ++ (lower k).wires) i)
        ∙ get_or-append (take (suc q) whole) (lower (suc q)).wires missing q (omega (arith, length-take-le (suc q) whole within-whole))
        ∙ get_or-take (suc q) whole q missing (omega arith)

    abbrev down : Bool
    down = ltb (t q) w.height

    column-there : p.pen.column ≡ (lower (suc q)).column
    column-there = c.column ∙ ap (λ (k : ℕ). (lower k).column) i

    parted : lower q
        ≡ record {
          wires = bent down (t q) (lower (suc q)).column w ∷ (lower (suc q)).wires;
          column = pick down (suc (lower (suc q)).column) (lower (suc q)).column;
          film = (lower (suc q)).film ++ drawn down (t q) (lower (suc q)).column w;
        }
    unfolding sink
    parted = ap (sink t q p₀.pen.column) there

    stepped : Stepped down (t q) q p r
    stepped = rw (← same) s

    new-list : r.pen.wires ≡ take q whole ++ bent down (t q) (lower (suc q)).column w ∷ (lower (suc q)).wires
    new-list =
        stepped.list
        ∙ ap₂ (λ (l : List Wire) (v : Wire). set l q (bent down (t q) p.pen.column v)) present same
        ∙ set_at (take q whole) w (lower (suc q)).wires (bent down (t q) p.pen.column w) q (length-take-le q whole (omega (arith, within-whole)))
        ∙ ap (λ (x : ℕ). take q whole ++ bent down (t q) x w ∷ (lower (suc q)).wires) column-there

    moved : drawn down (t q) p.pen.column (wire_at p.pen.wires q) ≡ drawn down (t q) (lower (suc q)).column w
    moved = ap₂ (drawn down (t q)) column-there same

    pub sink-step : Sinking r q
    sink-step =
        let e = ap (λ (k : ℕ). length (lower k).film) i in
        let o = ap (λ (x : Sweep). length x.film) parted in
        let m = ap (λ (l : List Rec). length l) moved in
        let b : r.film.now ≡ laid p₀.film.now p₀.pen.drawn ((lower (suc q)).film ++ drawn down (t q) (lower (suc q)).column w) =
        stepped.bytes ∙ ap (laid p.film.now p.pen.drawn) moved
        ∙ ap₂ (λ (f : List ℕ) (d : ℕ). laid f d (drawn down (t q) (lower (suc q)).column w))
        (c.bytes ∙ ap (λ (k : ℕ). laid p₀.film.now p₀.pen.drawn (lower k).film) i)
        (c.records ∙ ap (λ (k : ℕ). p₀.pen.drawn + length (lower k).film) i)
        ∙ sym (laid-append p₀.film.now p₀.pen.drawn (lower (suc q)).film (drawn down (t q) (lower (suc q)).column w)) in
        record {
          lent = s.same ∙ c.lent;
          nets = s.nets ∙ c.nets;
          count = s.count ∙ c.count;
          within = omega (arith, c.within);
          list = new-list ∙ ap (λ (x : Sweep). take q whole ++ x.wires) (sym parted);
          column = stepped.column ∙ ap (λ (x : ℕ). pick down (suc x) x) column-there ∙ ap (λ (x : Sweep). x.column) (sym parted);
          records = omega (arith, stepped.records, c.records, length-append (lower (suc q)).film (drawn down (t q) (lower (suc q)).column w));
          bytes = b ∙ ap (λ (x : Sweep). laid p₀.film.now p₀.pen.drawn x.film) (sym parted);
          across = omega (arith, step-across p q s, c.across);
          room = omega (arith, step_room p q s, c.room);
        }

-- ---- a gap

pub cross-swept : (t : ℕ → ℕ) (p u r : Plotter) → 1 ≤ p.pen.column → Swept (climb t 0 p.pen.column p.pen.wires) (length p.pen.wires) p u
    → Swept (sink t 0 u.pen.column u.pen.wires) (length u.pen.wires) u r → Swept (gap t (p.pen.column - 1) p.pen.wires) (length p.pen.wires + length p.pen.wires) p r
unfolding gap
cross-swept t p u r h a b =
    let x : suc (p.pen.column - 1) ≡ p.pen.column = omega arith in
    let up : Sweep = climb t 0 p.pen.column p.pen.wires in
    let lower : sink t 0 u.pen.column u.pen.wires ≡ sink t 0 up.column up.wires = ap₂ (sink t 0) a.column a.list in
    let n = ap (λ (s : Sweep). length s.film) lower in
    rw x
    (record {
      same = b.same ∙ a.same;
      nets = b.nets ∙ a.nets;
      count = b.count ∙ a.count;
      list = b.list ∙ ap (λ (s : Sweep). s.wires) lower;
      column = b.column ∙ ap (λ (s : Sweep). s.column) lower;
      records = omega (arith, a.records, b.records, length-append up.film (sink t 0 up.column up.wires).film);
      bytes =
          b.bytes
          ∙ ap (λ (s : Sweep). laid u.film.now u.pen.drawn s.film) lower
          ∙ ap₂ (λ (f : List ℕ) (d : ℕ). laid f d (sink t 0 up.column up.wires).film) a.bytes a.records
          ∙ sym (laid-append p.film.now p.pen.drawn up.film (sink t 0 up.column up.wires).film);
      across = omega (arith, a.across, b.across, a.count);
      room = omega (arith, a.room, b.room, a.count);
    })
