-- The walk over nodes without a fault: each is due in its turn, and what is drawn from it on leads to all records of the nodes.
use mathlib.Core.Path.{◌≡◌, refl, sym, ap, ap₂, ◌∙◌}
use mathlib.Core.List.{List, [], ◌∷◌, ◌++◌, append_assoc}
use Prim.Native.Nat.{ℕ, suc, ◌+◌, ◌-◌, ◌*◌, ◌≤◌, ◌<◌}
use native.Mathlib.Nat.{add-zero}
use native.Mathlib.Numerals.{add-one}
use native.Mathlib.Omega.{arith}
use lib.ListN.{length, get_or, drop, length-append, length-drop, length-map}
use Rattle.rules.specs.declared.Kind.{Kind}
use Rattle.rules.specs.declared.Kind.TheVariants.{B, M, E, N}
use Rattle.rules.specs.Street.{last, counted}
use Rattle.rules.specs.Sheet.{kind_in, Entry, entry, begun}
use Rattle.rules.specs.Judgement.{left}
use Rattle.rules.specs.Film.{upper_at, Rec, Wire, Sweep, gap, marks, draw}
use Rattle.rules.proofs.Fits.{FitsAt}
use Rattle.rules.proofs.Levels.{both-streets}
use Rattle.rules.proofs.Legal.{Legal, then}
use Rattle.sheet.specs.Fields.{entry_in, entries_in, Faultless}
use Rattle.sheet.specs.Told.{kind_at, above_at}
use Rattle.sheet.proofs.Walks.{faultless-legal, legal-few}
use Rattle.sheet.proofs.Scans.{entries_from, entries-end}
use Rattle.film.specs.declared.moves.Plotter.{Plotter}
use Rattle.film.specs.declared.node.Node.{Node}
use Rattle.film.specs.Stamps.{each, laid}
use Rattle.film.specs.Moves.{aim, Able, SameFilm, Started, Swept}
use Rattle.film.specs.Nodes.{own, shown, going, Joinable, Joined}
use Rattle.film.specs.Walks.{pitch, NodeOf, Due, crossing, strokes, Visited, records_in, Lain}
use Rattle.film.proofs.Sweeps.{laid-append}

-- ---- one node

shown-few : (n : Node) (b x : ℕ) (ws : List Wire) → length (shown n b x ws) ≤ 2
unfolding marks
shown-few n b x ws = go n.kind (own n b x ws)
  where
    go : (k : Kind) (w : Wire) → length (marks k x w) ≤ 2
    go B w = omega arith
    go M w = omega arith
    go E w = omega arith
    go N w = omega arith

counted-more : (k : Kind) (b : ℕ) → b ≤ counted k b
unfolding counted
counted-more B b = omega arith
counted-more M b = omega arith
counted-more E b = omega arith
counted-more N b = omega arith

module _ (n : Node) (i : ℕ) (w : Plotter) (d : Due w.pen n i) where
  few : length w.pen.wires ≤ 6
  few = omega (arith, d.few, counted-more n.kind (length w.pen.wires))

  pub visit-able : Able w.pen (length w.pen.wires + length w.pen.wires)
  visit-able = record { across = omega (arith, d.column, d.near, few); room = omega (arith, d.room, d.near, few) }

  module _ (c : Plotter) (s : Swept (gap (aim n) (w.pen.column - 1) w.pen.wires) (length w.pen.wires + length w.pen.wires) w c) where
    pub visit-joinable : Joinable c.pen n (pitch * i)
    visit-joinable =
        record {
          stands = rw s.count d.stands;
          few = rw s.count d.few;
          fitting = rw s.count d.fitting;
          small = rw s.nets d.small;
          column = omega (arith, d.near);
          room = omega (arith, s.room, few, d.room, d.near);
        }

    from : gap (aim n) (w.pen.column - 1) w.pen.wires ≡ crossing w.pen n i
    from =
        let e : w.pen.column - 1 ≡ pitch * (i - 1) = omega (arith, d.column) in
        ap (λ (x : ℕ). gap (aim n) x w.pen.wires) e

    wires : c.pen.wires ≡ (crossing w.pen n i).wires
    wires = s.list ∙ ap (λ (g : Sweep). g.wires) from

    module _ (r : Plotter) where
      pub visit-visited : Joined n (pitch * i) c r → Visited n i w r
      visit-visited j =
          let g : Sweep = crossing w.pen n i in
          let x : ℕ = pitch * i in
          let drawn : shown n c.pen.begun x c.pen.wires ≡ shown n w.pen.begun x g.wires = ap₂ (λ (b : ℕ) (l : List Wire). shown n b x l) s.nets wires in
          let m = ap (λ (l : List Rec). length l) drawn in
          let f = ap (λ (q : Sweep). length q.film) from in
          record {
            same = j.same ∙ s.same;
            count = j.count ∙ ap (left n.kind) s.count;
            list = j.list ∙ ap₂ (λ (b : ℕ) (l : List Wire). going n b x l) s.nets wires;
            column = j.column;
            nets = j.nets ∙ ap (begun n.kind) s.nets;
            records = omega (arith, j.records, s.records, length-append g.film (shown n w.pen.begun x g.wires));
            bytes =
                j.bytes
                ∙ ap (λ (l : List Rec). laid c.film.now c.pen.drawn l) drawn
                ∙ ap₂ (λ (k : List ℕ) (y : ℕ). laid k y (shown n w.pen.begun x g.wires))
                (s.bytes ∙ ap (λ (q : Sweep). laid w.film.now w.pen.drawn q.film) from)
                (s.records ∙ ap (λ (q : Sweep). w.pen.drawn + length q.film) from)
                ∙ sym (laid-append w.film.now w.pen.drawn g.film (shown n w.pen.begun x g.wires));
            room = omega (arith, s.room, few, d.room, j.records, shown-few n c.pen.begun x c.pen.wires);
          }

-- ---- what a legal entry allows

record Allowed (ku kl b f a : ℕ) (es : List Entry) : Type 0 where
  fits : FitsAt (kind_in f) ku kl (suc a) (counted (kind_in f) b)
  rest : Legal ku kl (left (kind_in f) b) es

allowed : {ku kl b f a : ℕ} {es : List Entry} → Legal ku kl b (entry f a ∷ es) → Allowed ku kl b f a es
allowed (then h l) = record { fits = h; rest = l }

legal-above : {ku kl b : ℕ} {e : Entry} {es : List Entry} → Legal ku kl b (e ∷ es) → above_at e ≤ ku
unfolding above_at
legal-above (then h l) = omega (arith, h.upper)

-- an entry's two fields, of which a node tells the kind and the wires above
record Opened (e : Entry) (n : Node) : Type 0 where
  field : ℕ
  is : e ≡ entry field n.above
  kind : n.kind ≡ kind_in field

opened : (e : Entry) {ku : ℕ} {n : Node} → NodeOf e ku n → Opened e n
unfolding kind_at above_at
opened (entry f a) t = record { field = f; is = ap (entry f) (sym t.above); kind = t.kind }

-- the records from an entry on
draw-cons : (ku i b f : ℕ) (ws : List Wire) (w : Plotter) (n : Node) (es : List Entry) → w.pen.wires ≡ ws → w.pen.begun ≡ b → n.kind ≡ kind_in f
    → n.upper ≡ upper_at n.kind ku n.above
    → draw pitch ku i b ws (entry f n.above ∷ es)
    ≡ strokes w.pen n i ++ draw pitch ku (suc i) (begun n.kind w.pen.begun) (going n w.pen.begun (pitch * i) (crossing w.pen n i).wires) es
unfolding draw
draw-cons ku i b f ws w n es p q k u =
    rw (← p, ← q, ← k, ← u)
    (sym (append_assoc (crossing w.pen n i).film (shown n w.pen.begun (pitch * i) (crossing w.pen n i).wires)
    (draw pitch ku (suc i) (begun n.kind w.pen.begun) (going n w.pen.begun (pitch * i) (crossing w.pen n i).wires) es)))

-- ---- the walk

module _ {ku kl : ℕ} (fs : List ℕ) (p₀ : Plotter) (d : Faultless ku kl fs) where
  -- what is drawn from node i on
  abbrev ahead : ℕ → Plotter → List Rec
  ahead i w = draw pitch ku i w.pen.begun w.pen.wires (drop i (entries_in fs))

  -- before node i: the wires are legal for the entries from there on, and what is drawn from there on leads to all records
  pub record Walking (i : ℕ) (w : Plotter) : Type 0 where
    pub within : i ≤ length fs
    pub lent : SameFilm p₀ w
    pub legal : Legal ku kl (length w.pen.wires) (drop i (entries_in fs))
    pub few : 2 * w.pen.begun ≤ i + (length w.pen.wires)
    pub column : w.pen.column ≡ suc (pitch * (i - 1))
    pub room : w.pen.drawn ≤ each * i
    pub count : w.pen.drawn + length (ahead i w) ≡ length (records_in ku fs)
    pub bytes : laid w.film.now w.pen.drawn (ahead i w) ≡ laid p₀.film.now 0 (records_in ku fs)

  pub walk_start : Started p₀.pen → Walking 0 p₀
  walk_start e =
      let none : length p₀.pen.wires ≡ 0 = ap (λ (l : List Wire). length l) e.wires in
      record {
        within = omega arith;
        lent = refl;
        legal = rw none (faultless-legal d);
        few = omega (arith, e.nets);
        column = e.column;
        room = omega (arith, e.drawn);
        count = rw (e.wires, e.drawn, e.nets) (omega arith);
        bytes = rw (e.wires, e.drawn, e.nets) refl;
      }

  module _ (i : ℕ) (w : Plotter) (m : Walking i w) (h : i < length fs) where
    -- at most three wires stand above the node's
    pub walk-above : above_at (entry_in (get_or fs i 0)) ≤ 3
    walk-above = omega (arith, legal-above (rw (entries_from fs i h) at m.legal), d.upper)

    module _ (n : Node) (t : NodeOf (entry_in (get_or fs i 0)) ku n) where
      its : Opened (entry_in (get_or fs i 0)) n
      its = opened (entry_in (get_or fs i 0)) t

      here : Allowed ku kl (length w.pen.wires) its.field n.above (drop (suc i) (entries_in fs))
      here = allowed (rw (entries_from fs i h, its.is) at m.legal)

      pub walk-due : Due w.pen n i
      unfolding begun left counted
      walk-due =
          let f = rw (← its.kind) at here.fits in
          let u = both-streets n.kind f in
          let rest = rw (← its.kind) at here.rest in
          record {
            stands = f.high;
            few = omega (arith, f.sum, d.upper, d.lower);
            fitting = record { deep = omega (arith, t.upper, u.1, d.lower) };
            small = go n.kind (legal-few rest);
            near = omega (arith, d.few);
            column = m.column;
            room = m.room;
          }
        where
          go : (k : Kind) → left k (length w.pen.wires) ≤ length (drop (suc i) (entries_in fs)) → begun k w.pen.begun ≤ 256
          go B l = omega (arith, length-drop (suc i) (entries_in fs), length-map fs entry_in, m.few, d.few)
          go M l = omega (arith, length-drop (suc i) (entries_in fs), length-map fs entry_in, m.few, d.few)
          go E l = omega (arith, length-drop (suc i) (entries_in fs), length-map fs entry_in, m.few, d.few)
          go N l = omega (arith, length-drop (suc i) (entries_in fs), length-map fs entry_in, m.few, d.few)

      module _ (r : Plotter) (v : Visited n i w r) where
        -- what is drawn from node i on is drawn for it, and then from the next on
        parts : ahead i w ≡ strokes w.pen n i ++ ahead (suc i) r
        parts =
            ap (draw pitch ku i w.pen.begun w.pen.wires) (entries_from fs i h ∙ ap (λ (e : Entry). e ∷ drop (suc i) (entries_in fs)) its.is)
            ∙ draw-cons ku i w.pen.begun its.field w.pen.wires w n (drop (suc i) (entries_in fs)) refl refl its.kind t.upper
            ∙ ap₂ (λ (b : ℕ) (ws : List Wire). strokes w.pen n i ++ draw pitch ku (suc i) b ws (drop (suc i) (entries_in fs))) (sym v.nets) (sym v.list)

        pub walk_step : Walking (i + 1) r
        unfolding begun left last counted
        walk_step =
            let p = ap (λ (l : List Rec). length l) parts in
            rw (add-one i)
            (record {
              within = h;
              lent = v.same ∙ m.lent;
              legal = rw (v.count, its.kind) here.rest;
              few = rw (v.count, v.nets) (go n.kind (rw (← its.kind) at here.fits).high);
              column = omega (arith, v.column);
              room = v.room;
              count = omega (arith, v.records, m.count, length-append (strokes w.pen n i) (ahead (suc i) r));
              bytes =
                  ap₂ (λ (f : List ℕ) (k : ℕ). laid f k (ahead (suc i) r)) v.bytes v.records
                  ∙ sym (laid-append w.film.now w.pen.drawn (strokes w.pen n i) (ahead (suc i) r))
                  ∙ ap (laid w.film.now w.pen.drawn) (sym parts)
                  ∙ m.bytes;
            })
          where
            go : (k : Kind) → suc n.above ≤ last k (counted k (length w.pen.wires)) → 2 * begun k w.pen.begun ≤ suc i + left k (length w.pen.wires)
            go B l = omega (arith, m.few)
            go M l = omega (arith, m.few)
            go E l = omega (arith, m.few)
            go N l = omega (arith, m.few)

  pub walk_end : (i : ℕ) (w : Plotter) → Walking i w → length fs ≤ i → Lain ku fs p₀.film.now w.pen.drawn w.film.now
  unfolding draw laid
  walk_end i w m h =
      let none : drop i (entries_in fs) ≡ [] = entries-end fs i (omega (arith, m.within)) in
      let count = rw none at m.count in
      let bytes = rw none at m.bytes in
      record { count = sym (add-zero w.pen.drawn) ∙ count; few = omega (arith, m.room, m.within, d.few); bytes = bytes }
