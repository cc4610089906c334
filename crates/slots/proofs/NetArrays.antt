-- The nets as the laying that they are: a store is a change, and what the code stores for one record is what laying it says.
use mathlib.Core.Path.{◌≡◌, refl, sym, ap, ap₂, ◌∙◌, fun_ext}
use mathlib.Core.Bool.{Bool, true, false}
use mathlib.Core.List.{List, [], ◌∷◌}
use Prim.Native.Nat.{ℕ, zero, suc, ◌+◌, ◌-◌, ◌≤◌, ◌<◌}
use native.Mathlib.Omega.{arith}
use lib.ListN.{length, get_or, set, length-set, get_or-map as get_or-map_default}
use Rattle.std.specs.Prelude.{map, Option, None, Some, IsNone, IfSome}
use Rattle.std.specs.Option.{IsSomeAnd}
use Rattle.std.proofs.lemmas.List.{map-set, get_or-map, length-map}
use lib.Seq.{get_or-set_same, get_or-set_other, set-set, set-get_or}
use lib.Dec.{eqb}
use borrow.Author.Tests.{eqb-true, eqb-false, eq-eqb, ne_eqb}
use Rattle.rules.specs.Basic.{pick}
use Rattle.rules.specs.Film.{Rec, across, upright, axis, rec_bits}
use Rattle.wires.specs.Laying.{Laying, changed, in_slot, with_vertical, lay, laid}
use Rattle.slots.specs.Stamps.{columns, stamp, stamped}
use Rattle.slots.specs.declared.runs.Run.{Run}
use Rattle.slots.specs.declared.runs.Net.{Net}
use Rattle.slots.specs.Slots.{Lent, lent, read, laying, Arrays, Room, vertical, Turned, Began, Ended}
use Rattle.slots.specs.Runs.{nexts, runs, run_at, slot_of, start_of, helds, Columns}

-- ---- one array

pub read_at : (l : List ℕ) (n v m : ℕ) → n < length l → read (set l n v) m ≡ pick (eqb n m) v (read l m)
unfolding pick
read_at l n v m h = go (eqb n m) refl
  where
    go : (t : Bool) → eqb n m ≡ t → read (set l n v) m ≡ pick t v (read l m)
    go true e = ap (read (set l n v)) (sym (eqb-true n m e)) ∙ get_or-set_same l n v 0 h
    go false e = get_or-set_other l n m v 0 (λ q. eqb-false n m e (sym q))

pub read_set : (l : List ℕ) (n v : ℕ) → n < length l → read (set l n v) ≡ changed n v (read l)
unfolding changed
read_set l n v h = fun_ext (λ m. read_at l n v m h)

-- what holds of each element of a list, and of another at its place, holds where that one is put
pub each_set : {A : Type 0} (P : ℕ → A → Type 0) (d : A) (l : List A) (q : ℕ) {a : A} → P q a → (i : ℕ) → P i (get_or l i d) → P i (get_or (set l q a) i d)
each_set P d [] q k i h = h
each_set P d (x ∷ l) zero k zero h = k
each_set P d (x ∷ l) zero k (suc i) h = h
each_set P d (x ∷ l) (suc q) k zero h = h
each_set P d (x ∷ l) (suc q) k (suc i) h = each_set (λ j. P (suc j)) d l q k i h

pub room-set : (l : List ℕ) (n i k j : ℕ) → i ≤ k → Room (j + k) l → Room j (set l n (read l n + i))
room-set l n i k j w r m = each_set (λ _ x. x + j < 65536) 0 l n (omega (arith, r n)) m (omega (arith, r m))

-- what holds of the pairs of two lists, and of another pair, holds where that one is put
both_set : {A B : Type 0} (P : A → B → Type 0) (d : A) (e : B) (l : List A) (m : List B) (q : ℕ) {a : A} {b : B} → length l ≡ length m → P a b
    → (i : ℕ) → P (get_or l i d) (get_or m i e) → P (get_or (set l q a) i d) (get_or (set m q b) i e)
both_set P d e [] [] q n k i h = h
both_set P d e [] (y ∷ m) q n k i h = absurd (omega arith)
both_set P d e (x ∷ l) [] q n k i h = absurd (omega arith)
both_set P d e (x ∷ l) (y ∷ m) zero n k zero h = k
both_set P d e (x ∷ l) (y ∷ m) zero n k (suc i) h = h
both_set P d e (x ∷ l) (y ∷ m) (suc q) n k zero h = h
both_set P d e (x ∷ l) (y ∷ m) (suc q) n k (suc i) h = both_set P d e l m q (omega arith) k i h

-- ---- one record laid

pub in_slot-stamp : (slot : ℕ) (r : Rec) (film : List ℕ) → 1 ≤ slot → in_slot stamped slot r film ≡ stamp film (slot - 1) (rec_bits r)
unfolding in_slot stamped
in_slot-stamp zero r film h = absurd (omega arith)
in_slot-stamp (suc k) r film h = let e : k ≡ suc k - 1 = omega arith in ap (λ (j : ℕ). stamp film j (rec_bits r)) e

abbrev on : (film next held : List ℕ) → Laying (List ℕ)
on film next held = laying (lent film next held [])

on_same : {f f' ns ns' hs hs' : List ℕ} → f ≡ f' → ns ≡ ns' → hs ≡ hs' → on f ns hs ≡ on f' ns' hs'
on_same {f' = f'} {ns' = ns'} {hs = hs} p q r = ap₂ (λ (a b : List ℕ). on a b hs) p q ∙ ap (λ (c : List ℕ). on f' ns' c) r

module _ (film next held : List ℕ) (n : ℕ) where
  -- a run goes to its slot
  lay-run : (h l r : ℕ) → n < length held → lay stamped (on film next held) (across n h l r) ≡ on (in_slot stamped (read held n) (across n h l r) film) next (set held n 0)
  unfolding lay
  lay-run h l r w = ap (λ (f : ℕ → ℕ). record { film = in_slot stamped (read held n) (across n h l r) film; next = read next; held = f }) (sym (read_set held n 0 w))

  -- a vertical begins a run where none is open
  lay-first : (l x h : ℕ) → n < length next → n < length held → read held n ≡ 0
      → lay stamped (on film next held) (upright n l x h)
      ≡ on (in_slot stamped (read next n) (upright n l x h) film) (set next n (read next n + 2)) (set held n (read next n + 1))
  unfolding lay with_vertical
  lay-first l x h v w e =
      rw (eq-eqb (read held n) 0 e)
      (ap₂ (λ (f g : ℕ → ℕ). record { film = in_slot stamped (read next n) (upright n l x h) film; next = f; held = g })
      (sym (read_set next n (read next n + 2) v)) (sym (read_set held n (read next n + 1) w)))

  -- elsewhere it touches the run
  lay-touch : (l x h : ℕ) → n < length next → 1 ≤ read held n
      → lay stamped (on film next held) (upright n l x h) ≡ on (in_slot stamped (read next n) (upright n l x h) film) (set next n (read next n + 1)) held
  unfolding lay with_vertical
  lay-touch l x h v w =
      rw (ne_eqb (read held n) 0 (λ e. omega (arith, e)))
      (ap (λ (f : ℕ → ℕ). record { film = in_slot stamped (read next n) (upright n l x h) film; next = f; held = read held }) (sym (read_set next n (read next n + 1) v)))

-- ---- the records of one net laid

module _ (p : Lent) (a : Arrays p.next p.held p.starts) (net h x : ℕ) (small : net < 256) where
  wide : net < length p.next
  wide = omega (arith, a.nexts, small)

  deep : net < length p.held
  deep = omega (arith, a.helds, small)

  first : 1 ≤ read p.next net
  first = a.from_one net small

  -- a run goes to the slot that it holds, a vertical to the net's next
  run-laid : (f : List ℕ) {f₁ : List ℕ} (o : ℕ) → 1 ≤ read p.held net → f₁ ≡ stamp f (read p.held net - 1) (rec_bits (across net o (read p.starts net) x))
      → f₁ ≡ in_slot stamped (read p.held net) (across net o (read p.starts net) x) f
  run-laid f o e q = q ∙ sym (in_slot-stamp (read p.held net) (across net o (read p.starts net) x) f e)

  wall-laid : (f : List ℕ) {f₁ : List ℕ} (a b : ℕ) → f₁ ≡ stamp f (read p.next net - 1) (rec_bits (vertical net a b x))
      → f₁ ≡ in_slot stamped (read p.next net) (vertical net a b x) f
  wall-laid f a b q = q ∙ sym (in_slot-stamp (read p.next net) (vertical net a b x) f first)

  -- where a run begins, the net's slots go up by two
  module _ (r : Lent) (b : Arrays r.next r.held r.starts) (ns : r.next ≡ set p.next net (read p.next net + 2)) (hs : r.held ≡ set p.held net (read p.next net + 1))
      (ss : r.starts ≡ set p.starts net x) where
    begun-room : (j : ℕ) → Room (j + 2) p.next → Room j r.next
    begun-room j w = rw ns (room-set p.next net 2 2 j (omega arith) w)

    pub turned : (o : ℕ) {f₁ : List ℕ} → 1 ≤ read p.held net → f₁ ≡ stamp p.film (read p.held net - 1) (rec_bits (across net o (read p.starts net) x))
        → r.film ≡ stamp f₁ (read p.next net - 1) (rec_bits (vertical net h o x)) → Turned net o h x p r
    unfolding laid
    turned o {f₁} e d v =
        let run = across net o (read p.starts net) x in
        let wall = vertical net h o x in
        let film : r.film ≡ in_slot stamped (read p.next net) wall (in_slot stamped (read p.held net) run p.film) =
        wall-laid f₁ h o v ∙ ap (in_slot stamped (read p.next net) wall) (run-laid p.film o e d) in
        let again : r.held ≡ set (set p.held net 0) net (read p.next net + 1) = hs ∙ sym (set-set p.held net 0 (read p.next net + 1)) in
        let cleared : net < length (set p.held net 0) = omega (arith, length-set p.held net 0, deep) in
        record {
          laid =
              record {
                records =
                    on_same film ns again
                    ∙ sym (ap (λ d. lay stamped d wall) (lay-run p.film p.next p.held net o (read p.starts net) x deep)
                    ∙ lay-first (in_slot stamped (read p.held net) run p.film) p.next (set p.held net 0) net _ x _ wide cleared (get_or-set_same p.held net 0 0 deep));
                arrays = b;
                room = begun-room;
              };
          held = hs;
          starts = ss;
        }

    pub began : read p.held net ≡ 0 → r.film ≡ stamp p.film (read p.next net - 1) (rec_bits (vertical net axis h x)) → Began net h x p r
    unfolding laid
    began e v =
        record {
          laid =
              record {
                records = on_same (wall-laid p.film axis h v) ns hs ∙ sym (lay-first p.film p.next p.held net _ x _ wide deep e);
                arrays = b;
                room = begun-room;
              };
          held = hs;
          starts = ss;
        }

  -- where its last run ends, they go up by one
  pub ended : (r : Lent) {f₁ : List ℕ} → Arrays r.next r.held r.starts → r.next ≡ set p.next net (read p.next net + 1) → r.held ≡ set p.held net 0 → r.starts ≡ p.starts
      → 1 ≤ read p.held net → f₁ ≡ in_slot stamped (read p.next net) (vertical net axis h x) p.film
      → r.film ≡ stamp f₁ (read p.held net - 1) (rec_bits (across net h (read p.starts net) x)) → Ended net h x p r
  unfolding laid
  ended r {f₁} b ns hs ss e v d =
      let run = across net h (read p.starts net) x in
      let stub = in_slot stamped (read p.next net) (vertical net axis h x) p.film in
      let film : r.film ≡ in_slot stamped (read p.held net) run stub = run-laid f₁ h e d ∙ ap (in_slot stamped (read p.held net) run) v in
      record {
        laid =
            record {
              records =
                  on_same film ns hs
                  ∙ sym (ap (λ d. lay stamped d run) (lay-touch p.film p.next p.held net _ x _ wide e)
                  ∙ lay-run stub (set p.next net (read p.next net + 1)) p.held net h (read p.starts net) x deep);
              arrays = b;
              room = λ j w. rw ns (room-set p.next net 1 1 j (omega arith) w);
            };
        held = hs;
        starts = ss;
      }

-- a stub begins on the level of the pins
pub stub-laid : (slot net h x : ℕ) (f : List ℕ) {f₁ : List ℕ} {i a : ℕ} → 1 ≤ slot → i ≡ slot - 1 → a ≡ axis
    → f₁ ≡ stamp f i (rec_bits (vertical net a h x)) → f₁ ≡ in_slot stamped slot (vertical net axis h x) f
stub-laid slot net h x f first e z q =
    q ∙ ap₂ (λ (i a : ℕ). stamp f i (rec_bits (vertical net a h x))) e z ∙ sym (in_slot-stamp slot (vertical net axis h x) f first)

-- ---- a net among the nets

-- what stands past the end
fresh : Net
fresh = record { next = 1; run = None; next_from_one = omega arith }

-- a run that holds a slot, and began at column x
some-run : (o : Option Run) (s x : ℕ) → IsSomeAnd o (λ r. (r.slot ≡ s) × (r.start ≡ x)) → (slot_of o ≡ s) × IfSome o (λ r. x ≡ r.start)
unfolding slot_of
some-run None s x h = absurd h
some-run (Some r) s x h = (h.0, sym h.1)

-- nets have columns
pub has_columns : (ns : List Net) → length ns ≡ 256 → (starts : List ℕ) × Columns ns starts
unfolding start_of
has_columns ns w = (
  map start_of (runs ns),
  record {
    long = length-map (runs ns) start_of ∙ length-map ns (λ a. a.run) ∙ w;
    small = λ n. rw (at n) (low (run_at ns n));
    began = λ n. rw (at n) (same (run_at ns n));
  },
)
  where
    at : (n : ℕ) → read (map start_of (runs ns)) n ≡ start_of (run_at ns n)
    at n = get_or-map_default start_of (runs ns) n None

    low : (o : Option Run) → start_of o < columns
    low None = omega arith
    low (Some r) = r.start_within

    same : (o : Option Run) → IfSome o (λ r. start_of o ≡ r.start)
    same None = tt
    same (Some r) = refl

no-run : (o : Option Run) → IsNone o → slot_of o ≡ 0
unfolding slot_of
no-run None h = refl
no-run (Some r) h = let z : ◌≡◌ {A = ℕ} 0 1 = cc in absurd (omega arith)

arrays_of : (nets : List Net) → length nets ≡ 256 → {starts : List ℕ} → Columns nets starts → Arrays (nexts nets) (helds nets) starts
arrays_of nets whole c =
    record {
      nexts = length-map nets (λ a. a.next) ∙ whole;
      helds = length-map (runs nets) slot_of ∙ length-map nets (λ a. a.run) ∙ whole;
      begins = c.long;
      from_one = λ n h. omega (arith, get_or-map (λ a. a.next) nets n fresh 0 (omega arith), (get_or nets n fresh).next_from_one);
      since = c.small;
    }

module _ (nets : List Net) (whole : length nets ≡ 256) where
  module _ (net : ℕ) (small : net < 256) (i : ℕ) (at : i ≡ net) (d : Net) where
    within : net < length nets
    within = omega (arith, whole, small)

    abbrev own : Net
    own = get_or nets i d

    pub next_there : own.next ≡ read (nexts nets) net
    next_there = ap (λ (j : ℕ). (get_or nets j d).next) at ∙ sym (get_or-map (λ a. a.next) nets net d 0 within)

    pub run_there : own.run ≡ run_at nets net
    run_there = ap (λ (j : ℕ). (get_or nets j d).run) at ∙ sym (get_or-map (λ a. a.run) nets net d None within)

    held_there : read (helds nets) net ≡ slot_of own.run
    held_there = get_or-map slot_of (runs nets) net None 0 (omega (arith, length-map nets (λ a. a.run), within)) ∙ ap slot_of (sym run_there)

    -- of an open run the slot that it holds, and the column where it began
    slot_there : {r : Run} → own.run ≡ Some r → read (helds nets) net ≡ r.slot
    unfolding slot_of
    slot_there e = held_there ∙ ap slot_of e

    start_there : {r : Run} (starts : List ℕ) → Columns nets starts → own.run ≡ Some r → read starts net ≡ r.start
    start_there starts c e = rw (sym run_there ∙ e) at (c.began net)

    nexts_set : (v : Net) → nexts (set nets i v) ≡ set (nexts nets) net v.next
    nexts_set v = map-set (λ a. a.next) nets i v ∙ ap (λ (j : ℕ). set (nexts nets) j v.next) at

    runs_set : (v : Net) → runs (set nets i v) ≡ set (runs nets) net v.run
    runs_set v = map-set (λ a. a.run) nets i v ∙ ap (λ (j : ℕ). set (runs nets) j v.run) at

    helds_set : (v : Net) → helds (set nets i v) ≡ set (helds nets) net (slot_of v.run)
    helds_set v = ap (map slot_of) (runs_set v) ∙ map-set slot_of (runs nets) net v.run

    module _ (x : ℕ) (starts : List ℕ) (c : Columns nets starts) where
      columns_set : (v : Net) → x < columns → IfSome v.run (λ r. x ≡ r.start) → Columns (set nets i v) (set starts net x)
      columns_set v low k =
          record {
            long = length-set starts net x ∙ c.long;
            small = λ n. each_set (λ _ y. y < columns) 0 starts net low n (c.small n);
            began = λ n. rw (runs_set v)
                (both_set (λ o y. IfSome o (λ r. y ≡ r.start)) None 0 (runs nets) starts net (omega (arith, length-map nets (λ a. a.run), whole, c.long)) k n (c.began n));
          }

      columns_kept : (v : Net) → v.run ≡ None → Columns (set nets i v) starts
      columns_kept v k =
          record {
            long = c.long;
            small = c.small;
            began = λ n. rw (runs_set v) (each_set (λ j o. IfSome o (λ r. read starts j ≡ r.start)) None (runs nets) net (rw k tt) n (c.began n));
          }

      module _ (film f : List ℕ) (h : ℕ) (low : x < columns) (v : Net) (ns : v.next ≡ own.next + 2) (rs : IsSomeAnd v.run (λ r. (r.slot ≡ own.next + 1) × (r.start ≡ x))) where
        columns_after : Columns (set nets i v) (set starts net x)
        columns_after = columns_set v low (some-run v.run (own.next + 1) x rs).1

        arrays_after : Arrays (nexts (set nets i v)) (helds (set nets i v)) (set starts net x)
        arrays_after = arrays_of (set nets i v) (length-set nets i v ∙ whole) columns_after

        nexts_after : nexts (set nets i v) ≡ set (nexts nets) net (read (nexts nets) net + 2)
        nexts_after = nexts_set v ∙ ap (set (nexts nets) net) (ns ∙ ap (λ (k : ℕ). k + 2) next_there)

        helds_after : helds (set nets i v) ≡ set (helds nets) net (read (nexts nets) net + 1)
        helds_after = helds_set v ∙ ap (set (helds nets) net) ((some-run v.run (own.next + 1) x rs).0 ∙ ap (λ (k : ℕ). k + 1) next_there)

        abbrev before : Lent
        before = lent film (nexts nets) (helds nets) starts

        abbrev after : Lent
        after = lent f (nexts (set nets i v)) (helds (set nets i v)) (set starts net x)

        pub turn_leads : (o : ℕ) {run : Run} {f₁ : List ℕ} → own.run ≡ Some run → f₁ ≡ stamp film (run.slot - 1) (rec_bits (across net o run.start x))
            → f ≡ stamp f₁ (own.next - 1) (rec_bits (vertical net h o x))
            → (s : List ℕ) × Columns (set nets i v) s × Turned net o h x (lent film (nexts nets) (helds nets) starts) (lent f (nexts (set nets i v)) (helds (set nets i v)) s)
        turn_leads o {run} {f₁} e p q =
            let slot = slot_there e in
            let start = start_there starts c e in (
              set starts net x,
              columns_after,
              turned before (arrays_of nets whole c) net h x small after arrays_after nexts_after helds_after refl o {f₁ = f₁} (omega (arith, slot, run.slot_from_one))
                  (rw (slot, start) p) (rw (← next_there) q),
            )

        pub begin_leads : IsNone (run_at nets net) → f ≡ stamp film (own.next - 1) (rec_bits (vertical net axis h x))
            → (s : List ℕ) × Columns (set nets i v) s × Began net h x (lent film (nexts nets) (helds nets) starts) (lent f (nexts (set nets i v)) (helds (set nets i v)) s)
        begin_leads e q = (
          set starts net x,
          columns_after,
          began before (arrays_of nets whole c) net h x small after arrays_after nexts_after helds_after refl
              (held_there ∙ no-run own.run (rw run_there e)) (rw (← next_there) q),
        )

    pub stub_next : (v : Net) → v.next ≡ own.next + 1 → nexts (set nets i v) ≡ set (nexts nets) net (read (nexts nets) net + 1)
    stub_next v e = nexts_set v ∙ ap (set (nexts nets) net) (e ∙ ap (λ (k : ℕ). k + 1) next_there)

    pub stub_runs : (v : Net) → v.run ≡ own.run → runs (set nets i v) ≡ runs nets
    stub_runs v e = runs_set v ∙ ap (set (runs nets) net) (e ∙ run_there) ∙ set-get_or (runs nets) net None

-- a net ends: its stub takes its next slot, and no run of it is open then
module _ (nets qs : List Net) (whole : length nets ≡ 256) (whole' : length qs ≡ 256) (net : ℕ) (small : net < 256) (i : ℕ) (at : i ≡ net) (d d' : Net) where
  pub end_leads : (film f₁ f : List ℕ) (h x : ℕ) (starts : List ℕ) → Columns nets starts → (v : Net) {run : Run} → (get_or nets i d).run ≡ Some run
      → nexts qs ≡ set (nexts nets) net (read (nexts nets) net + 1) → runs qs ≡ runs nets → v.next ≡ (get_or qs i d').next → v.run ≡ None
      → f₁ ≡ in_slot stamped (read (nexts nets) net) (vertical net axis h x) film → f ≡ stamp f₁ (run.slot - 1) (rec_bits (across net h run.start x))
      → (s : List ℕ) × Columns (set qs i v) s × Ended net h x (lent film (nexts nets) (helds nets) starts) (lent f (nexts (set qs i v)) (helds (set qs i v)) s)
  unfolding slot_of
  end_leads film f₁ f h x starts c v {run} e ns rs vn vr p q =
      let slot = slot_there nets whole net small i at d e in
      let start = start_there nets whole net small i at d starts c e in
      let kept : Columns qs starts = record { long = c.long; small = c.small; began = λ n. rw rs (c.began n) } in
      let columns' = columns_kept qs whole' net small i at d' x starts kept v vr in
      let next : nexts (set qs i v) ≡ set (nexts nets) net (read (nexts nets) net + 1) =
      nexts_set qs whole' net small i at d' v ∙ ap (set (nexts qs) net) (vn ∙ next_there qs whole' net small i at d') ∙ set-get_or (nexts qs) net 0 ∙ ns in
      let held : helds (set qs i v) ≡ set (helds nets) net 0 =
      helds_set qs whole' net small i at d' v ∙ ap₂ (λ (l : List ℕ) (k : ℕ). set l net k) (ap (map slot_of) rs) (ap slot_of vr) in (
        starts,
        columns',
        ended (lent film (nexts nets) (helds nets) starts) (arrays_of nets whole c) net h x small (lent f (nexts (set qs i v)) (helds (set qs i v)) starts)
            (arrays_of (set qs i v) (length-set qs i v ∙ whole') columns') next held refl (omega (arith, slot, run.slot_from_one)) p (rw (slot, start) q),
      )
