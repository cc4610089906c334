-- The walk through the nodes: the places so far begin the first way, the kinds are those of the steps, and the order is that of the rank.
use mathlib.Core.Path.{◌≡◌, refl, sym, ap, ap₂, ◌∙◌}
use mathlib.Core.List.{List, [], ◌∷◌, ◌++◌, map, map-append}
use Prim.Native.Nat.{ℕ, suc, ◌+◌, ◌≤◌, ◌<◌}
use native.Mathlib.Numerals.{add-one}
use native.Mathlib.Omega.{arith}
use lib.ListN.{length, get_or, take, set, length-map}
use lib.Seq.{take-suc, take-suc-set, take-length}
use Rattle.std.proofs.lemmas.List.{map-set, take-map}
use Rattle.rules.specs.declared.Kind.{Kind}
use Rattle.rules.specs.declared.Streets.{Streets}
use Rattle.rules.specs.Row.{node}
use Rattle.rules.specs.Street.{next}
use Rattle.rules.proofs.Accepted.{length-nodes}
use Rattle.steps.specs.Plan.{Step, turn_kind}
use Rattle.steps.proofs.Hops.{stop-lands}
use Rattle.orders.proofs.Nodes.{none, stop_at, stop-ready}
use Rattle.orders.proofs.Picking.{Picks, picks_start, picks-step, picks-end, leads-on, marks-led}
use Rattle.script.specs.Told.{kinds}
use Rattle.writer.specs.Entries.{Entry}
use Rattle.router.specs.Walk.{ToWalk, Standing, Stood, Entered, aboves}
use Rattle.router.proofs.Bridge.{length-told}
use Rattle.router.proofs.Holding.{Holding, kind_at, kind-told, holding-none, holding-placed, holding-more}

-- the kinds of entries
abbrev entry_kinds : List Entry → List Kind
entry_kinds es = map (λ (e : Entry). e.kind) es

pub record Walks (row : List ℕ) (ss : List Step) (st : Streets) (es : List Entry) (held : List ℕ) (i r : ℕ) : Type 0 where
  pub picks : Picks ss st (aboves es) i r
  pub holding : Holding st.upper st.lower row ss held i r
  pub told : entry_kinds (take i es) ≡ kinds (take i ss)

module _ (row : List ℕ) (ss : List Step) (st : Streets) (work : List ℕ) (to : ToWalk row st.upper st.lower ss work) where
  steps-count : length ss ≡ length row
  steps-count = sym (length-told st.upper st.lower st.upper_few st.lower_few row to.planned.whole to.planned.tells to.given.plan to.planned.tells) ∙ length-nodes row

  pub walks-none : (held : List ℕ) → held ≡ [] → (es : List Entry) → length es ≡ 512 → Walks row ss st es held 0 0
  walks-none held e es c =
      record {
        picks = picks_start ss st work to.given to.kept (aboves es) (length-map es (λ (x : Entry). x.above) ∙ c) to.passable;
        holding = holding-none st.upper st.lower st.upper_few st.lower_few row to.planned.whole to.planned.tells to.given.plan held e;
        told = refl;
      }

  module _ (es : List Entry) (held : List ℕ) (i r : ℕ) (w : Walks row ss st es held i r) (inside : i < length ss) where
    pub in-row : i < length row
    in-row = omega (arith, steps-count)

    kind-at : turn_kind (get_or ss i none).turn ≡ kind_at row i
    kind-at = kind-told row ss i in-row to.told

    pub walks-standing : Standing held (stop_at ss st i) work i r (get_or row i 0)
    walks-standing =
        let s = stop-ready ss st i inside work r to.given w.picks.way in
        record {
          stop = s.0;
          room = omega (arith, to.given.room, inside);
          rank = s.1.below;
          onward = leads-on ss st work to.given to.kept i r (aboves es) inside w.picks;
          led = marks-led ss st work to.given to.kept i r (aboves es) inside w.picks;
          placed = λ p y e. rw kind-at
              (holding-placed st.upper st.lower st.upper_few st.lower_few row to.planned.whole to.planned.tells to.given.plan i r w.holding in-row p y e);
        }

    -- the place fits a sheet
    pub place-few : (p y : ℕ) (after : List ℕ) → Stood held (stop_at ss st i) work i r (get_or row i 0) p y after → p < 16
    place-few p y after s =
        let h = stop-ready ss st i inside work r to.given w.picks.way in
        omega (arith, (stop-lands (stop_at ss st i) r p y h.0 h.1.below s.least.lands.lands).0)

    pub walks_more : (e : Entry) (y : ℕ) (after : List ℕ) → e.kind ≡ turn_kind (get_or ss i none).turn → Stood held (stop_at ss st i) work i r (get_or row i 0) e.above y after →
        Walks row ss st (set es i e) after (i + 1) y
    walks_more e y after k s =
        record {
          picks = rw (map-set (λ (x : Entry). x.above) es i e)
              (picks-step ss st work to.given to.kept i r (aboves es) inside w.picks e.above y (omega (arith, to.planned.few, steps-count)) s.least);
          holding = rw (add-one i)
              (holding-more st.upper st.lower st.upper_few st.lower_few row to.planned.whole to.planned.tells to.given.plan i r w.holding in-row e.above y
              s.least.lands.lands after
              (s.list ∙ ap (λ k. next (node k (get_or row i 0)) held (suc e.above)) kind-at));
          told = rw (add-one i)
              (ap entry_kinds (take-suc-set es i e (omega (arith, w.picks.cells, length-map es (λ (x : Entry). x.above), to.planned.few, steps-count)))
              ∙ map-append (λ (x : Entry). x.kind) (take i es) (e ∷ [])
              ∙ ap₂ (λ (l : List Kind) (j : Kind). l ++ (j ∷ [])) w.told k
              ∙ sym (map-append (λ (x : Step). turn_kind x.turn) (take i ss) (get_or ss i none ∷ []))
              ∙ ap kinds (sym (take-suc ss i none inside)));
        }

  pub walks-end : (es : List Entry) (held : List ℕ) (i r : ℕ) → Walks row ss st es held i r → length ss ≤ i → Entered st.upper st.lower ss es
  walks-end es held i r w h =
      let n : i ≡ length ss = omega (arith, w.picks.within) in
      record {
        cells = sym (length-map es (λ (x : Entry). x.above)) ∙ w.picks.cells;
        told = rw n at w.told ∙ ap kinds (take-length ss);
        first = rw (take-map (λ (x : Entry). x.above) (length ss) es) at (picks-end ss st work to.given to.kept i r (aboves es) h w.picks);
      }
