-- The stops that the passes make of a plan are sound, and ways go on through them.
use mathlib.Core.Path.{◌≡◌, refl, ◌∙◌}
use mathlib.Core.List.{List, ◌∷◌}
use Prim.Native.Nat.{ℕ, zero, suc, ◌<◌}
use native.Mathlib.Omega.{arith}
use lib.ListN.{length, get_or, take, drop}
use lib.Seq.{drop-cons}
use Rattle.std.specs.Prelude.{IsTrue}
use Rattle.std.proofs.lemmas.List.{get_or_default}
use Rattle.rules.specs.declared.Streets.{Streets}
use Rattle.steps.specs.declared.plan.Turn.TheVariants.{Begins}
use Rattle.steps.specs.declared.plan.Stop.{Stop}
use Rattle.steps.specs.Plan.{Step, step, turn_kind, touches, Steps}
use Rattle.steps.specs.Ranks.{RankOf, Way, Ahead}
use Rattle.steps.specs.Sets.{ranks}
use Rattle.steps.specs.Stops.{Sound}
use Rattle.steps.specs.Leading.{Leads}
use Rattle.orders.specs.Passes.{Given, Passable}
use Rattle.orders.proofs.Ways.{Hopped, first-begins, way-more, way-less, ahead_more, ahead-less, way-ready, way-below, passes-take}

-- node i of a plan; past its end the step that an index is read as there
abbrev pub none : Step
none = step Begins 0

abbrev pub node_at : List Step → ℕ → Step
node_at ss i = get_or ss i none

abbrev pub stop_at : List Step → Streets → ℕ → Stop
stop_at ss st i = record { step = node_at ss i; streets = st }

-- the step that an index reads is the node there
pub step-read : (ss : List Step) (i : ℕ) (s : Step) → i < length ss → s ≡ get_or ss i s → s ≡ node_at ss i
step-read ss i s l e = e ∙ get_or_default ss i s none l

module _ (ss : List Step) (st : Streets) where
  module _ (i : ℕ) (l : i < length ss) where
    hopped : (r x : ℕ) → Leads (stop_at ss st i) r x → Hopped st.upper st.lower (node_at ss i) r x
    hopped r x h = record { at = h.at; lands = h.lands }

    leads : (r x : ℕ) → Hopped st.upper st.lower (node_at ss i) r x → Leads (stop_at ss st i) r x
    leads r x h = record { at = h.at; lands = h.lands }

    pub way_on : (r x : ℕ) → Way st.upper st.lower (take i ss) r → Leads (stop_at ss st i) r x → Way st.upper st.lower (take (suc i) ss) x
    way_on r x w h = way-more st.upper st.lower ss i none r x l w (hopped r x h)

    pub way_back : (x : ℕ) → Way st.upper st.lower (take (suc i) ss) x →
        (r : ℕ) × Way st.upper st.lower (take i ss) r × Leads (stop_at ss st i) r x
    way_back x w =
        let (r, v, h) = way-less st.upper st.lower ss i none x l w in
        (r, v, leads r x h)

    pub ahead-on : (r x : ℕ) → Leads (stop_at ss st i) r x → Ahead st.upper st.lower (drop (suc i) ss) x →
        Ahead st.upper st.lower (drop i ss) r
    ahead-on r x h a = rw (drop-cons ss i none l) (ahead_more st.upper st.lower (node_at ss i) (drop (suc i) ss) r x (hopped r x h) a)

    pub ahead-back : (r : ℕ) → Ahead st.upper st.lower (drop i ss) r →
        (x : ℕ) × Leads (stop_at ss st i) r x × Ahead st.upper st.lower (drop (suc i) ss) x
    ahead-back r a =
        let b : Ahead st.upper st.lower (node_at ss i ∷ drop (suc i) ss) r = rw (drop-cons ss i none l) at a in
        let (x, h, c) = ahead-less st.upper st.lower (node_at ss i) (drop (suc i) ss) r b in
        (x, leads r x h, c)

    -- the stop that a way comes to, and its rank there
    pub stop-ready : (w : List ℕ) (x : ℕ) → Given ss w → Way st.upper st.lower (take i ss) x →
        Sound (stop_at ss st i) × RankOf (node_at ss i).count x
    stop-ready w x g v =
        let r = way-ready st i ss none x g.plan l v in
        (record { few = r.few; touched = r.touched }, r.rank)

    -- a node that touches a net is not the first
    pub stop-behind : (w : List ℕ) → Given ss w → IsTrue (touches (turn_kind (node_at ss i).turn)) → 0 < i
    stop-behind w g h = go i l h
      where
        go : (i : ℕ) → i < length ss → IsTrue (touches (turn_kind (node_at ss i).turn)) → 0 < i
        go zero m h =
            let p : Steps 0 (node_at ss 0 ∷ drop 1 ss) = rw (drop-cons ss 0 none m) at g.plan in
            absurd (first-begins p refl h)
        go (suc i) m h = omega arith

  pub stop-sound : (i : ℕ) (w : List ℕ) → i < length ss → Given ss w → Passable st.upper st.lower ss → Sound (stop_at ss st i)
  stop-sound i w l g p =
      let v = passes-take st.upper st.lower i ss p in
      (stop-ready i l w v.end g v.way).0

  pub rank_below : (i : ℕ) (w : List ℕ) (x : ℕ) → Given ss w → Way st.upper st.lower (take i ss) x → x < ranks
  rank_below i w x g v = way-below st i ss x g.plan v
