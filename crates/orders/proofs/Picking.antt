-- The least position that leads on, taken node by node, gives the first positions in reading order that lead through all nodes.
use mathlib.Core.Path.{◌≡◌, refl, sym, ◌∙◌}
use mathlib.Core.Bool.{Bool, true, false}
use mathlib.Core.List.{List, [], ◌∷◌, ◌++◌, append-nil}
use mathlib.Core.Logic.{◌⊎◌, inl, inr}
use mathlib.Core.Option.{some}
use Prim.Native.Nat.{ℕ, suc, ◌+◌, ◌≤◌, ◌<◌}
use native.Mathlib.Numerals.{add-one}
use native.Mathlib.Omega.{arith}
use lib.ListN.{length, take, drop, set, length-set, drop_of_length-le}
use lib.Seq.{take-suc-set, append_snoc, drop-cons}
use lib.Dec.{eqb, ltb}
use borrow.Author.Tests.{eqb-true, eqb-false, ltb-true, ltb-false}
use Rattle.rules.specs.Street.{Earlier, here, there}
use Rattle.rules.specs.declared.Streets.{Streets}
use Rattle.steps.specs.Plan.{Step}
use Rattle.steps.specs.Ranks.{hop_of, hops, Way, Ahead}
use Rattle.steps.specs.Sets.{ranks, marked}
use Rattle.steps.specs.Stops.{hop_at}
use Rattle.steps.specs.Leading.{Led, Onward, Least}
use Rattle.orders.specs.Passes.{Given, Kept, Passable, First}
use Rattle.steps.proofs.Slots.{held_below}
use Rattle.steps.proofs.Bits.{marked-held}
use Rattle.steps.proofs.Hops.{same_some}
use Rattle.orders.proofs.Ways.{hops-nil, hops-start, hops-first, first-hops, way-start, passes-ahead}
use Rattle.orders.proofs.Nodes.{none, node_at, stop_at, way_on, way_back, ahead-back, stop-ready, rank_below}

module _ (ku kl : ℕ) where
  pub first-none : (r : ℕ) → First ku kl [] r []
  first-none r = record { end = r; runs = hops-start ku kl r; others = λ qs x e. inl (hops-nil ku kl r x qs e).0 }

  -- a position that leads on, where no smaller one does, before the first positions from there
  pub first_more : (s : Step) (ss : List Step) (r p x : ℕ) (ws : List ℕ) → hop_of ku kl s r p ≡ some x →
      ((q y : ℕ) → q < p → hop_of ku kl s r q ≡ some y → Ahead ku kl ss y → ⊥) → First ku kl ss x ws → First ku kl (s ∷ ss) r (p ∷ ws)
  first_more s ss r p x ws e n f =
      record { end = f.end; runs = first-hops ku kl s ss r f.end x p ws e f.runs; others = others }
    where
      same : (qs us : List ℕ) (q : ℕ) → qs ≡ q ∷ us → q ≡ p → (us ≡ ws) ⊎ Earlier ws us → (qs ≡ p ∷ ws) ⊎ Earlier (p ∷ ws) qs
      same qs us q w m (inl v) = inl (cc)
      same qs us q w m (inr v) = inr (rw w (there (sym m) v))

      others : (qs : List ℕ) (y : ℕ) → hops ku kl (s ∷ ss) r qs ≡ some y → (qs ≡ p ∷ ws) ⊎ Earlier (p ∷ ws) qs
      others qs y h =
          let (q, us, z, w, i, k) = hops-first ku kl s ss r y qs h in
          go q us z w i k (eqb q p) (ltb q p) refl refl
        where
          go : (q : ℕ) (us : List ℕ) (z : ℕ) → qs ≡ q ∷ us → hop_of ku kl s r q ≡ some z → hops ku kl ss z us ≡ some y →
              (b c : Bool) → eqb q p ≡ b → ltb q p ≡ c → (qs ≡ p ∷ ws) ⊎ Earlier (p ∷ ws) qs
          go q us z w i k true c eb ec =
              let m : q ≡ p = eqb-true q p eb in
              let j : hop_of ku kl s r p ≡ some z = rw m at i in
              let v : hops ku kl ss x us ≡ some y = rw (same_some e j) k in
              same qs us q w m (f.others us y v)
          go q us z w i k false true eb ec = absurd (n q z (ltb-true q p ec) i (record { ps = us; end = y; runs = k }))
          go q us z w i k false false eb ec = inr (rw w (here {p = p} {q = q} (omega (arith, eqb-false q p eb, ltb-false q p ec))))

-- after i nodes: a way leads to rank r and on from there, and the first positions from there complete the first of all
pub record Picks (ss : List Step) (st : Streets) (ps : List ℕ) (i r : ℕ) : Type 0 where
  pub cells : length ps ≡ 512
  pub within : i ≤ length ss
  pub way : Way st.upper st.lower (take i ss) r
  pub ahead : Ahead st.upper st.lower (drop i ss) r
  pub rest : (ws : List ℕ) → First st.upper st.lower (drop i ss) r ws → First st.upper st.lower ss 0 (take i ps ++ ws)

module _ (ss : List Step) (st : Streets) (s : List ℕ) (given : Given ss s) (kept : Kept st.upper st.lower ss s) where
  pub picks_start : (ps : List ℕ) → length ps ≡ 512 → Passable st.upper st.lower ss → Picks ss st ps 0 0
  picks_start ps h p =
      record { cells = h; within = omega arith; way = way-start st.upper st.lower; ahead = passes-ahead st.upper st.lower ss p; rest = λ ws f. f }

  module _ (i r : ℕ) (ps : List ℕ) (l : i < length ss) (k : Picks ss st ps i r) where
    -- what leads on is marked
    lands-kept : (q y : ℕ) → hop_at (stop_at ss st i) r q ≡ some y → Ahead st.upper st.lower (drop (suc i) ss) y → marked s i y ≡ true
    lands-kept q y e a = kept.full i y l (way_on ss st i l r y k.way (record { at = q; lands = e })) a

    pub leads-on : Onward (stop_at ss st i) s i r
    leads-on =
        let (y, h, a) = ahead-back ss st i l r k.ahead in
        let w = way_on ss st i l r y k.way h in
        record { next = y; within = rank_below ss st (suc i) s y given w; leads = h; kept = kept.full i y l w a }

    -- a hop made each mark
    pub marks-led : (x : ℕ) → marked s i x ≡ true → Led (stop_at ss st i) x
    marks-led x m =
        let n : x < ranks = omega (arith, held_below x (marked-held s i x m)) in
        let (q, v, h) = way_back ss st i l x (kept.ways i x l n m) in
        record { rank = q; of = (stop-ready ss st i l s q given v).1; leads = h }

    pub picks-step : (p x : ℕ) → length ss ≤ 512 → Least (stop_at ss st i) s i r p x →
        Picks ss st (set ps i p) (i + 1) x
    picks-step p x few m =
        let a : Ahead st.upper st.lower (drop (suc i) ss) x = kept.sound i x l m.lands.within m.lands.kept in
        rw (add-one i)
        (record {
          cells = length-set ps i p ∙ k.cells;
          within = omega arith;
          way = way_on ss st i l r x k.way (record { at = p; lands = m.lands.lands });
          ahead = a;
          rest = λ ws f. rw (take-suc-set ps i p (omega (arith, k.cells)))
              (rw (append_snoc (take i ps) p ws) (k.rest (p ∷ ws) (more ws f)));
        })
      where
        more : (ws : List ℕ) → First st.upper st.lower (drop (suc i) ss) x ws → First st.upper st.lower (drop i ss) r (p ∷ ws)
        more ws f =
            rw (drop-cons ss i none l)
            (first_more st.upper st.lower (node_at ss i) (drop (suc i) ss) r p x ws m.lands.lands
            (λ q y h e b. m.first q h y e (lands-kept q y e b)) f)

  pub picks-end : (i r : ℕ) (ps : List ℕ) → length ss ≤ i → Picks ss st ps i r → First st.upper st.lower ss 0 (take (length ss) ps)
  picks-end i r ps l k =
      let e : length ss ≡ i = omega (arith, k.within) in
      let f : First st.upper st.lower ss 0 (take i ps ++ []) = k.rest [] (rw (drop_of_length-le ss {i = i} (omega arith)) (first-none st.upper st.lower r)) in
      rw e (rw (append-nil (take i ps)) at f)
