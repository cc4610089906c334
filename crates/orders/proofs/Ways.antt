-- Ways go on hop by hop, at both ends, and lead to ranks of the nets that are then open.
use mathlib.Core.Path.{◌≡◌, refl, ap, ◌∙◌}
use mathlib.Core.List.{List, [], ◌∷◌, ◌++◌}
use mathlib.Core.Option.{Option, none, some}
use Prim.Native.Nat.{ℕ, zero, suc, ◌+◌, ◌≤◌, ◌<◌}
use native.Mathlib.Omega.{arith}
use Rattle.std.specs.Prelude.{IsTrue}
use lib.ListN.{length, get_or, take, drop}
use lib.Seq.{take-suc, drop-cons}
use Rattle.rules.specs.Basic.{and_then}
use Rattle.rules.specs.declared.Kind.TheVariants.{B}
use Rattle.rules.specs.declared.Streets.{Streets}
use Rattle.rules.specs.Judgement.{left}
use Rattle.steps.specs.declared.plan.Turn.TheVariants.{Begins, Meets, Ends, Rests}
use Rattle.steps.specs.Plan.{Step, step, turn_kind, turn_age, touches, Steps, nil, full, begins, meets, ends, rests}
use Rattle.steps.specs.Ranks.{hop_of, hops, open_after, RankOf, Way, Ahead}
use Rattle.steps.specs.Sets.{ranks}
use Rattle.orders.specs.Passes.{Passable}
use Rattle.steps.proofs.Ranks.{fact-pos, fact-six}
use Rattle.steps.proofs.Hops.{of-true, hop-made}
use Rattle.steps.proofs.RanksLed.{leads-rank}

-- one hop: from rank r through the step s to rank x
pub record Hopped (ku kl : ℕ) (s : Step) (r x : ℕ) : Type 0 where
  pub at : ℕ
  pub lands : hop_of ku kl s r at ≡ some x

then_some : {A : Type 0} (o : Option ℕ) (f : ℕ → Option A) (x : A) → and_then o f ≡ some x → (y : ℕ) × (o ≡ some y) × (f y ≡ some x)
unfolding and_then
then_some none f x e = let z : ◌≡◌ {A = ℕ} 0 1 = cc in absurd (omega arith)
then_some (some y) f x e = (y, refl, e)

some_then : {A : Type 0} (o : Option ℕ) (f : ℕ → Option A) (y : ℕ) (x : A) → o ≡ some y → f y ≡ some x → and_then o f ≡ some x
unfolding and_then
some_then o f y x e h = rw e h

module _ (ku kl : ℕ) where
  pub hops-nil : (r x : ℕ) (ps : List ℕ) → hops ku kl [] r ps ≡ some x → (ps ≡ []) × (r ≡ x)
  unfolding hops
  hops-nil r x [] e = (refl, (cc))
  hops-nil r x (p ∷ ps) e = let z : ◌≡◌ {A = ℕ} 0 1 = cc in absurd (omega arith)

  -- the first hop, and the others
  pub hops-first : (s : Step) (ss : List Step) (r x : ℕ) (ps : List ℕ) → hops ku kl (s ∷ ss) r ps ≡ some x →
      (p : ℕ) × (qs : List ℕ) × (y : ℕ) × (ps ≡ p ∷ qs) × (hop_of ku kl s r p ≡ some y) × (hops ku kl ss y qs ≡ some x)
  unfolding hops
  hops-first s ss r x [] e = let z : ◌≡◌ {A = ℕ} 0 1 = cc in absurd (omega arith)
  hops-first s ss r x (p ∷ ps) e =
      let (y, h, k) = then_some (hop_of ku kl s r p) (λ z. hops ku kl ss z ps) x e in
      (p, ps, y, refl, h, k)

  pub first-hops : (s : Step) (ss : List Step) (r x y p : ℕ) (ps : List ℕ) → hop_of ku kl s r p ≡ some y → hops ku kl ss y ps ≡ some x →
      hops ku kl (s ∷ ss) r (p ∷ ps) ≡ some x
  unfolding hops
  first-hops s ss r x y p ps e h = some_then (hop_of ku kl s r p) (λ z. hops ku kl ss z ps) y x e h

  pub hops-start : (r : ℕ) → hops ku kl [] r [] ≡ some r
  unfolding hops
  hops-start r = refl

  -- all hops but the last, and the last
  last-hop : (ss : List Step) (s : Step) (r x : ℕ) (ps : List ℕ) → hops ku kl (ss ++ (s ∷ [])) r ps ≡ some x →
      (qs : List ℕ) × (y : ℕ) × (hops ku kl ss r qs ≡ some y) × Hopped ku kl s y x
  last-hop [] s r x ps e =
      let (p, qs, y, w, h, k) = hops-first s [] r x ps e in
      ([], r, hops-start r, record { at = p; lands = h ∙ ap some (hops-nil y x qs k).1 })
  last-hop (t ∷ ss) s r x ps e =
      let (p, qs, y, w, h, k) = hops-first t (ss ++ (s ∷ [])) r x ps e in
      let (us, z, i, j) = last-hop ss s y x qs k in
      (p ∷ us, z, first-hops t ss r z y p us h i, j)

  pub hop-last : (ss : List Step) (s : Step) (r x y p : ℕ) (ps : List ℕ) → hops ku kl ss r ps ≡ some y → hop_of ku kl s y p ≡ some x →
      hops ku kl (ss ++ (s ∷ [])) r (ps ++ (p ∷ [])) ≡ some x
  hop-last [] s r x y p ps e h =
      let (w, m) = hops-nil r y ps e in
      rw w (first-hops s [] r x x p [] (rw m h) (hops-start x))
  hop-last (t ∷ ss) s r x y p ps e h =
      let (q, qs, z, w, i, k) = hops-first t ss r y ps e in
      rw w (first-hops t (ss ++ (s ∷ [])) r x z q (qs ++ (p ∷ [])) i (hop-last ss s z x y p qs k h))

  pub way-start : Way ku kl [] 0
  way-start = record { ps = []; runs = hops-start 0 }

  pub way-none : (x : ℕ) → Way ku kl [] x → 0 ≡ x
  way-none x w = (hops-nil 0 x w.ps w.runs).1

  pub way-more : (ss : List Step) (i : ℕ) (d : Step) (r x : ℕ) → i < length ss → Way ku kl (take i ss) r →
      Hopped ku kl (get_or ss i d) r x →
      Way ku kl (take (suc i) ss) x
  way-more ss i d r x l w h =
      rw (take-suc ss i d l)
      (record { ps = w.ps ++ (h.at ∷ []); runs = hop-last (take i ss) (get_or ss i d) 0 x r h.at w.ps w.runs h.lands })

  pub way-less : (ss : List Step) (i : ℕ) (d : Step) (x : ℕ) → i < length ss → Way ku kl (take (suc i) ss) x →
      (r : ℕ) × Way ku kl (take i ss) r × Hopped ku kl (get_or ss i d) r x
  way-less ss i d x l w =
      let v : Way ku kl (take i ss ++ (get_or ss i d ∷ [])) x = rw (take-suc ss i d l) at w in
      let (qs, r, e, h) = last-hop (take i ss) (get_or ss i d) 0 x v.ps v.runs in
      (r, record { ps = qs; runs = e }, h)

  pub ahead_none : (r : ℕ) → Ahead ku kl [] r
  ahead_none r = record { ps = []; end = r; runs = hops-start r }

  pub ahead_more : (s : Step) (ss : List Step) (r x : ℕ) → Hopped ku kl s r x → Ahead ku kl ss x → Ahead ku kl (s ∷ ss) r
  ahead_more s ss r x h a =
      record { ps = h.at ∷ a.ps; end = a.end; runs = first-hops s ss r a.end x h.at a.ps h.lands a.runs }

  pub ahead-less : (s : Step) (ss : List Step) (r : ℕ) → Ahead ku kl (s ∷ ss) r → (x : ℕ) × Hopped ku kl s r x × Ahead ku kl ss x
  ahead-less s ss r a =
      let (p, qs, y, w, h, k) = hops-first s ss r a.end a.ps a.runs in
      (y, record { at = p; lands = h }, record { ps = qs; end = a.end; runs = k })

  -- the first steps of a run are passed too
  hops-take : (i : ℕ) (ss : List Step) (r x : ℕ) (ps : List ℕ) → hops ku kl ss r ps ≡ some x →
      (qs : List ℕ) × (y : ℕ) × (hops ku kl (take i ss) r qs ≡ some y)
  hops-take zero ss r x ps e = ([], r, hops-start r)
  hops-take (suc i) [] r x ps e = ([], r, hops-start r)
  hops-take (suc i) (s ∷ ss) r x ps e =
      let (p, qs, y, w, h, k) = hops-first s ss r x ps e in
      let (us, z, j) = hops-take i ss y x qs k in
      (p ∷ us, z, first-hops s (take i ss) r z y p us h j)

  pub passes-take : (i : ℕ) (ss : List Step) → Passable ku kl ss → Passable ku kl (take i ss)
  passes-take i ss w =
      let (qs, y, e) = hops-take i ss 0 w.end w.way.ps w.way.runs in
      record { end = y; way = record { ps = qs; runs = e } }

  pub passes-ahead : (ss : List Step) → Passable ku kl ss → Ahead ku kl ss 0
  passes-ahead ss w = record { ps = w.way.ps; end = w.end; runs = w.way.runs }

-- a rank of the nets that a step finds open, of which it touches one
pub record Ready (s : Step) (r : ℕ) : Type 0 where
  pub few : s.count ≤ 6
  pub touched : IsTrue (touches (turn_kind s.turn)) → turn_age s.turn < s.count
  pub rank : RankOf s.count r

-- steps with c nets open before them, and a rank of those
pub record Comes (c : ℕ) (ss : List Step) (r : ℕ) : Type 0 where
  pub plan : Steps c ss
  pub rank : RankOf c r

steps-few : {c : ℕ} {ss : List Step} → Steps c ss → c ≤ 6
steps-few (nil h) = h
steps-few full = omega arith
steps-few (begins h u) = omega arith
steps-few (meets h f u) = f
steps-few (ends h f u) = f
steps-few (rests f u) = f

-- a net that the first step touches is open, and its rank is one of the nets that it finds
steps-ready : {c : ℕ} {s : Step} {ss : List Step} {x : ℕ} → Steps c (s ∷ ss) → RankOf c x → Ready s x
steps-ready full l = record { few = omega arith; touched = λ e. absurd (of-true e); rank = l }
steps-ready (begins h u) l = record { few = omega arith; touched = λ e. absurd (of-true e); rank = l }
steps-ready (meets h f u) l = record { few = f; touched = λ e. h; rank = l }
steps-ready (ends h f u) l = record { few = f; touched = λ e. h; rank = l }
steps-ready (rests f u) l = record { few = f; touched = λ e. absurd (of-true e); rank = l }

-- the first step, which finds no net open, touches none
pub first-begins : {c : ℕ} {s : Step} {ss : List Step} → Steps c (s ∷ ss) → c ≡ 0 → IsTrue (touches (turn_kind s.turn)) → ⊥
first-begins full z e = of-true e
first-begins (begins h u) z e = of-true e
first-begins (meets h f u) z e = omega arith
first-begins (ends h f u) z e = omega arith
first-begins (rests f u) z e = of-true e

module _ (st : Streets) where
  rank-on : (r x p : ℕ) (s : Step) → Ready s r → hop_of st.upper st.lower s r p ≡ some x → RankOf (left (turn_kind s.turn) s.count) x
  rank-on r x p s d h =
      leads-rank (record { step = s; streets = st }) (record { few = d.few; touched = d.touched }) r x d.rank (record { at = p; lands = h })

  -- past one step
  past : {b : ℕ} {s : Step} {ss : List Step} (r x p : ℕ) → Steps b (s ∷ ss) → RankOf b r → hop_of st.upper st.lower s r p ≡ some x →
      Comes (left (turn_kind s.turn) b) ss x
  unfolding left
  past r x p (full {ss}) l h =
      let m : 7 ≤ st.upper + st.lower = (hop-made st.upper st.lower B 0 6 r p x h).left-open in
      absurd (omega (arith, st.upper_few, st.lower_few))
  past r x p (begins {b} q u) l h =
      record { plan = u; rank = rank-on r x p (step Begins b) (steps-ready (begins q u) l) h }
  past r x p (meets {a} {b} q f u) l h =
      record { plan = u; rank = rank-on r x p (step (Meets a) b) (steps-ready (meets {a = a} q f u) l) h }
  past r x p (ends {a} {b} q f u) l h =
      record { plan = u; rank = rank-on r x p (step (Ends a) b) (steps-ready (ends {a = a} q f u) l) h }
  past r x p (rests {b} f u) l h =
      record { plan = u; rank = rank-on r x p (step Rests b) (steps-ready (rests f u) l) h }

  -- a run through the first steps comes to the others with a rank of the nets that are then open
  pub steps-rest : (i b : ℕ) (ss : List Step) (r x : ℕ) (ps : List ℕ) → Steps b ss → RankOf b r →
      hops st.upper st.lower (take i ss) r ps ≡ some x → Comes (open_after b (take i ss)) (drop i ss) x
  unfolding open_after
  steps-rest zero b ss r x ps t l e =
      let m : r ≡ x = (hops-nil st.upper st.lower r x ps e).1 in
      record { plan = t; rank = rw (← m) l }
  steps-rest (suc i) b [] r x ps t l e =
      let m : r ≡ x = (hops-nil st.upper st.lower r x ps e).1 in
      record { plan = t; rank = rw (← m) l }
  steps-rest (suc i) b (s ∷ ss) r x ps t l e =
      let (p, qs, y, w, h, j) = hops-first st.upper st.lower s (take i ss) r x ps e in
      let n = past r y p t l h in
      steps-rest i (left (turn_kind s.turn) b) ss y x qs n.plan n.rank j

  -- a way's rank is one of the nets that are then open
  pub way-comes : (i : ℕ) (ss : List Step) (x : ℕ) → Steps 0 ss → Way st.upper st.lower (take i ss) x →
      Comes (open_after 0 (take i ss)) (drop i ss) x
  way-comes i ss x t w = steps-rest i 0 ss 0 x w.ps t (record { below = fact-pos 0; inner = λ e. absurd (omega arith); middle = λ e. absurd (omega arith) }) w.runs

  -- every rank of a way is one of a gap's
  pub way-below : (i : ℕ) (ss : List Step) (x : ℕ) → Steps 0 ss → Way st.upper st.lower (take i ss) x → x < ranks
  way-below i ss x t w =
      let n = way-comes i ss x t w in
      omega (arith, n.rank.below, fact-six (open_after 0 (take i ss)) (steps-few n.plan))

  -- it is one of the nets that the next step finds open, and touches one of
  pub way-ready : (i : ℕ) (ss : List Step) (d : Step) (x : ℕ) → Steps 0 ss → i < length ss →
      Way st.upper st.lower (take i ss) x → Ready (get_or ss i d) x
  way-ready i ss d x t l w =
      let n = way-comes i ss x t w in
      let p : Steps (open_after 0 (take i ss)) (get_or ss i d ∷ drop (suc i) ss) = rw (drop-cons ss i d l) at n.plan in
      steps-ready p n.rank
