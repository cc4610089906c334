-- Over every unit stretch the film has a horizontal of each net that is open there, at the height of the rules, and of no other.
use mathlib.Core.Path.{◌≡◌, refl, sym, ap, ◌∙◌, subst}
use mathlib.Core.Bool.{Bool, true, false}
use mathlib.Core.List.Memᴰ
use mathlib.Core.List.{List, [], ◌∷◌, ◌++◌, Memᴰ}
use mathlib.Core.Logic.{◌⊎◌, inl, inr, ◌↔◌}
use mathlib.Core.Option.{Option, some}
use Prim.Native.Nat.{ℕ, suc, ◌+◌, ◌-◌, ◌*◌, ◌≤◌, ◌<◌}
use native.Mathlib.Nat.{eq-zero-or-pos}
use native.Mathlib.Omega.{arith}
use lib.ListN.{length, get_or}
use lib.Dec.{eqb}
use borrow.Author.Tests.{le-leb, lt-leb, lt-ltb, le-ltb, eqb-true, eqb-false}
use Rattle.rules.specs.Basic.{pick, put, keep}
use Rattle.rules.specs.declared.Kind.{Kind}
use Rattle.rules.specs.declared.Kind.TheVariants.{B, M, E, N}
use Rattle.rules.specs.Row.{before, has}
use Rattle.rules.specs.Street.{last, counted, next}
use Rattle.rules.specs.Sheet.{kind_in, Entry, entry, begun}
use Rattle.rules.specs.Film.{Rec, across, Wire, axis, upper_at, height_at, target, ran, wall, bent, climb, sink, gap, opened, closed, marks, draw}
use Rattle.rules.proofs.Fits.{FitsAt, Wired, counted-le}
use Rattle.rules.proofs.Open.{one-other, times}
use Rattle.rules.proofs.Renamed.{put_map}
use Rattle.rules.proofs.Legal.{Legal, done, then}
use Rattle.rules.proofs.GivenBack.{before-once, has_in, has-out, then-order}
use Rattle.wires.specs.Levels.{Stop, present, stops, height_in, turn_at, level_in, level_at, Over}
use Rattle.wires.proofs.Among.{All, nil, cons, all-at, all_map, all_more, all-less, more-put, lt-or-ge}
use Rattle.wires.proofs.Gap.{Falling, Reached, no-wire, wire, Moves, gap-moves, gap-reached, gap-column}
use Rattle.wires.proofs.Trace.{Track, Trace}
use Rattle.wires.proofs.Steps.{open_nets, in-nets, Good, Steps, steps, not-wall}
use Rattle.wires.proofs.Heights.{Settled, reached-at, all-cut, own-track, target-falls, target-track}
use Rattle.wires.proofs.Drawn.{Begun, begun-next, net-at, length-nets, closed-falling, coming, meeting, leaving, at-node, Passing, passing, node-on, draw-trace, from}
use Rattle.wires.proofs.Turns.{Aims, no-aim, aim, Passed, gap-turns}
use Rattle.wires.proofs.Cover.{over-in, over-open, over-wire, over-once, moves-runs, moves-good}

-- ---- heights at a node, by net

all-index : {P : Wire → Type 0} (ws : List Wire) (d : Wire) → ((q : ℕ) → q < length ws → P (get_or ws q d)) → All P ws
all-index [] d f = nil
all-index (w ∷ ws) d f = cons (f 0 (omega arith)) (all-index ws d (λ q h. f (suc q) (omega arith)))

settled-in : (u : ℕ) (ws : List Wire) → Settled u 0 ws → ((x : ℕ) → times x (open_nets ws) ≤ 1)
    → All (λ w. w.height ≡ height_at u (suc (before w.net (open_nets ws)))) ws
settled-in u ws s once = all-index ws d place
  where
    d : Wire
    d = record { net = 0; height = 0; since = 0 }

    place : (q : ℕ) → q < length ws → (get_or ws q d).height ≡ height_at u (suc (before (get_or ws q d).net (open_nets ws)))
    place q h =
        let e : before (get_or ws q d).net (open_nets ws) ≡ q =
        subst (λ n. before n (open_nets ws) ≡ q) (net-at ws q d h) (before-once (open_nets ws) once q (rw (length-nets ws) h)) in
        reached-at s q d h ∙ ap (λ k. height_at u (suc k)) (omega arith)

opened-nets : (k : Kind) (n h x a : ℕ) (ws : List Wire) → open_nets (opened k n h x a ws) ≡ present k a n (open_nets ws)
unfolding opened present
opened-nets B n h x a ws = sym (put_map (λ w. w.net) a (record { net = n; height = h; since = x }) ws)
opened-nets M n h x a ws = refl
opened-nets E n h x a ws = refl
opened-nets N n h x a ws = refl

less_one : (a : ℕ) → suc a - 1 ≡ a
less_one a = omega arith

present-once : (k : Kind) (a n : ℕ) (o : List ℕ) → a < last k (counted k (length o)) → Begun n o → (x : ℕ) → times x (present k a n o) ≤ 1
unfolding present next last counted
present-once B a n o h b = λ x. subst (λ k. times x (put k n o) ≤ 1) (less_one a) ((begun-next B a n o h b).once x)
present-once M a n o h b = b.once
present-once E a n o h b = b.once
present-once N a n o h b = b.once

opened-all : {P : Wire → Type 0} (k : Kind) (n h x a : ℕ) (ws : List Wire) → All P (opened k n h x a ws) → All P ws
unfolding opened
opened-all B n h x a ws p = all-less (more-put a (record { net = n; height = h; since = x }) ws) p
opened-all M n h x a ws p = p
opened-all E n h x a ws p = p
opened-all N n h x a ws p = p

closed_all : {P : Wire → Type 0} (k : Kind) (a : ℕ) (ws : List Wire) → All P ws → All P (closed k a ws)
unfolding closed
closed_all B a ws p = p
closed_all M a ws p = p
closed_all E a ws p = all-cut a p
closed_all N a ws p = p

aims_of : {t R : ℕ → ℕ} {q : ℕ} {ws : List Wire} → Reached t q ws → All (λ w. w.height ≡ R w.net) ws → Aims t R q (open_nets ws)
aims_of no-wire nil = no-aim
aims_of (wire e r) (cons h a) = aim (sym e ∙ h) (aims_of r a)

opened-good : {ku kl x y : ℕ} (k : Kind) (n h a : ℕ) (ws : List Wire) → x ≤ y → (Wired k → Track ku kl h) → All (Good ku kl x) ws → All (Good ku kl (suc y)) (opened k n h y a ws)
unfolding opened
opened-good {ku} {kl} {x} {y} k n h a ws l t g = go k t
  where
    still : All (Good ku kl (suc y)) ws
    still = all_map (λ w p. record { track = p.track; since = omega (arith, p.since) }) g

    go : (k : Kind) → (Wired k → Track ku kl h) → All (Good ku kl (suc y)) (opened k n h y a ws)
    go B t = all_more (more-put a (record { net = n; height = h; since = y }) ws) (record { track = t tt; since = omega arith }) still
    go M t = still
    go E t = still
    go N t = still

-- ---- a net in an order, and its wire

wire-of : (x : ℕ) (ws : List Wire) → 0 < times x (open_nets ws) → (w : Wire) × Memᴰ w ws × (w.net ≡ x)
unfolding times
wire-of x [] h = absurd (omega arith)
wire-of x (w ∷ ws) h = go (eqb w.net x) refl (wire-of x ws)
  where
    go : (b : Bool) → eqb w.net x ≡ b → (0 < times x (open_nets ws) → (v : Wire) × Memᴰ v ws × (v.net ≡ x)) → (v : Wire) × Memᴰ v (w ∷ ws) × (v.net ≡ x)
    go true e ih = (w, Memᴰ.head refl, eqb-true w.net x e)
    go false e ih = let v = ih (omega (arith, one-other x w.net (eqb-false w.net x e))) in (v.0, Memᴰ.tail v.1, v.2)

has-times : (x : ℕ) (o : List ℕ) → has x o ≡ true → 0 < times x o
has-times x o e = go (eq-zero-or-pos (times x o))
  where
    go : (times x o ≡ 0) ⊎ (0 < times x o) → 0 < times x o
    go (inl z) = let f : has x o ≡ false = has-out x o z in let q : ◌≡◌ {A = ℕ} 0 1 = cc in absurd (omega arith)
    go (inr t) = t

level_before : (s t : Stop) (d x : ℕ) → d < turn_at s t x → level_in s t d x ≡ height_in s x
unfolding level_in pick
level_before s t d x h = rw (lt-leb (turn_at s t x) d h)

level-after : (s t : Stop) (d x : ℕ) → turn_at s t x ≤ d → level_in s t d x ≡ height_in t x
unfolding level_in pick
level-after s t d x h = rw (le-leb (turn_at s t x) d h)

first-gap : (pitch : ℕ) (s t : Stop) (ss : List Stop) (d x : ℕ) → d < pitch → level_at pitch (s ∷ t ∷ ss) d x ≡ keep (has x s.onward) (level_in s t d x)
unfolding level_at pick
first-gap pitch s t ss d x h = rw (lt-ltb d pitch h)

later-gap : (pitch : ℕ) (s t : Stop) (ss : List Stop) (d x : ℕ) → pitch ≤ d → level_at pitch (s ∷ t ∷ ss) d x ≡ level_at pitch (t ∷ ss) (d - pitch) x
unfolding level_at pick
later-gap pitch s t ss d x h = rw (le-ltb d pitch h)

no-level : (pitch : ℕ) (s : Stop) (d y z : ℕ) → level_at pitch (s ∷ []) d y ≡ some z → ⊥
unfolding level_at
no-level pitch s d y z e = let q : ◌≡◌ {A = ℕ} 0 1 = cc in omega arith

no_stop : (pitch c y z : ℕ) → level_at pitch [] c y ≡ some z → ⊥
unfolding level_at
no_stop pitch c y z e = let q : ◌≡◌ {A = ℕ} 0 1 = cc in omega arith

none-begun : {n : ℕ} → Begun n []
unfolding times
none-begun = record { once = λ x. omega arith; low = λ x t. absurd (omega arith) }

keep_some : (b : Bool) (v z : ℕ) → keep b v ≡ some z → (b ≡ true) × (v ≡ z)
unfolding keep
keep_some true v z e = (refl, cc)
keep_some false v z e = let q : ◌≡◌ {A = ℕ} 0 1 = cc in absurd (omega arith)

keep-true : (b : Bool) (v z : ℕ) → b ≡ true → v ≡ z → keep b v ≡ some z
unfolding keep
keep-true b v z e q = rw (e, q)

-- a run past a node is not of that node
past-node : {y z l r : ℕ} (k : Kind) (x : ℕ) (w : Wire) (film : List Rec) → x < r → Memᴰ (across y z l r) (marks k x w ++ film) → Memᴰ (across y z l r) film
unfolding marks wall ran
past-node B x w film h (Memᴰ.head e) = absurd (not-wall e)
past-node B x w film h (Memᴰ.tail d) = d
past-node M x w film h (Memᴰ.head e) = absurd (not-wall e)
past-node M x w film h (Memᴰ.tail d) = d
past-node E x w film h (Memᴰ.head e) = absurd (not-wall e)
past-node {r = r} E x w film h (Memᴰ.tail (Memᴰ.head e)) = let q : r ≡ x = cc in absurd (omega arith)
past-node E x w film h (Memᴰ.tail (Memᴰ.tail d)) = d
past-node N x w film h d = d

-- the open wires after node i, which is s
pub record State (pitch ku kl i n : ℕ) (s : Stop) (ws : List Wire) : Type 0 where
  pub falls : Falling ws
  pub begun : Begun n (open_nets ws)
  pub good : All (Good ku kl (suc (pitch * i))) ws
  pub same : open_nets ws ≡ s.onward
  pub heights : All (λ w. w.height ≡ height_in s w.net) ws

-- the node of an entry
abbrev stop_of : (ku n : ℕ) → List ℕ → Kind → ℕ → Stop
stop_of ku n o k a = record { laid = upper_at k ku a; there = present k a n o; onward = then-order k a n o }

module _ (pitch ku kl : ℕ) (wide : ku + kl < pitch) (deep : kl ≤ axis) where
  -- node j, where the nets o are open before it
  module _ (k : Kind) (a b j n : ℕ) (o : List ℕ) (ws : List Wire) (h : FitsAt k ku kl (suc a) (counted k b)) (e : length ws ≡ b) (beg : Begun n (open_nets ws)) (same : open_nets ws ≡ o) where
    abbrev u : ℕ
    u = upper_at k ku a

    abbrev at : List Wire
    at = meeting k u a n (pitch * (j - 1)) (pitch * j) ws

    passes : Passing ku kl k u a b n (pitch * (j - 1)) (pitch * j) ws
    passes = passing pitch ku kl wide deep k a b j n ws h e beg

    there≡ : open_nets at ≡ present k a n o
    there≡ = opened-nets k n (height_at u (suc a)) (pitch * j) a (coming k u a (pitch * (j - 1)) ws) ∙ ap (present k a n) (passes.same ∙ same)

    there-heights : All (λ w. w.height ≡ height_in (stop_of ku n o k a) w.net) at
    unfolding height_in
    there-heights =
        subst (λ p. All (λ w. w.height ≡ height_at u (suc (before w.net p))) at) there≡
        (settled-in u at passes.heights
        (subst (λ p. (y : ℕ) → times y p ≤ 1) (sym there≡) (subst (λ p. (y : ℕ) → times y (present k a n p) ≤ 1) same (present-once k a n (open_nets ws) passes.low beg))))

    state-after : All (Good ku kl (pitch * j)) (coming k u a (pitch * (j - 1)) ws)
        → State pitch ku kl j (begun k n) (stop_of ku n o k a) (leaving k u a n (pitch * (j - 1)) (pitch * j) ws)
    state-after g =
        record {
          falls = closed-falling k a at passes.falls;
          begun = passes.begun;
          good = closed_all k a at
              (opened-good k n (height_at u (suc a)) a (coming k u a (pitch * (j - 1)) ws) (omega arith) (own-track passes.laid) g);
          same = passes.order ∙ ap (then-order k a n) same;
          heights = closed_all k a at there-heights;
        }

  -- the gap from node i, which is s, to node i + 1
  module _ (k : Kind) (a b i n : ℕ) (s : Stop) (ws : List Wire) (h : FitsAt k ku kl (suc a) (counted k b)) (e : length ws ≡ b) (st : State pitch ku kl i n s ws) where
    abbrev x : ℕ
    x = pitch * (suc i - 1)

    abbrev u' : ℕ
    u' = upper_at k ku a

    abbrev t : Stop
    t = stop_of ku n s.onward k a

    pass : Passing ku kl k u' a b n x (pitch * suc i) ws
    pass = passes k a b (suc i) n s.onward ws h e st.begun st.same

    x≡ : x ≡ pitch * i
    x≡ = ap (λ j. pitch * j) (less_one i)

    moves : Moves (Track ku kl) (suc x) ws (gap (target k u' a) x ws).film (gap (target k u' a) x ws).column (coming k u' a x ws)
    moves = gap-moves (target k u' a) x ws st.falls (rw e (target-falls b k pass.laid)) (rw e (target-track b k pass.laid))

    gap_ends : (gap (target k u' a) x ws).column ≤ pitch * suc i
    gap_ends = omega (arith, gap-column (target k u' a) x ws, x≡, h.sum, counted-le k b)

    next-state : State pitch ku kl (suc i) (begun k n) t (leaving k u' a n x (pitch * suc i) ws)
    next-state =
        state-after k a b (suc i) n s.onward ws h e st.begun st.same
        (all_map (λ w g. record { track = g.track; since = omega (arith, g.since, gap_ends) })
        (moves-good moves (subst (λ y. All (Good ku kl (suc y)) ws) (sym x≡) st.good)))

    passed : (v : Wire) → Memᴰ v ws → Passed s t x v (gap (target k u' a) x ws).film (coming k u' a x ws)
    passed =
        gap-turns (target k u' a) s t x ws
        (subst (λ o. Aims (target k u' a) (height_in t) 0 o) pass.same
        (aims_of (gap-reached (target k u' a) x ws) (opened-all k n (height_at u' (suc a)) (pitch * suc i) a (coming k u' a x ws) (there-heights k a b (suc i) n s.onward ws h e st.begun st.same))))
        st.same st.heights st.begun.once

    module _ {pins : List (Option ℕ)} {hs : List ℕ} {rest : List Rec} (on : Trace pitch ku kl (suc i) (pitch * suc i) (coming k u' a x ws) pins hs rest) (c d : ℕ) (c≡ : c ≡ pitch * i + d) (h' : d < pitch) where
      before-node : c < pitch * suc i
      before-node = omega arith

      -- over the stretch d columns after node i each open net has a horizontal at its height
      lies-wire : (w : Wire) → Memᴰ w ws → Over ((gap (target k u' a) x ws).film ++ rest) w.net c (level_in s t d w.net)
      unfolding ran bent
      lies-wire w m = go (eqb w.height (height_in t w.net)) refl (lt-or-ge d (turn_at s t w.net))
        where
          F : List Rec
          F = (gap (target k u' a) x ws).film

          y : ℕ
          y = w.net

          high : w.height ≡ height_in s y
          high = all-at st.heights m

          began : w.since < suc (pitch * i)
          began = (all-at st.good m).since

          go : (b : Bool) → eqb w.height (height_in t y) ≡ b → (d < turn_at s t y) ⊎ (turn_at s t y ≤ d) → Over (F ++ rest) y c (level_in s t d y)
          go true e (inl q) =
              subst (Over (F ++ rest) y c) (sym (level_before s t d y q ∙ sym high))
              (over-in (λ r. Memᴰ.append_right F) (over-wire on w ((passed w m).stayed (eqb-true w.height (height_in t y) e)) c (omega (arith, began)) before-node))
          go true e (inr q) =
              subst (Over (F ++ rest) y c) (sym (level-after s t d y q ∙ sym (eqb-true w.height (height_in t y) e)))
              (over-in (λ r. Memᴰ.append_right F) (over-wire on w ((passed w m).stayed (eqb-true w.height (height_in t y) e)) c (omega (arith, began)) before-node))
          go false e (inl q) =
              subst (Over (F ++ rest) y c) (sym (level_before s t d y q ∙ sym high))
              (record {
                left = w.since;
                right = x + turn_at s t y;
                among = Memᴰ.append_left rest ((passed w m).moved (eqb-false w.height (height_in t y) e)).0;
                begins = omega (arith, began);
                ends = omega (arith, x≡);
              })
          go false e (inr q) =
              let v : Wire = bent true (height_in t y) (x + turn_at s t y) w in
              subst (Over (F ++ rest) y c) (sym (level-after s t d y q))
              (over-in (λ r. Memᴰ.append_right F) (over-wire on v ((passed w m).moved (eqb-false w.height (height_in t y) e)).1 c (omega (arith, x≡)) before-node))

      lies : (y : ℕ) → 0 < times y (open_nets ws) → Over ((gap (target k u' a) x ws).film ++ rest) y c (level_in s t d y)
      lies y q =
          let w = wire-of y ws q in
          subst (λ z. Over ((gap (target k u' a) x ws).film ++ rest) z c (level_in s t d z)) w.2 (lies-wire w.0 w.1)

      -- and no other net has one
      lies-open : {y z : ℕ} → Over ((gap (target k u' a) x ws).film ++ rest) y c z → 0 < times y (open_nets ws)
      lies-open {y} {z} o = go (Memᴰ.append_cases (gap (target k u' a) x ws).film o.among)
        where
          go : Memᴰ (across y z o.left o.right) (gap (target k u' a) x ws).film ⊎ Memᴰ (across y z o.left o.right) rest → 0 < times y (open_nets ws)
          go (inl m) = (moves-runs moves m).1
          go (inr m) =
              let p = (over-open (steps on) before-node (record { left = o.left; right = o.right; among = m; begins = o.begins; ends = o.ends })).1 in
              subst (λ q. 0 < times q (open_nets ws)) p.net (subst (λ l. 0 < times p.wire.net l) pass.same (in-nets p.among))

      near : (ss : List Stop) (y z : ℕ) → Steps ku kl (suc (pitch * i)) ws ((gap (target k u' a) x ws).film ++ rest)
          → Over ((gap (target k u' a) x ws).film ++ rest) y c z ↔ (level_at pitch (s ∷ t ∷ ss) d y ≡ some z)
      near ss y z whole = (
        λ o. first-gap pitch s t ss d y h'
            ∙ keep-true (has y s.onward) (level_in s t d y) z (has_in y s.onward (subst (λ l. 0 < times y l) st.same (lies-open o)))
            (over-once whole (st.begun.once y) (lies y (lies-open o)) o),
        λ e. let q = keep_some (has y s.onward) (level_in s t d y) z (sym (first-gap pitch s t ss d y h') ∙ e) in
            subst (Over ((gap (target k u' a) x ws).film ++ rest) y c) q.1
            (lies y (subst (λ l. 0 < times y l) (sym st.same) (has-times y s.onward q.0))),
      )

    -- from node i + 1 on the gap before it and the node itself have no horizontal
    far : (w : Wire) (rest : List Rec) (c y z : ℕ) → pitch * suc i ≤ c
        → Over ((gap (target k u' a) x ws).film ++ (marks k (pitch * suc i) w ++ rest)) y c z ↔ Over rest y c z
    far w rest c y z q = (
      λ o. record { left = o.left; right = o.right; among = go o (Memᴰ.append_cases (gap (target k u' a) x ws).film o.among); begins = o.begins; ends = o.ends },
      over-in (λ r m. Memᴰ.append_right (gap (target k u' a) x ws).film (Memᴰ.append_right (marks k (pitch * suc i) w) m)),
    )
      where
        go : (o : Over ((gap (target k u' a) x ws).film ++ (marks k (pitch * suc i) w ++ rest)) y c z)
            → Memᴰ (across y z o.left o.right) (gap (target k u' a) x ws).film
            ⊎ Memᴰ (across y z o.left o.right) (marks k (pitch * suc i) w ++ rest)
            → Memᴰ (across y z o.left o.right) rest
        go o (inl m) = absurd (omega (arith, (moves-runs moves m).0, gap_ends, o.ends))
        go o (inr m) = past-node k (pitch * suc i) w rest (omega (arith, o.ends)) m

  -- the film from the gap after node i on, which is s
  levels : {b : ℕ} {es : List Entry} → Legal ku kl b es → (i n : ℕ) (s : Stop) (ws : List Wire) → length ws ≡ b → State pitch ku kl i n s ws
      → (c d y z : ℕ) → c ≡ pitch * i + d → Over (draw pitch ku (suc i) n ws es) y c z ↔ (level_at pitch (s ∷ stops ku n s.onward es) d y ≡ some z)
  unfolding stops draw at-node from
  levels done i n s ws e st c d y z c≡ = (λ o. absurd (Memᴰ.not-nil o.among), λ q. absurd (no-level pitch s d y z q))
  levels (then {b} {f} {a} {es} h l) i n s ws e st c d y z c≡ =
      go (lt-or-ge d pitch)
      (levels l (suc i) (begun k n) t later (pass k a b i n s ws h e st).left-open (next-state k a b i n s ws h e st) c (d - pitch) y z)
    where
      k : Kind
      k = kind_in f

      t : Stop
      t = stop_of ku n s.onward k a

      ss : List Stop
      ss = stops ku (begun k n) (then-order k a n s.onward) es

      later : List Wire
      later = leaving k (upper_at k ku a) a n (pitch * (suc i - 1)) (pitch * suc i) ws

      rest : List Rec
      rest = draw pitch ku (suc (suc i)) (begun k n) later es

      go : (d < pitch) ⊎ (pitch ≤ d) → (c ≡ pitch * suc i + (d - pitch) → Over rest y c z ↔ (level_at pitch (t ∷ ss) (d - pitch) y ≡ some z))
          → Over (draw pitch ku (suc i) n ws (entry f a ∷ es)) y c z ↔ (level_at pitch (s ∷ t ∷ ss) d y ≡ some z)
      go (inl q) ih =
          let st' = next-state k a b i n s ws h e st in
          let p = pass k a b i n s ws h e st in
          near k a b i n s ws h e st
          (node-on pitch ku kl wide deep f l (suc i) n ws st.begun p
          (draw-trace pitch ku kl wide deep l (suc (suc i)) (begun k n) later p.left-open (λ (r : suc (suc i) ≡ 0). absurd (omega arith)) st'.falls st'.begun)
          (pitch * suc i) (omega arith))
          c d c≡ q ss y z
          (steps (draw-trace pitch ku kl wide deep (then h l) (suc i) n ws e (λ (r : suc i ≡ 0). absurd (omega arith)) st.falls st.begun))
      go (inr q) ih =
          let r = far k a b i n s ws h e st _ rest c y z (omega arith) in
          let v = ih (omega arith) in
          let g = later-gap pitch s t ss d y q in
          (λ o. g ∙ v.0 (r.0 o), λ m. r.1 (v.1 (sym g ∙ m)))

  -- over every stretch of the whole film
  pub film-levels : {es : List Entry} → Legal ku kl 0 es → (c y z : ℕ) → Over (draw pitch ku 0 0 [] es) y c z ↔ (level_at pitch (stops ku 0 [] es) c y ≡ some z)
  unfolding stops draw gap climb sink
  film-levels done c y z = (λ o. absurd (Memᴰ.not-nil o.among), λ q. absurd (no_stop pitch c y z q))
  film-levels (then {f = f} {a} {es} h l) c y z =
      let k : Kind = kind_in f in
      let u : ℕ = upper_at k ku a in
      let later : List Wire = leaving k u a 0 (pitch * (0 - 1)) (pitch * 0) [] in
      let p = passes k a 0 0 0 [] [] h refl none-begun refl in
      let v = levels l 0 (begun k 0) (stop_of ku 0 [] k a) later p.left-open (state-after k a 0 0 0 [] [] h refl none-begun refl nil) c c y z (omega arith) in
      let w : Wire = get_or (meeting k u a 0 (pitch * (0 - 1)) (pitch * 0) []) a (record { net = 0; height = axis; since = pitch * 0 }) in
      let rest : List Rec = draw pitch ku 1 (begun k 0) later es in (
        λ o. v.0
            (record { left = o.left; right = o.right; among = past-node k (pitch * 0) w rest (omega (arith, o.ends)) o.among; begins = o.begins; ends = o.ends }),
        λ q. over-in (λ r m. Memᴰ.append_right (marks k (pitch * 0) w) m) (v.1 q),
      )
