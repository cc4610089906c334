-- The film of legal entries is a trace: its gaps are moves that cross nobody, and its nodes touch the wire next to the axis, blanks none.
use mathlib.Core.Path.{◌≡◌, refl, sym, ap, ◌∙◌, subst, subst₂}
use mathlib.Core.List.{List, [], ◌∷◌, ◌++◌}
use mathlib.Core.Logic.{◌≢◌, ◌⊎◌, inl, inr}
use mathlib.Core.Option.{Option, some}
use Prim.Native.Nat.{ℕ, zero, suc, ◌+◌, ◌-◌, ◌*◌, ◌≤◌, ◌<◌}
use native.Mathlib.Nat.{eq-zero-or-pos}
use native.Mathlib.Omega.{arith}
use lib.ListN.{length, get_or, length-map}
use lib.Dec.{eqb}
use Rattle.rules.specs.Basic.{put, cut}
use Rattle.rules.specs.declared.Kind.{Kind}
use Rattle.rules.specs.declared.Kind.TheVariants.{B, M, E, N}
use Rattle.rules.specs.Street.{last, counted, next}
use Rattle.rules.specs.Sheet.{kind_in, Entry, entry, begun, net_at, nets}
use Rattle.rules.specs.Judgement.{left}
use Rattle.rules.specs.Film.{Rec, Wire, axis, upper_at, height_at, target, climb, sink, gap, opened, closed, marks, draw}
use Rattle.rules.proofs.Fits.{FitsAt, Wired, counted-le}
use Rattle.rules.proofs.Lists.{length-put, cut-put}
use Rattle.rules.proofs.Open.{one_same, one-other, times}
use Rattle.rules.proofs.Renamed.{put_map, cut-map}
use Rattle.rules.proofs.Legal.{Legal, done, then}
use Rattle.rules.proofs.GivenBack.{times-at, times-begin, times-end, one-pos, pinned, then-order, length-then, gone}
use Rattle.wires.specs.Levels.{own}
use Rattle.wires.proofs.Among.{All, nil, cons, more-put, more_cut}
use Rattle.wires.proofs.Gap.{Aside, Clear, Falling, Falls, Reached, gap-moves, gap-reached, gap-nets, gap-column}
use Rattle.wires.proofs.Trace.{Track, Trace, stop, begin, meet, end, blank, moves-then}
use Rattle.wires.proofs.Steps.{open_nets, one-le}
use Rattle.wires.proofs.Heights.{Laid, Settled, settled, settled-falling, reached-at, reached-others, falling-cut, position-falls, own-track, stub-clear, target-falls, target-track}

get_or-put : (k : ℕ) (w d : Wire) (o : List Wire) → k ≤ length o → get_or (put k w o) k d ≡ w
unfolding put
get_or-put zero w d o h = refl
get_or-put (suc k) w d [] h = absurd (omega arith)
get_or-put (suc k) w d (v ∷ o) h = get_or-put k w d o (omega arith)

pub net-at : (ws : List Wire) (a : ℕ) (d : Wire) → a < length ws → get_or (open_nets ws) a 0 ≡ (get_or ws a d).net
net-at [] a d h = absurd (omega arith)
net-at (w ∷ ws) zero d h = refl
net-at (w ∷ ws) (suc a) d h = net-at ws a d (omega arith)

pub length-nets : (ws : List Wire) → length (open_nets ws) ≡ length ws
length-nets ws = length-map ws (λ w. w.net)

-- the nets of the open wires: each once, and of the n that have begun
pub record Begun (n : ℕ) (o : List ℕ) : Type 0 where
  pub once : (x : ℕ) → times x o ≤ 1
  pub low : (x : ℕ) → 0 < times x o → x < n

-- a net that has not begun is no open wire's
fresh : (n : ℕ) (ws : List Wire) → ((x : ℕ) → 0 < times x (open_nets ws) → x < n) → All (λ v. v.net ≢ n) ws
unfolding times
fresh n [] h = nil
fresh n (w ∷ ws) h =
    cons (λ (e : w.net ≡ n). omega (arith, h w.net (omega (arith, one_same w.net)))) (fresh n ws (λ x t. h x (omega arith)))

pub begun-next : (k : Kind) (a n : ℕ) (o : List ℕ) → a < last k (counted k (length o)) → Begun n o → Begun (begun k n) (then-order k a n o)
unfolding last counted begun next
begun-next B a n o h b = record { once = λ x. once x (eq-zero-or-pos (times x o)); low = λ x t. low x t (eq-zero-or-pos (times x o)) }
  where
    once : (x : ℕ) → (times x o ≡ 0) ⊎ (0 < times x o) → times x (then-order B a n o) ≤ 1
    once x (inl z) = omega (arith, times-begin x a n o, one-le (eqb n x))
    once x (inr t) =
        let l : x < n = b.low x t in
        omega (arith, times-begin x a n o, one-other x n (λ (e : n ≡ x). omega arith), b.once x)

    low : (x : ℕ) → 0 < times x (then-order B a n o) → (times x o ≡ 0) ⊎ (0 < times x o) → x < suc n
    low x t (inl z) = let e : n ≡ x = one-pos x n (omega (arith, times-begin x a n o)) in omega arith
    low x t (inr q) = omega (arith, b.low x q)
begun-next M a n o h b = b
begun-next E a n o h b =
    record { once = λ x. omega (arith, times-end x a n o h, b.once x); low = λ x t. b.low x (omega (arith, times-end x a n o h)) }
begun-next N a n o h b = b

-- ---- a node

length-opened : (k : Kind) (n h x a : ℕ) (ws : List Wire) → length (opened k n h x a ws) ≡ counted k (length ws)
unfolding opened counted
length-opened B n h x a ws = length-put a (record { net = n; height = h; since = x }) ws
length-opened M n h x a ws = refl
length-opened E n h x a ws = refl
length-opened N n h x a ws = refl

-- the other wires at a node are clear of its stub
others-clear : {k : Kind} {ku kl u a c : ℕ} {vs : List Wire} → Laid k ku kl u a c → Wired k → length vs ≡ c → Settled u 0 vs
    → All (Aside axis (height_at u (suc a))) (cut a vs)
others-clear {u = u} {a} laid own e s =
    reached-others (Clear axis (height_at u (suc a))) s a (λ i l h d. stub-clear laid own (suc i) (omega arith) (omega arith) (λ (z : suc i ≡ suc a). d (omega arith)))

-- the touched wire of a net that was open: its net, and that the others are clear
touched : {ku kl u a : ℕ} (k : Kind) (x n : ℕ) (ws : List Wire) → Laid k ku kl u a (counted k (length ws)) → Wired k → Reached (target k u a) 0 ws → a < length ws
    → opened k n (height_at u (suc a)) x a ws ≡ ws → counted k (length ws) ≡ length ws
    → (get_or (open_nets ws) a 0 ≡ (get_or ws a (record { net = n; height = axis; since = x })).net)
    × All (Aside axis (get_or ws a (record { net = n; height = axis; since = x })).height) (cut a ws)
    × ((get_or ws a (record { net = n; height = axis; since = x })).height ≡ height_at u (suc a))
touched {u = u} {a} k x n ws laid own r h o c =
    let d : Wire = record { net = n; height = axis; since = x } in
    let s : Settled u 0 ws = subst (λ vs. Settled u 0 vs) o (settled k u a n x ws laid.fits.high r) in
    let e : (get_or ws a d).height ≡ height_at u (suc a) = reached-at s a d h ∙ ap (height_at u) (omega arith) in
    (net-at ws a d h, subst (λ x. All (Aside axis x) (cut a ws)) (sym e) (others-clear laid own (sym c) s), e)

renamed : {pitch ku kl i y h h' : ℕ} {ws : List Wire} {pin pin' : Option ℕ} {pins : List (Option ℕ)} {hs : List ℕ} {film : List Rec} → pin ≡ pin' → h ≡ h'
    → Trace pitch ku kl i y ws (pin ∷ pins) (h ∷ hs) film → Trace pitch ku kl i y ws (pin' ∷ pins) (h' ∷ hs) film
renamed {pitch} {ku} {kl} {i} {y} {ws = ws} {pins = pins} {hs} {film} e e' t = subst₂ (λ p h. Trace pitch ku kl i y ws (p ∷ pins) (h ∷ hs) film) e e' t

module _ {pitch ku kl u a : ℕ} where
  node-trace : (k : Kind) (i n y : ℕ) (ws : List Wire) {pins : List (Option ℕ)} {hs : List ℕ} {film : List Rec} → Laid k ku kl u a (counted k (length ws)) → Reached (target k u a) 0 ws
      → y ≤ pitch * i → Begun n (open_nets ws) → (k ≡ E → pinned (get_or (open_nets ws) a 0) pins ≡ 0)
      → Trace pitch ku kl (suc i) (suc (pitch * i)) (closed k a (opened k n (height_at u (suc a)) (pitch * i) a ws)) pins hs film
      → Trace pitch ku kl i y ws (net_at k a n (open_nets ws) ∷ pins) (height_at u (suc a) ∷ hs)
      (marks k (pitch * i) (get_or (opened k n (height_at u (suc a)) (pitch * i) a ws) a (record { net = n; height = axis; since = pitch * i })) ++ film)
  unfolding closed opened net_at marks last counted
  node-trace B i n y ws laid r l b z t =
      let w : Wire = record { net = n; height = height_at u (suc a); since = pitch * i } in
      let d : Wire = record { net = n; height = axis; since = pitch * i } in
      let h : a ≤ length ws = omega (arith, laid.fits.high) in
      let c : All (Aside axis (height_at u (suc a))) ws =
      subst (λ vs. All (Aside axis (height_at u (suc a))) vs) (cut-put a w ws h) (others-clear laid tt (length-put a w ws) (settled B u a n (pitch * i) ws (omega arith) r)) in
      rw (get_or-put a w d ws h) (begin l refl (own-track laid tt) (more-put a w ws) c (fresh n ws b.low) t)
  node-trace M i n y ws laid r l b z t =
      let d : Wire = record { net = n; height = axis; since = pitch * i } in
      let s = touched M (pitch * i) n ws laid tt r (omega (arith, laid.fits.high)) refl refl in
      renamed (ap some (sym s.0)) s.2
      (meet l (more_cut a ws d (omega (arith, laid.fits.high))) s.1 t)
  node-trace E i n y ws {pins} laid r l b z t =
      let d : Wire = record { net = n; height = axis; since = pitch * i } in
      let s = touched E (pitch * i) n ws laid tt r (omega (arith, laid.fits.high)) refl refl in
      renamed (ap some (sym s.0)) s.2
      (end l (more_cut a ws d (omega (arith, laid.fits.high))) s.1 (subst (λ x. pinned x pins ≡ 0) s.0 (z refl)) t)
  node-trace N i n y ws laid r l b z t = blank l t

  -- the same, with the order of their nets
  named-trace : (k : Kind) (i n y : ℕ) (ws : List Wire) {pins : List (Option ℕ)} {hs : List ℕ} {film : List Rec} (o : List ℕ) → open_nets ws ≡ o
      → Laid k ku kl u a (counted k (length ws)) → Reached (target k u a) 0 ws → y ≤ pitch * i → Begun n o → (k ≡ E → pinned (get_or o a 0) pins ≡ 0)
      → Trace pitch ku kl (suc i) (suc (pitch * i)) (closed k a (opened k n (height_at u (suc a)) (pitch * i) a ws)) pins hs film
      → Trace pitch ku kl i y ws (net_at k a n o ∷ pins) (height_at u (suc a) ∷ hs)
      (marks k (pitch * i) (get_or (opened k n (height_at u (suc a)) (pitch * i) a ws) a (record { net = n; height = axis; since = pitch * i })) ++ film)
  named-trace k i n y ws {pins} o e laid r l b z t =
      renamed (ap (net_at k a n) e) refl
      (node-trace k i n y ws laid r l (subst (Begun n) (sym e) b) (λ q. subst (λ p. pinned (get_or p a 0) pins ≡ 0) (sym e) (z q)) t)

-- ---- entries

closed-nets : (k : Kind) (a n h x : ℕ) (ws : List Wire) → open_nets (closed k a (opened k n h x a ws)) ≡ then-order k a n (open_nets ws)
unfolding closed opened next
closed-nets B a n h x ws = sym (put_map (λ w. w.net) a (record { net = n; height = h; since = x }) ws) ∙ ap (λ k. put k n (open_nets ws)) (omega arith)
closed-nets M a n h x ws = refl
closed-nets E a n h x ws = sym (cut-map (λ w. w.net) a ws) ∙ ap (λ k. cut k (open_nets ws)) (omega arith)
closed-nets N a n h x ws = refl

pub closed-falling : (k : Kind) (a : ℕ) (ws : List Wire) → Falling ws → Falling (closed k a ws)
unfolding closed
closed-falling B a ws f = f
closed-falling M a ws f = f
closed-falling E a ws f = falling-cut a f
closed-falling N a ws f = f

ended : (k : Kind) (a n : ℕ) (o : List ℕ) → a < last k (counted k (length o)) → Begun n o → k ≡ E → (times (get_or o a 0) (then-order k a n o) ≡ 0) × (get_or o a 0 < begun k n)
unfolding last counted begun
ended B a n o h b e = let z : ◌≡◌ {A = ℕ} 0 1 = cc in absurd (omega arith)
ended M a n o h b e = let z : ◌≡◌ {A = ℕ} 0 1 = cc in absurd (omega arith)
ended E a n o h b e =
    (omega (arith, times-end (get_or o a 0) a n o h, one_same (get_or o a 0), b.once (get_or o a 0)), b.low (get_or o a 0) (times-at o a h))
ended N a n o h b e = let z : ◌≡◌ {A = ℕ} 0 1 = cc in absurd (omega arith)

-- the wires before, at and after a node at column y, whose gap begins at column x
abbrev pub coming : Kind → (u a x : ℕ) → List Wire → List Wire
coming k u a x ws = (gap (target k u a) x ws).wires

abbrev pub meeting : Kind → (u a n x y : ℕ) → List Wire → List Wire
meeting k u a n x y ws = opened k n (height_at u (suc a)) y a (coming k u a x ws)

abbrev pub leaving : Kind → (u a n x y : ℕ) → List Wire → List Wire
leaving k u a n x y ws = closed k a (meeting k u a n x y ws)

-- the film from node i on, without the moves before it
unfoldable pub at-node : (pitch ku : ℕ) → Kind → (u a n i : ℕ) → List Wire → List Entry → List Rec
at-node pitch ku k u a n i ws es =
    let x = pitch * i in
    let vs = meeting k u a n (pitch * (i - 1)) x ws in
    let w = get_or vs a (record { net = n; height = axis; since = x }) in
    marks k x w ++ draw pitch ku (suc i) (begun k n) (closed k a vs) es

-- what holds at a node of kind k below a nets, with b nets open before it
pub record Passing (ku kl : ℕ) (k : Kind) (u a b n x y : ℕ) (ws : List Wire) : Type 0 where
  pub laid : Laid k ku kl u a (counted k b)
  pub same : open_nets (coming k u a x ws) ≡ open_nets ws
  pub all : length (coming k u a x ws) ≡ b
  pub heights : Settled u 0 (meeting k u a n x y ws)
  pub falls : Falling (meeting k u a n x y ws)
  pub low : a < last k (counted k (length (open_nets ws)))
  pub order : open_nets (leaving k u a n x y ws) ≡ then-order k a n (open_nets ws)
  pub left-open : length (leaving k u a n x y ws) ≡ left k b
  pub begun : Begun (begun k n) (open_nets (leaving k u a n x y ws))

-- the first free column from node i on
unfoldable pub from : (pitch i : ℕ) → ℕ
from pitch zero = 0
from pitch (suc i) = suc (pitch * i)

module _ (pitch ku kl : ℕ) (wide : ku + kl < pitch) (deep : kl ≤ axis) where
  -- the moves of the gap before node i
  gap-first : (t : ℕ → ℕ) (i : ℕ) (ws : List Wire) {pins : List (Option ℕ)} {hs : List ℕ} {film : List Rec} → (i ≡ 0 → ws ≡ []) → length ws < pitch → Falling ws
      → Falls t 0 (length ws) → ((j : ℕ) → 0 ≤ j → j < 0 + length ws → Track ku kl (t j))
      → ((y : ℕ) → y ≤ pitch * i → Trace pitch ku kl i y (gap t (pitch * (i - 1)) ws).wires pins hs film)
      → Trace pitch ku kl i (from pitch i) ws pins hs ((gap t (pitch * (i - 1)) ws).film ++ film)
  unfolding from gap climb sink
  gap-first t zero [] e h f g p k = k 0 (omega arith)
  gap-first t zero (w ∷ ws) e h f g p k = let q : w ∷ ws ≡ [] = e refl in let z : ◌≡◌ {A = ℕ} 0 1 = cc in absurd (omega arith)
  gap-first t (suc i) ws e h f g p k =
      let q : suc i - 1 ≡ i = omega arith in
      let y : ℕ = (gap t (pitch * i) ws).column in
      rw q (moves-then (gap-moves t (pitch * i) ws f g p) (rw q at (k y (omega (arith, gap-column t (pitch * i) ws)))))

  pub passing : (k : Kind) (a b i n : ℕ) (ws : List Wire) → FitsAt k ku kl (suc a) (counted k b) → length ws ≡ b → Begun n (open_nets ws)
      → Passing ku kl k (upper_at k ku a) a b n (pitch * (i - 1)) (pitch * i) ws
  passing k a b i n ws h e beg =
      record {
        laid = laid;
        same = n≡;
        all = l≡;
        heights = sv;
        falls = settled-falling sv (λ i j p q m. position-falls laid (suc i) (suc j) (omega arith) (omega (arith, lv)));
        low = go;
        order = no;
        left-open = sym (length-nets (closed k a vs)) ∙ ap length no ∙ length-then k a n (open_nets ws) go ∙ ap (left k) (length-nets ws ∙ e);
        begun = rw no (begun-next k a n (open_nets ws) go beg);
      }
    where
      u : ℕ
      u = upper_at k ku a

      ws' : List Wire
      ws' = coming k u a (pitch * (i - 1)) ws

      vs : List Wire
      vs = meeting k u a n (pitch * (i - 1)) (pitch * i) ws

      n≡ : open_nets ws' ≡ open_nets ws
      n≡ = gap-nets (target k u a) (pitch * (i - 1)) ws

      l≡ : length ws' ≡ b
      l≡ = sym (length-nets ws') ∙ ap length n≡ ∙ length-nets ws ∙ e

      laid : Laid k ku kl u a (counted k b)
      laid = record { law = refl; fits = h; deep = deep }

      sv : Settled u 0 vs
      sv = settled k u a n (pitch * i) ws' (rw l≡ h.high) (gap-reached (target k u a) (pitch * (i - 1)) ws)

      lv : length vs ≡ counted k b
      lv = length-opened k n (height_at u (suc a)) (pitch * i) a ws' ∙ ap (counted k) l≡

      go : a < last k (counted k (length (open_nets ws)))
      go = rw (length-nets ws, e) h.high

      no : open_nets (closed k a vs) ≡ then-order k a n (open_nets ws)
      no = closed-nets k a n (height_at u (suc a)) (pitch * i) ws' ∙ ap (then-order k a n) n≡

  -- the film from node i on, after the moves before it
  pub node-on : (f : ℕ) {a b : ℕ} {es : List Entry} → Legal ku kl (left (kind_in f) b) es → (i n : ℕ) (ws : List Wire) → Begun n (open_nets ws)
      → Passing ku kl (kind_in f) (upper_at (kind_in f) ku a) a b n (pitch * (i - 1)) (pitch * i) ws
      → Trace pitch ku kl (suc i) (suc (pitch * i)) (leaving (kind_in f) (upper_at (kind_in f) ku a) a n (pitch * (i - 1)) (pitch * i) ws)
      (nets (begun (kind_in f) n) (open_nets (leaving (kind_in f) (upper_at (kind_in f) ku a) a n (pitch * (i - 1)) (pitch * i) ws)) es) (own ku es)
      (draw pitch ku (suc i) (begun (kind_in f) n) (leaving (kind_in f) (upper_at (kind_in f) ku a) a n (pitch * (i - 1)) (pitch * i) ws) es)
      → (y : ℕ) → y ≤ pitch * i
      → Trace pitch ku kl i y (coming (kind_in f) (upper_at (kind_in f) ku a) a (pitch * (i - 1)) ws) (nets n (open_nets ws) (entry f a ∷ es)) (own ku (entry f a ∷ es))
      (at-node pitch ku (kind_in f) (upper_at (kind_in f) ku a) a n i ws es)
  unfolding nets own at-node
  node-on f {a} {b} {es} l i n ws beg p t y hy =
      let k : Kind = kind_in f in
      let u : ℕ = upper_at k ku a in
      let x : ℕ = pitch * (i - 1) in
      let o : List ℕ = then-order k a n (open_nets ws) in
      let lo : length o ≡ left k b = ap length (sym p.order) ∙ length-nets (leaving k u a n x (pitch * i) ws) ∙ p.left-open in
      named-trace k i n y (coming k u a x ws) (open_nets ws) p.same (rw p.all p.laid) (gap-reached (target k u a) x ws) hy beg
      (λ q. let z = ended k a n (open_nets ws) p.low beg q in gone ku kl l (begun k n) o lo (get_or (open_nets ws) a 0) z.0 z.1)
      (rw p.order at t)

  pub draw-trace : {b : ℕ} {es : List Entry} → Legal ku kl b es → (i n : ℕ) (ws : List Wire) → length ws ≡ b → (i ≡ 0 → ws ≡ []) → Falling ws → Begun n (open_nets ws)
      → Trace pitch ku kl i (from pitch i) ws (nets n (open_nets ws) es) (own ku es) (draw pitch ku i n ws es)
  unfolding nets own draw from at-node
  draw-trace done i n [] e s f b = stop
  draw-trace done i n (w ∷ ws) e s f b = absurd (omega arith)
  draw-trace (then {b} {f} {a} {es} h l) i n ws e s fall beg =
      let k : Kind = kind_in f in
      let u : ℕ = upper_at k ku a in
      let p = passing k a b i n ws h e beg in
      gap-first (target k u a) i ws s (omega (arith, h.sum, counted-le k b)) fall (rw e (target-falls b k p.laid)) (rw e (target-track b k p.laid))
      (node-on f l i n ws beg p
      (draw-trace l (suc i) (begun k n) (leaving k u a n (pitch * (i - 1)) (pitch * i) ws) p.left-open (λ (z : suc i ≡ 0). absurd (omega arith))
      (closed-falling k a (meeting k u a n (pitch * (i - 1)) (pitch * i) ws) p.falls) p.begun))
