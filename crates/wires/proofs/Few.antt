-- A film has at most 14 records a node: in a gap each of at most six wires moves at most once, and a node has at most its stub and a last run.
use mathlib.Core.Path.{◌≡◌, refl, ap, ◌∙◌}
use mathlib.Core.Bool.{Bool, true, false}
use mathlib.Core.List.{List, [], ◌∷◌, ◌++◌}
use mathlib.Core.Option.{none}
use Prim.Native.Nat.{ℕ, suc, ◌+◌, ◌-◌, ◌*◌, ◌≤◌, ◌<◌}
use native.Mathlib.Omega.{arith}
use lib.ListN.{length, get_or, length-append}
use lib.Dec.{ltb}
use borrow.Author.Tests.{le-ltb}
use Rattle.rules.specs.Basic.{pick}
use Rattle.rules.specs.declared.Kind.{Kind}
use Rattle.rules.specs.declared.Kind.TheVariants.{B, M, E, N}
use Rattle.rules.specs.Street.{last, counted}
use Rattle.rules.specs.Sheet.{kind_in, Entry, begun, upper_of, lower_of, count_of}
use Rattle.rules.specs.Judgement.{left, judge}
use Rattle.rules.specs.Film.{axis, height_at, upper_at, target, Wire, bent, drawn, climb, sink, gap, opened, closed, marks, draw, records}
use Rattle.rules.proofs.Lists.{length-put, length_cut}
use Rattle.rules.proofs.SheetFields.{length-entries_of}
use Rattle.rules.proofs.Legal.{Legal, done, then}
use Rattle.rules.proofs.Accepted.{judge-passed, takes-le}

drawn-few : (t : Bool) (h x : ℕ) (w : Wire) → length (drawn t h x w) ≤ 2
unfolding drawn
drawn-few true h x w = omega arith
drawn-few false h x w = omega arith

-- a wire that went up is where it has to be, and doesn't go down
once : (t : Bool) (h x y : ℕ) (w : Wire)
    → length (drawn t h x w) + length (drawn (ltb h (bent t h x w).height) h y (bent t h x w)) ≤ 2
unfolding drawn bent
once true h x y w = rw (le-ltb h h (omega arith)) (omega arith)
once false h x y w = omega (arith, drawn-few (ltb h w.height) h y w)

-- in a gap the wires stay, and each makes at most two records
climb-count : (t : ℕ → ℕ) (q x : ℕ) (ws : List Wire) → length (climb t q x ws).wires ≡ length ws
unfolding climb
climb-count t q x [] = refl
climb-count t q x (w ∷ ws) = ap suc (climb-count t (suc q) (pick (ltb w.height (t q)) (suc x) x) ws)

sink-count : (t : ℕ → ℕ) (q x : ℕ) (ws : List Wire) → length (sink t q x ws).wires ≡ length ws
unfolding sink
sink-count t q x [] = refl
sink-count t q x (w ∷ ws) = ap suc (sink-count t (suc q) x ws)

moves-few : (t : ℕ → ℕ) (q x y : ℕ) (ws : List Wire)
    → length (climb t q x ws).film + length (sink t q y (climb t q x ws).wires).film ≤ 2 * length ws
unfolding climb sink
moves-few t q x y [] = omega arith
moves-few t q x y (w ∷ ws) =
    let up = ltb w.height (t q) in
    let x' = pick up (suc x) x in
    let v = bent up (t q) x w in
    let a = climb t (suc q) x' ws in
    let b = sink t (suc q) y a.wires in
    let d = drawn (ltb (t q) v.height) (t q) b.column v in
    omega (
      arith,
      moves-few t (suc q) x' y ws,
      once up (t q) x b.column w,
      length-append (drawn up (t q) x w) a.film,
      length-append b.film d,
    )

module _ (t : ℕ → ℕ) (x : ℕ) (ws : List Wire) where
  gap-count : length (gap t x ws).wires ≡ length ws
  unfolding gap
  gap-count = let up = climb t 0 (suc x) ws in sink-count t 0 up.column up.wires ∙ climb-count t 0 (suc x) ws

  gap-few : length (gap t x ws).film ≤ 2 * length ws
  unfolding gap
  gap-few =
      let up = climb t 0 (suc x) ws in
      omega (arith, moves-few t 0 (suc x) up.column ws, length-append up.film (sink t 0 up.column up.wires).film)

marks-few : (k : Kind) (x : ℕ) (w : Wire) → length (marks k x w) ≤ 2
unfolding marks
marks-few B x w = omega arith
marks-few M x w = omega arith
marks-few E x w = omega arith
marks-few N x w = omega arith

-- as many wires are open as nets
after : (k : Kind) (n h x a : ℕ) (ws : List Wire) → a < last k (counted k (length ws)) → length (closed k a (opened k n h x a ws)) ≡ left k (length ws)
unfolding closed opened last counted left
after B n h x a ws l = length-put a (record { net = n; height = h; since = x }) ws
after M n h x a ws l = refl
after E n h x a ws l = omega (arith, length_cut a ws l)
after N n h x a ws l = refl

few-before : (k : Kind) (b : ℕ) → b ≤ counted k b
unfolding counted
few-before B b = omega arith
few-before M b = omega arith
few-before E b = omega arith
few-before N b = omega arith

module _ (pitch ku kl : ℕ) (narrow : ku + kl ≤ 6) where
  pub draw-few : {b : ℕ} {es : List Entry} → Legal ku kl b es → (i n : ℕ) (ws : List Wire) → length ws ≡ b
      → length (draw pitch ku i n ws es) ≤ 14 * length es
  unfolding draw
  draw-few done i n ws e = omega arith
  draw-few (then {b} {f} {a} {es} fit l) i n ws e =
      let k = kind_in f in
      let u = upper_at k ku a in
      let x = pitch * i in
      let g = gap (target k u a) (pitch * (i - 1)) ws in
      let c = gap-count (target k u a) (pitch * (i - 1)) ws in
      let vs = opened k n (height_at u (suc a)) x a g.wires in
      let w = get_or vs a (record { net = n; height = axis; since = x }) in
      let r = draw pitch ku (suc i) (begun k n) (closed k a vs) es in
      let s : length g.wires ≡ b = c ∙ e in
      let o : a < last k (counted k (length g.wires)) = rw s fit.high in
      let p = after k n (height_at u (suc a)) x a g.wires o ∙ ap (left k) s in
      omega (
        arith,
        fit.sum,
        e,
        few-before k b,
        gap-few (target k u a) (pitch * (i - 1)) ws,
        marks-few k x w,
        draw-few l (suc i) (begun k n) (closed k a vs) p,
        length-append g.film (marks k x w ++ r),
        length-append (marks k x w) r,
      )

pub records-few : (s : List ℕ) → judge s ≡ none → length (records 16 s) ≤ 14 * count_of s
unfolding records
records-few s e =
    let p = judge-passed s e in
    let t = takes-le (upper_of s) (lower_of s) p.tracks in
    omega (arith, length-entries_of s, draw-few 16 (upper_of s) (lower_of s) (omega arith) p.legal 0 0 [] refl)
