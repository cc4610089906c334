-- A row of labels given back from legal entries, numbered from any number on so that no net is 255, has their kinds and their positions for a
-- placing, and no lone label.
use mathlib.Core.Path.{◌≡◌, refl, sym, ap, ap₂, ◌∙◌}
use mathlib.Core.Bool.{Bool, true, false, not, ◌&&◌}
use mathlib.Core.List.{List, [], ◌∷◌, ◌++◌, map, append-nil, append_assoc}
use mathlib.Core.Logic.{◌⊎◌, inl, inr}
use mathlib.Core.Option.{Option, none, some}
use Prim.Native.Nat.{ℕ, zero, suc, ◌+◌, ◌-◌, ◌≤◌, ◌<◌}
use native.Mathlib.Nat.{eq-zero-or-pos, le_of_suc-le-suc, not-suc-le-zero, zero-add, add-zero}
use native.Mathlib.Numerals.{add-one}
use native.Mathlib.Omega.{arith}
use lib.ListN.{length, get_or, drop, length-append, length-map}
use lib.Seq.{get_or-append_seam, drop-append-add}
use lib.Dec.{T, eqb, eqb_refl}
use borrow.Author.Tests.{eqb-true, eq-eqb, ne_eqb, lt-ltb, le-ltb}
use Rattle.rules.specs.Basic.{pick, tabulate}
use Rattle.rules.specs.declared.Kind.{Kind}
use Rattle.rules.specs.declared.Kind.TheVariants.{B, M, E, N}
use Rattle.rules.specs.Row.{before, has, blank, home, later, lone, Node, node, node_at, nodes, kind_of}
use Rattle.rules.specs.Street.{last, counted, stands, next, kind, run, empty, Placing}
use Rattle.rules.specs.Sheet.{kind_in, Entry, entry, begun, begun_by, net_at, nets, label}
use Rattle.rules.specs.Judgement.{left}
use Rattle.rules.proofs.Lists.{length-put, length_cut}
use Rattle.rules.proofs.Runs.{Leads, onward-leads}
use Rattle.rules.proofs.Search.{ends-empty}
use Rattle.rules.proofs.Pins.{tabulate-cong}
use Rattle.rules.proofs.Open.{one, one_same, one-other, times, times-put, times_cut}
use Rattle.rules.proofs.Legal.{Legal, done, then}
use Rattle.rules.proofs.Renamed.{put_map, cut-map, before-map, home-only}

-- ---- lists: where a number that is in one stands

pub times-append : (x : ℕ) (a b : List ℕ) → times x (a ++ b) ≡ times x a + times x b
unfolding times
times-append x [] b = omega arith
times-append x (y ∷ a) b = omega (arith, times-append x a b)

pub times-at : (l : List ℕ) (i : ℕ) → i < length l → 0 < times (get_or l i 0) l
unfolding times
times-at [] i h = absurd (not-suc-le-zero h)
times-at (y ∷ l) zero h = omega (arith, one_same y)
times-at (y ∷ l) (suc i) h = omega (arith, times-at l i (le_of_suc-le-suc h))

pub before-in : (x : ℕ) (a b : List ℕ) → 0 < times x a → before x (a ++ b) < length a
unfolding times before pick one
before-in x [] b h = absurd (omega arith)
before-in x (y ∷ a) b h = go (eqb y x) h (before-in x a b)
  where
    go : (t : Bool) → 0 < one t + times x a → (0 < times x a → before x (a ++ b) < length a) → pick t 0 (suc (before x (a ++ b))) < suc (length a)
    go true h ih = omega arith
    go false h ih = let k : before x (a ++ b) < length a = ih (omega arith) in omega arith

pub before-out : (x : ℕ) (a b : List ℕ) → times x a ≡ 0 → before x (a ++ b) ≡ length a + before x b
unfolding times before pick one
before-out x [] b h = omega arith
before-out x (y ∷ a) b h = go (eqb y x) h (before-out x a b)
  where
    go : (t : Bool) → one t + times x a ≡ 0 → (times x a ≡ 0 → before x (a ++ b) ≡ length a + before x b)
        → pick t 0 (suc (before x (a ++ b))) ≡ suc (length a) + before x b
    go true h ih = absurd (omega arith)
    go false h ih = let k : before x (a ++ b) ≡ length a + before x b = ih (omega arith) in omega arith

pub has_in : (x : ℕ) (l : List ℕ) → 0 < times x l → has x l ≡ true
unfolding has
has_in x l h = lt-ltb (before x l) (length l) (rw append-nil at (before-in x l [] h))

pub has-out : (x : ℕ) (l : List ℕ) → times x l ≡ 0 → has x l ≡ false
unfolding has before
has-out x l h = le-ltb (before x l) (length l) (omega (arith, rw append-nil at (before-out x l [] h)))

-- in a list without repeats each element is found where it stands
pub before-once : (o : List ℕ) → ((x : ℕ) → times x o ≤ 1) → (a : ℕ) → a < length o → before (get_or o a 0) o ≡ a
unfolding times before pick one
before-once [] h a l = absurd (not-suc-le-zero l)
before-once (y ∷ o) h zero l = rw (eq-eqb y y refl)
before-once (y ∷ o) h (suc a) l = go (eqb y (get_or o a 0)) refl (before-once o (λ x. omega (arith, h x)) a (le_of_suc-le-suc l))
  where
    go : (t : Bool) → eqb y (get_or o a 0) ≡ t → before (get_or o a 0) o ≡ a → pick t 0 (suc (before (get_or o a 0) o)) ≡ suc a
    go true e ih = absurd (omega (arith, rw e at (h (get_or o a 0)), times-at o a (le_of_suc-le-suc l)))
    go false e ih = ap suc ih

-- ---- nets at pins

-- whether net x stands at a pin, as 0 or 1, and how often at pins
unfoldable pub hits : ℕ → Option ℕ → ℕ
hits x none = 0
hits x (some y) = one (eqb y x)

unfoldable pub pinned : ℕ → List (Option ℕ) → ℕ
pinned x [] = 0
pinned x (m ∷ pins) = hits x m + pinned x pins

-- 255 is the label of blanks alone
pub times-label : (x : ℕ) → (x ≡ 255 → ⊥) → (pins : List (Option ℕ)) → times x (map label pins) ≡ pinned x pins
unfolding times pinned hits label
times-label x h [] = refl
times-label x h (none ∷ pins) = omega (arith, one-other x 255 (λ (e : 255 ≡ x). h (sym e)), times-label x h pins)
times-label x h (some y ∷ pins) = omega (arith, times-label x h pins)

-- ---- the walk: labels so far, nets begun, the order of numbers, which are those from m on

pub record Walk (m : ℕ) (pre : List ℕ) (n : ℕ) (o : List ℕ) : Type 0 where
  pub once : (x : ℕ) → times x o ≤ 1
  pub seen : (x : ℕ) → 0 < times x o → 0 < times x pre
  pub from : m ≤ n
  pub high : (x : ℕ) → 0 < times x o → m ≤ x
  pub low : (x : ℕ) → 0 < times x o → x < n
  pub fresh : (x : ℕ) → n ≤ x → (x ≡ 255 → ⊥) → times x pre ≡ 0

-- no net of those from m on, which entries lead to from n, has the number of blanks for its own
abbrev pub Clear : (m n : ℕ) → List Entry → Type 0
Clear m n es = (x : ℕ) → m ≤ x → x < begun_by n es → x ≡ 255 → ⊥

-- the label at an entry, and those of entries
abbrev pub labelled : Kind → (a n : ℕ) → List ℕ → ℕ
labelled k a n o = label (net_at k a n o)

abbrev pub labels : (n : ℕ) → List ℕ → List Entry → List ℕ
labels n o es = map label (nets n o es)

-- the order after an entry
abbrev pub then-order : Kind → (a n : ℕ) → List ℕ → List ℕ
then-order k a n o = next (node k n) o (suc a)

less_one : (a : ℕ) → suc a - 1 ≡ a
less_one a = omega arith

pub length-then : (k : Kind) (a n : ℕ) (o : List ℕ) → a < last k (counted k (length o)) → length (then-order k a n o) ≡ left k (length o)
unfolding next last counted left
length-then B a n o h = length-put (suc a - 1) n o
length-then M a n o h = refl
length-then E a n o h = omega (arith, length_cut (suc a - 1) o (omega arith))
length-then N a n o h = refl

-- how often x stands in the order after an entry
pub times-begin : (x a n : ℕ) (o : List ℕ) → times x (then-order B a n o) ≡ one (eqb n x) + times x o
unfolding next
times-begin x a n o = times-put x (suc a - 1) n o

pub times-end : (x a n : ℕ) (o : List ℕ) → a < length o → one (eqb (get_or o a 0) x) + times x (then-order E a n o) ≡ times x o
unfolding next
times-end x a n o h = rw (less_one a) (times_cut x a o h)

unless : (t : Bool) → one t ≤ 1
unfolding one
unless true = omega arith
unless false = omega arith

-- a net other than 0 times is there
pub one-pos : (x y : ℕ) → 0 < one (eqb y x) → y ≡ x
unfolding one
one-pos x y h = go (eqb y x) refl h
  where
    go : (t : Bool) → eqb y x ≡ t → 0 < one t → y ≡ x
    go true e h = eqb-true y x e
    go false e h = absurd (omega arith)

times_snoc : (x y : ℕ) (pre : List ℕ) → times x (pre ++ (y ∷ [])) ≡ times x pre + one (eqb y x)
unfolding times
times_snoc x y pre = omega (arith, times-append x pre (y ∷ []))

-- a node at which no net begins
walk-on : (m y : ℕ) (pre : List ℕ) (n : ℕ) (o o' : List ℕ) → Walk m pre n o → ((x : ℕ) → times x o' ≤ times x o)
    → ((x : ℕ) → n ≤ x → (x ≡ 255 → ⊥) → y ≡ x → ⊥) → Walk m (pre ++ (y ∷ [])) n o'
walk-on m y pre n o o' w less old =
    record {
      once = λ x. omega (arith, less x, w.once x);
      seen = λ x t. omega (arith, times_snoc x y pre, w.seen x (omega (arith, less x)));
      from = w.from;
      high = λ x t. w.high x (omega (arith, less x));
      low = λ x t. w.low x (omega (arith, less x));
      fresh = λ x h l. omega (arith, times_snoc x y pre, w.fresh x h l, one-other x y (old x h l));
    }

pub walk-next : (m : ℕ) (k : Kind) (a : ℕ) (pre : List ℕ) (n : ℕ) (o : List ℕ) → Walk m pre n o → a < last k (counted k (length o))
    → Walk m (pre ++ (labelled k a n o ∷ [])) (begun k n) (then-order k a n o)
unfolding last counted net_at label begun next
walk-next m B a pre n o w h =
    record {
      once = λ x. once x (eq-zero-or-pos (times x o));
      seen = λ x t. seen x t (eq-zero-or-pos (times x o));
      from = omega (arith, w.from);
      high = λ x t. (within x t (eq-zero-or-pos (times x o))).0;
      low = λ x t. (within x t (eq-zero-or-pos (times x o))).1;
      fresh = λ x q l. omega (arith, times_snoc x n pre, w.fresh x (omega arith) l, one-other x n (λ (e : n ≡ x). omega arith));
    }
  where
    once : (x : ℕ) → (times x o ≡ 0) ⊎ (0 < times x o) → times x (then-order B a n o) ≤ 1
    once x (inl z) = omega (arith, times-begin x a n o, unless (eqb n x))
    once x (inr t) =
        let l : x < n = w.low x t in
        omega (arith, times-begin x a n o, one-other x n (λ (e : n ≡ x). omega arith), w.once x)

    seen : (x : ℕ) → 0 < times x (then-order B a n o) → (times x o ≡ 0) ⊎ (0 < times x o) → 0 < times x (pre ++ (n ∷ []))
    seen x t (inl z) = omega (arith, times-begin x a n o, times_snoc x n pre)
    seen x t (inr q) = omega (arith, times_snoc x n pre, w.seen x q)

    within : (x : ℕ) → 0 < times x (then-order B a n o) → (times x o ≡ 0) ⊎ (0 < times x o) → (m ≤ x) × (x < suc n)
    within x t (inl z) = let e : n ≡ x = one-pos x n (omega (arith, times-begin x a n o)) in omega (arith, w.from)
    within x t (inr q) = omega (arith, w.high x q, w.low x q)
walk-next m M a pre n o w h =
    walk-on m (get_or o a 0) pre n o o w (λ x. omega arith) (λ x q l (e : get_or o a 0 ≡ x). omega (arith, w.low (get_or o a 0) (times-at o a h)))
walk-next m E a pre n o w h =
    walk-on m (get_or o a 0) pre n o (then-order E a n o) w (λ x. omega (arith, times-end x a n o h))
    (λ x q l (e : get_or o a 0 ≡ x). omega (arith, w.low (get_or o a 0) (times-at o a h)))
walk-next m N a pre n o w h = walk-on m 255 pre n o o w (λ x. omega arith) (λ x q l (e : 255 ≡ x). l (sym e))

-- ---- what the rest of the row holds

-- a net in the order is the node's, or stays in the order
stays : (k : Kind) (a n : ℕ) (o : List ℕ) (x : ℕ) → a < last k (counted k (length o)) → 0 < times x o
    → 0 < hits x (net_at k a n o) + times x (then-order k a n o)
unfolding last counted net_at hits next
stays B a n o x h t = omega (arith, times-begin x a n o)
stays M a n o x h t = omega arith
stays E a n o x h t = omega (arith, times-end x a n o h)
stays N a n o x h t = omega arith

-- a net that was begun and is not in the order is not the node's, and stays out
record Out (k : Kind) (a n : ℕ) (o : List ℕ) (x : ℕ) : Type 0 where
  here : hits x (net_at k a n o) ≡ 0
  after : times x (then-order k a n o) ≡ 0
  low : x < begun k n

not_there : (a : ℕ) (o : List ℕ) (x : ℕ) → a < length o → times x o ≡ 0 → one (eqb (get_or o a 0) x) ≡ 0
not_there a o x h z = one-other x (get_or o a 0) (λ (e : get_or o a 0 ≡ x). absurd (omega (arith, rw e at (times-at o a h))))

stays_out : (k : Kind) (a n : ℕ) (o : List ℕ) (x : ℕ) → a < last k (counted k (length o)) → times x o ≡ 0 → x < n → Out k a n o x
unfolding last counted net_at hits next begun
stays_out B a n o x h z l =
    let e : one (eqb n x) ≡ 0 = one-other x n (λ (q : n ≡ x). omega arith) in
    record { here = e; after = omega (arith, times-begin x a n o); low = omega arith }
stays_out M a n o x h z l = record { here = not_there a o x h z; after = z; low = l }
stays_out E a n o x h z l = record { here = not_there a o x h z; after = omega (arith, times-end x a n o h); low = l }
stays_out N a n o x h z l = record { here = refl; after = z; low = l }

module _ (ku kl : ℕ) where
  -- a net in the order comes again
  pub comes : {b : ℕ} {es : List Entry} → Legal ku kl b es → (n : ℕ) (o : List ℕ) → length o ≡ b → (x : ℕ) → 0 < times x o → 0 < pinned x (nets n o es)
  unfolding nets times pinned
  comes done n [] e x t = t
  comes done n (y ∷ o) e x t = absurd (omega arith)
  comes (then {b} {f} {a} {es} h l) n o e x t =
      let k : Kind = kind_in f in
      let g : a < last k (counted k (length o)) = rw e h.high in
      go (times x (then-order k a n o)) (hits x (net_at k a n o)) (pinned x (nets (begun k n) (then-order k a n o) es))
      (eq-zero-or-pos (times x (then-order k a n o))) (stays k a n o x g t) (comes l (begun k n) (then-order k a n o) (length-then k a n o g ∙ ap (left k) e) x)
    where
      go : (c d r : ℕ) → (c ≡ 0) ⊎ (0 < c) → 0 < d + c → (0 < c → 0 < r) → 0 < d + r
      go c d r (inl z) p ih = omega arith
      go c d r (inr q) p ih = omega (arith, ih q)

  -- a net that is out does not
  pub gone : {b : ℕ} {es : List Entry} → Legal ku kl b es → (n : ℕ) (o : List ℕ) → length o ≡ b → (x : ℕ) → times x o ≡ 0 → x < n
      → pinned x (nets n o es) ≡ 0
  unfolding nets times pinned
  gone done n o e x z l = refl
  gone (then {b} {f} {a} {es} h l) n o e x z q =
      let k : Kind = kind_in f in
      let g : a < last k (counted k (length o)) = rw e h.high in
      let u = stays_out k a n o x g z q in
      omega (arith, u.here, gone l (begun k n) (then-order k a n o) (length-then k a n o g ∙ ap (left k) e) x u.after u.low)

-- ---- kinds

-- a label that was not seen is at its first node, one that was is not
first-there : (x : ℕ) (pre rest : List ℕ) → times x pre ≡ 0 → eqb (before x (pre ++ x ∷ rest)) (length pre) ≡ true
unfolding before pick
first-there x pre rest z =
    let e : before x (x ∷ rest) ≡ 0 = rw (eq-eqb x x refl) in
    eq-eqb (before x (pre ++ x ∷ rest)) (length pre) (omega (arith, before-out x pre (x ∷ rest) z))

first_past : (x : ℕ) (pre rest : List ℕ) → 0 < times x pre → eqb (before x (pre ++ x ∷ rest)) (length pre) ≡ false
first_past x pre rest t = ne_eqb (before x (pre ++ x ∷ rest)) (length pre) (λ (e : before x (pre ++ x ∷ rest) ≡ length pre). omega (arith, before-in x pre (x ∷ rest) t))

drop-there : (pre : List ℕ) (x : ℕ) (rest : List ℕ) → drop (suc (length pre)) (pre ++ x ∷ rest) ≡ rest
drop-there pre x rest = ap (λ k. drop k (pre ++ x ∷ rest)) (sym (add-one (length pre))) ∙ drop-append-add pre (x ∷ rest) 1

-- the node after the labels pre, by its tests
node-there : (pre : List ℕ) (x : ℕ) (rest : List ℕ)
    → node_at (pre ++ x ∷ rest) (length pre)
    ≡ pick (eqb x 255) (node N (length pre)) (node (kind_of (eqb (before x (pre ++ x ∷ rest)) (length pre)) (has x rest)) (before x (pre ++ x ∷ rest)))
unfolding node_at blank home later
node-there pre x rest = rw (get_or-append_seam pre x rest 0, drop-there pre x rest)

lone-there : (pre : List ℕ) (x : ℕ) (rest : List ℕ)
    → lone (pre ++ x ∷ rest) (length pre) ≡ not (eqb x 255) && eqb (before x (pre ++ x ∷ rest)) (length pre) && not (has x rest)
unfolding lone blank home later
lone-there pre x rest = rw (get_or-append_seam pre x rest 0, drop-there pre x rest)

-- what a node is known by, where its label is first at h: a blank by itself
unfoldable pub owner : Kind → (i h : ℕ) → ℕ
owner B i h = h
owner M i h = h
owner E i h = h
owner N i h = i

-- the node after the labels pre, and that it is not lone
record There (k : Kind) (x : ℕ) (pre rest : List ℕ) : Type 0 where
  is : node_at (pre ++ x ∷ rest) (length pre) ≡ node k (owner k (length pre) (before x (pre ++ x ∷ rest)))
  not-lone : lone (pre ++ x ∷ rest) (length pre) ≡ false

begun-le : (k : Kind) (n : ℕ) → n ≤ begun k n
unfolding begun
begun-le B n = omega arith
begun-le M n = omega arith
begun-le E n = omega arith
begun-le N n = omega arith

pub begun_by-le : (n : ℕ) (es : List Entry) → n ≤ begun_by n es
unfolding begun_by
begun_by-le n [] = omega arith
begun_by-le n (entry f a ∷ es) = omega (arith, begun-le (kind_in f) n, begun_by-le (begun (kind_in f) n) es)

module _ (x : ℕ) (pre rest : List ℕ) (h : x ≡ 255 → ⊥) where
  net-there : (k : Kind) (f l : Bool) → eqb (before x (pre ++ x ∷ rest)) (length pre) ≡ f → has x rest ≡ l → f && not l ≡ false → kind_of f l ≡ k
      → owner k (length pre) (before x (pre ++ x ∷ rest)) ≡ before x (pre ++ x ∷ rest) → There k x pre rest
  unfolding pick
  net-there k f l ef el n e q =
      let b : eqb x 255 ≡ false = ne_eqb x 255 h in
      record {
        is = node-there pre x rest ∙ rw (b, ef, el, e, q);
        not-lone = lone-there pre x rest ∙ rw (b, ef, el) n;
      }

module _ (ku kl m : ℕ) where
  there : {es : List Entry} (k : Kind) (a n : ℕ) (o pre : List ℕ) → Walk m pre n o → a < last k (counted k (length o)) → Legal ku kl (left k (length o)) es
      → Clear m (begun k n) es → There k (labelled k a n o) pre (labels (begun k n) (then-order k a n o) es)
  unfolding last counted left net_at label begun kind_of next owner pick
  there {es} B a n o pre w h l clear =
      let own : n ≡ 255 → ⊥ = clear n w.from (begun_by-le (suc n) es) in
      let pins : List (Option ℕ) = nets (suc n) (then-order B a n o) es in
      net-there n pre (map label pins) own B true true
      (first-there n pre (map label pins) (w.fresh n (omega arith) own))
      (has_in n (map label pins) (rw (times-label n own pins) (comes ku kl l (suc n) (then-order B a n o) (length-then B a n o h) n (omega (arith, times-begin n a n o, one_same n)))))
      refl refl refl
  there {es} M a n o pre w h l clear =
      let x : ℕ = get_or o a 0 in
      let own : x ≡ 255 → ⊥ = clear x (w.high x (times-at o a h)) (omega (arith, begun_by-le n es, w.low x (times-at o a h))) in
      let pins : List (Option ℕ) = nets n (then-order M a n o) es in
      net-there x pre (map label pins) own M false true
      (first_past x pre (map label pins) (w.seen x (times-at o a h)))
      (has_in x (map label pins) (rw (times-label x own pins) (comes ku kl l n (then-order M a n o) (length-then M a n o h) x (times-at o a h))))
      refl refl refl
  there {es} E a n o pre w h l clear =
      let x : ℕ = get_or o a 0 in
      let own : x ≡ 255 → ⊥ = clear x (w.high x (times-at o a h)) (omega (arith, begun_by-le n es, w.low x (times-at o a h))) in
      let pins : List (Option ℕ) = nets n (then-order E a n o) es in
      let z : times x (then-order E a n o) ≡ 0 = omega (arith, times-end x a n o h, one_same x, w.once x) in
      net-there x pre (map label pins) own E false false
      (first_past x pre (map label pins) (w.seen x (times-at o a h)))
      (has-out x (map label pins) (rw (times-label x own pins) (gone ku kl l n (then-order E a n o) (length-then E a n o h) x z (w.low x (times-at o a h)))))
      refl refl refl
  there {es} N a n o pre w h l clear =
      record { is = node-there pre 255 (labels n o es); not-lone = lone-there pre 255 (labels n o es) }

-- ---- the nodes of the row

-- entries as nodes from i on, their nets known by the first node of their labels in the row r
unfoldable pub tagged : (r : List ℕ) (i n : ℕ) (o : List ℕ) → List Entry → List Node
tagged r i n o [] = []
tagged r i n o (entry f a ∷ es) =
    node (kind_in f) (owner (kind_in f) i (before (labelled (kind_in f) a n o) r)) ∷ tagged r (suc i) (begun (kind_in f) n) (then-order (kind_in f) a n o) es

pub length-labels : (n : ℕ) (o : List ℕ) (es : List Entry) → length (labels n o es) ≡ length es
unfolding nets
length-labels n o [] = refl
length-labels n o (entry f a ∷ es) = ap suc (length-labels (begun (kind_in f) n) (then-order (kind_in f) a n o) es)

snoc-cons : (pre : List ℕ) (x : ℕ) (l : List ℕ) → pre ++ x ∷ l ≡ (pre ++ (x ∷ [])) ++ l
snoc-cons pre x l = sym (append_assoc pre (x ∷ []) l)

length-snoc : (pre : List ℕ) (x : ℕ) → length (pre ++ (x ∷ [])) ≡ suc (length pre)
length-snoc pre x = omega (arith, length-append pre (x ∷ []))

module _ (ku kl m : ℕ) where
  -- the nodes of the row from the labels pre on
  nodes-back : {b : ℕ} {es : List Entry} → Legal ku kl b es → (n : ℕ) (o pre r : List ℕ) → Clear m n es → length o ≡ b → Walk m pre n o
      → r ≡ pre ++ labels n o es → tabulate (λ j. node_at r (length pre + j)) (length es) ≡ tagged r (length pre) n o es
  unfolding tabulate tagged nets begun_by
  nodes-back done n o pre r clear q w e = refl
  nodes-back (then {b} {f} {a} {es} h l) n o pre r clear q w e =
      let k : Kind = kind_in f in
      let g : a < last k (counted k (length o)) = rw q h.high in
      let x : ℕ = labelled k a n o in
      let o' : List ℕ = then-order k a n o in
      let rest : List ℕ = labels (begun k n) o' es in
      let first : node_at r (length pre + 0) ≡ node k (owner k (length pre) (before x r)) =
      ap (node_at r) (add-zero (length pre)) ∙ ap (λ s. node_at s (length pre)) e ∙ (there ku kl m {es = es} k a n o pre w g (rw q l) clear).is
      ∙ ap (λ s. node k (owner k (length pre) (before x s))) (sym e) in
      let more : tabulate (λ j. node_at r (length (pre ++ (x ∷ [])) + j)) (length es) ≡ tagged r (length (pre ++ (x ∷ []))) (begun k n) o' es =
      nodes-back l (begun k n) o' (pre ++ (x ∷ [])) r clear (length-then k a n o g ∙ ap (left k) q) (walk-next m k a pre n o w g) (e ∙ snoc-cons pre x rest) in
      ap₂ {C = List Node} (λ m ms. m ∷ ms) first
      (tabulate-cong (λ j. node_at r (length pre + suc j)) (λ j. node_at r (length (pre ++ (x ∷ [])) + j)) (length es)
      (λ j t. ap (node_at r) (omega (arith, length-snoc pre x)))
      ∙ more ∙ ap (λ i. tagged r i (begun k n) o' es) (length-snoc pre x))

  -- none of them is lone
  whole_back : {b : ℕ} {es : List Entry} → Legal ku kl b es → (n : ℕ) (o pre r : List ℕ) → Clear m n es → length o ≡ b → Walk m pre n o
      → r ≡ pre ++ labels n o es → (j : ℕ) → j < length es → lone r (length pre + j) ≡ false
  unfolding nets begun_by
  whole_back done n o pre r clear q w e j t = absurd (not-suc-le-zero t)
  whole_back (then {b} {f} {a} {es} h l) n o pre r clear q w e zero t =
      let k : Kind = kind_in f in
      let g : a < last k (counted k (length o)) = rw q h.high in
      ap₂ lone e (add-zero (length pre)) ∙ (there ku kl m {es = es} k a n o pre w g (rw q l) clear).not-lone
  whole_back (then {b} {f} {a} {es} h l) n o pre r clear q w e (suc j) t =
      let k : Kind = kind_in f in
      let g : a < last k (counted k (length o)) = rw q h.high in
      let x : ℕ = labelled k a n o in
      ap (lone r) (omega (arith, length-snoc pre x))
      ∙ whole_back l (begun k n) (then-order k a n o) (pre ++ (x ∷ [])) r clear (length-then k a n o g ∙ ap (left k) q) (walk-next m k a pre n o w g)
      (e ∙ snoc-cons pre x (labels (begun k n) (then-order k a n o) es)) j (le_of_suc-le-suc t)

-- ---- numbers in the order of first nodes

-- how many nets begin before node i
unfoldable pub firsts : List ℕ → ℕ → ℕ
firsts row zero = 0
firsts row (suc i) = begun (kind (node_at row i)) (firsts row i)

-- labels are m, m + 1, m + 2 in the order of the nets' first nodes
pub Numbered : ℕ → List ℕ → Type 0
Numbered m row = (i : ℕ) → i < length row → kind (node_at row i) ≡ B → get_or row i 0 ≡ m + firsts row i

begun-add : (k : Kind) (m n : ℕ) → begun k (m + n) ≡ m + begun k n
unfolding begun
begun-add B m n = omega arith
begun-add M m n = refl
begun-add E m n = refl
begun-add N m n = refl

begun_label : (k : Kind) (a n : ℕ) (o : List ℕ) → k ≡ B → labelled k a n o ≡ n
unfolding net_at label
begun_label k a n o e = rw e

module _ (ku kl m : ℕ) where
  numbered-back : {b : ℕ} {es : List Entry} → Legal ku kl b es → (n : ℕ) (o pre r : List ℕ) → Clear m n es → length o ≡ b → Walk m pre n o
      → r ≡ pre ++ labels n o es → n ≡ m + firsts r (length pre)
      → (j : ℕ) → j < length es → kind (node_at r (length pre + j)) ≡ B → get_or r (length pre + j) 0 ≡ m + firsts r (length pre + j)
  unfolding nets firsts begun_by kind
  numbered-back done n o pre r clear q w e c j t h = absurd (not-suc-le-zero t)
  numbered-back (then {b} {f} {a} {es} h l) n o pre r clear q w e c zero t hm =
      let k : Kind = kind_in f in
      let g : a < last k (counted k (length o)) = rw q h.high in
      let x : ℕ = labelled k a n o in
      let k≡ : kind (node_at r (length pre + 0)) ≡ k =
      ap₂ (λ s i. kind (node_at s i)) e (add-zero (length pre)) ∙ ap kind (there ku kl m {es = es} k a n o pre w g (rw q l) clear).is in
      ap₂ (λ s i. get_or s i 0) e (add-zero (length pre)) ∙ get_or-append_seam pre x (labels (begun k n) (then-order k a n o) es) 0
      ∙ begun_label k a n o (sym k≡ ∙ hm) ∙ c ∙ ap (λ i. m + firsts r i) (sym (add-zero (length pre)))
  numbered-back (then {b} {f} {a} {es} h l) n o pre r clear q w e c (suc j) t hm =
      let k : Kind = kind_in f in
      let g : a < last k (counted k (length o)) = rw q h.high in
      let x : ℕ = labelled k a n o in
      let i≡ : length pre + suc j ≡ length (pre ++ (x ∷ [])) + j = omega (arith, length-snoc pre x) in
      let k≡ : kind (node_at r (length pre)) ≡ k =
      ap (λ s. kind (node_at s (length pre))) e ∙ ap kind (there ku kl m {es = es} k a n o pre w g (rw q l) clear).is in
      let c' : begun k n ≡ m + firsts r (length (pre ++ (x ∷ []))) =
      ap₂ begun (sym k≡) c ∙ begun-add (kind (node_at r (length pre))) m (firsts r (length pre)) ∙ ap (λ i. m + firsts r i) (sym (length-snoc pre x)) in
      ap (λ i. get_or r i 0) i≡
      ∙ numbered-back l (begun k n) (then-order k a n o) (pre ++ (x ∷ [])) r clear (length-then k a n o g ∙ ap (left k) q) (walk-next m k a pre n o w g)
      (e ∙ snoc-cons pre x (labels (begun k n) (then-order k a n o) es)) c' j (le_of_suc-le-suc t) (ap (λ i. kind (node_at r i)) (sym i≡) ∙ hm)
      ∙ ap (λ i. m + firsts r i) (sym i≡)

-- ---- the placing

-- the positions of entries
unfoldable pub places : List Entry → List ℕ
places [] = []
places (entry f a ∷ es) = suc a ∷ places es

module _ (r : List ℕ) where
  -- a label's first node in r
  at_home : ℕ → ℕ
  at_home x = before x r

  -- the street rules at a legal entry, its nets known by their first nodes
  touched : (a : ℕ) (o : List ℕ) → ((x : ℕ) → times x o ≤ 1) → ((x : ℕ) → 0 < times x o → 0 < times x r) → a < length o
      → T (eqb (suc a) (suc (before (at_home (get_or o a 0)) (map at_home o))))
  unfolding at_home
  touched a o once seen h =
      let x : ℕ = get_or o a 0 in
      let e : before (at_home x) (map at_home o) ≡ a =
      before-map at_home x (home-only r x (rw append-nil at (before-in x r [] (seen x (times-at o a h))))) o ∙ before-once o once a h in
      rw e (eqb_refl (suc a))

  stands-back : (k : Kind) (i a n : ℕ) (o : List ℕ) → ((x : ℕ) → times x o ≤ 1) → ((x : ℕ) → 0 < times x o → 0 < times x r) → a < last k (counted k (length o))
      → T (stands (node k (owner k i (at_home (labelled k a n o)))) (map at_home o) (suc a))
  unfolding stands net_at label last counted owner
  stands-back B i a n o once seen h = tt
  stands-back M i a n o once seen h = touched a o once seen h
  stands-back E i a n o once seen h = touched a o once seen h
  stands-back N i a n o once seen h = tt

  next-back : (k : Kind) (i a n : ℕ) (o : List ℕ)
      → next (node k (owner k i (at_home (labelled k a n o)))) (map at_home o) (suc a) ≡ map at_home (then-order k a n o)
  unfolding next net_at label owner
  next-back B i a n o = put_map at_home (suc a - 1) n o
  next-back M i a n o = refl
  next-back E i a n o = cut-map at_home (suc a - 1) o
  next-back N i a n o = refl

module _ (ku kl m : ℕ) where
  -- the entries' positions are a placing of the row's nodes
  run-back : {b : ℕ} {es : List Entry} → Legal ku kl b es → (i n : ℕ) (o pre r : List ℕ) → length o ≡ b → Walk m pre n o → r ≡ pre ++ labels n o es
      → Leads empty ku kl (tagged r i n o es) (map (at_home r) o) (places es)
  unfolding tagged places nets at_home run empty kind
  run-back done i n [] pre r q w e = tt
  run-back done i n (x ∷ o) pre r q w e = absurd (omega arith)
  run-back (then {b} {f} {a} {es} h l) i n o pre r q w e =
      let k : Kind = kind_in f in
      let g : a < last k (counted k (length o)) = rw q h.high in
      let x : ℕ = labelled k a n o in
      let o' : List ℕ = then-order k a n o in
      let seen : (y : ℕ) → 0 < times y o → 0 < times y r =
      λ y t. rw (e, times-append y pre (x ∷ labels (begun k n) o' es)) (omega (arith, w.seen y t)) in
      onward-leads empty ku kl (node k (owner k i (at_home r x))) (tagged r (suc i) (begun k n) o' es) (map (at_home r) o) (suc a) (places es)
      (record {
        stood = stands-back r k i a n o w.once seen g;
        fitted = rw (length-map o (at_home r), q) h;
        rest = rw (next-back r k i a n o) (run-back l (suc i) (begun k n) o' (pre ++ (x ∷ [])) r (length-then k a n o g ∙ ap (left k) q)
            (walk-next m k a pre n o w g) (e ∙ snoc-cons pre x (labels (begun k n) o' es)));
      })

unfoldable pub entry_kind : Entry → Kind
entry_kind (entry f a) = kind_in f

tagged-kinds : (r : List ℕ) (i n : ℕ) (o : List ℕ) (es : List Entry) → map kind (tagged r i n o es) ≡ map entry_kind es
unfolding tagged kind entry_kind
tagged-kinds r i n o [] = refl
tagged-kinds r i n o (entry f a ∷ es) = ap {B = List Kind} (λ l. kind_in f ∷ l) (tagged-kinds r (suc i) (begun (kind_in f) n) (then-order (kind_in f) a n o) es)

-- what holds of the row given back from entries, its nets numbered from m on
pub record Back (ku kl m : ℕ) (es : List Entry) (row : List ℕ) : Type 0 where
  pub count : length row ≡ length es
  pub whole : (i : ℕ) → i < length row → lone row i ≡ false
  pub kinds : map kind (nodes row) ≡ map entry_kind es
  pub placing : Placing ku kl (nodes row) (places es)
  pub numbered : Numbered m row

pub no_walk : (m : ℕ) → Walk m [] m []
unfolding times
no_walk m =
    record {
      once = λ x. omega arith;
      seen = λ x t. t;
      from = omega arith;
      high = λ x t. absurd (omega arith);
      low = λ x t. absurd (omega arith);
      fresh = λ x h l. refl;
    }

module _ (ku kl m : ℕ) {es : List Entry} (legal : Legal ku kl 0 es) (clear : Clear m m es) where
  abbrev given : List ℕ
  given = labels m [] es

  nodes-given : nodes given ≡ tagged given 0 m [] es
  unfolding nodes
  nodes-given =
      ap (tabulate (node_at given)) (length-labels m [] es)
      ∙ tabulate-cong (node_at given) (λ j. node_at given (0 + j)) (length es) (λ j t. ap (node_at given) (sym (zero-add j)))
      ∙ nodes-back ku kl m legal m [] [] given clear refl (no_walk m) refl

  -- the row given back has the entries' kinds, no lone label, and their positions for a placing
  pub given_back : Back ku kl m es given
  unfolding Numbered firsts
  given_back =
      record {
        count = length-labels m [] es;
        whole = λ i h. ap (lone given) (sym (zero-add i)) ∙ whole_back ku kl m legal m [] [] given clear refl (no_walk m) refl i (rw (← length-labels m [] es) h);
        kinds = ap (map kind) nodes-given ∙ tagged-kinds given 0 m [] es;
        placing = rw nodes-given placed;
        numbered = numbers;
      }
    where
      numbers : Numbered m given
      numbers i h e =
          ap (λ k. get_or given k 0) (sym (zero-add i))
          ∙ numbered-back ku kl m legal m [] [] given clear refl (no_walk m) refl (omega arith) i (rw (← length-labels m [] es) h)
          (ap (λ k. kind (node_at given k)) (zero-add i) ∙ e)
          ∙ ap (λ k. m + firsts given k) (zero-add i)

      placed : Placing ku kl (tagged given 0 m [] es) (places es)
      placed = ends-empty (run ku kl (tagged given 0 m [] es) [] (places es)) (run-back ku kl m legal 0 m [] [] given refl (no_walk m) refl)
