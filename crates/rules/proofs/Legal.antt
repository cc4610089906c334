-- Entries pass the judgement exactly when they are those of a placing: their kinds and positions meet every rule, from no open net to none.
use mathlib.Core.Path.{◌≡◌, refl, sym, ap, ap₂, ◌∙◌}
use mathlib.Core.Bool.{Bool, true, false}
use mathlib.Core.List.{List, [], ◌∷◌, map, tail}
use mathlib.Core.Option.{Option, none, some}
use Prim.Native.Nat.{ℕ, zero, suc, ◌-◌, ◌≤◌, ◌<◌}
use native.Mathlib.Omega.{arith}
use lib.ListN.{length, get_or}
use lib.Dec.{T, eqb, leb, eqb→eq}
use borrow.Author.Tests.{leb-false, lt-leb}
use Rattle.std.specs.declared.option.Option.TheVariants.{None, Some}
use Rattle.rules.specs.Limits.{Broken}
use Rattle.rules.specs.declared.Limit.TheVariants.{Upper, Lower, Sum}
use Rattle.rules.specs.declared.Fault.{Fault}
use Rattle.rules.specs.declared.Fault.TheVariants.{Position}
use Rattle.rules.specs.Basic.{keep, or_else}
use Rattle.rules.specs.declared.Kind.{Kind}
use Rattle.rules.specs.declared.Kind.TheVariants.{B, M, E, N}
use Rattle.rules.specs.Row.{before, Node, node}
use Rattle.rules.specs.Street.{last, limits_at, counted, stands, next, kind, run}
use Rattle.rules.specs.Sheet.{code, kind_in, Entry, entry, entries}
use Rattle.rules.specs.Judgement.{broken, fault_at, left, scan, left_open}
use Rattle.rules.proofs.Lists.{length-put, length_cut}
use Rattle.rules.proofs.Fits.{FitsAt, met_at, at-met}
use Rattle.rules.proofs.Open.{onto}
use Rattle.rules.proofs.Pins.{at_before}

-- after a node no more nets are open than at it
pub left_le : (k : Kind) (b : ℕ) → left k b ≤ counted k b
unfolding left counted
left_le B b = omega arith
left_le M b = omega arith
left_le E b = omega arith
left_le N b = omega arith

-- entries from b open nets on: each has a position that fits, and none is open after the last
pub data Legal (ku kl : ℕ) : ℕ → List Entry → Type 0 where
  done : Legal ku kl 0 []
  then : {b f a : ℕ} {es : List Entry} → FitsAt (kind_in f) ku kl (suc a) (counted (kind_in f) b) → Legal ku kl (left (kind_in f) b) es
      → Legal ku kl b (entry f a ∷ es)

module _ (ku kl : ℕ) where
  -- what the tests at one node find
  pub clear-fits : (i b f a : ℕ) → fault_at ku kl i b (entry f a) ≡ none → FitsAt (kind_in f) ku kl (suc a) (counted (kind_in f) b)
  unfolding fault_at or_else keep broken
  clear-fits i b f a = go (leb (last k c) a) (limits_at k ku kl (suc a) c) refl refl
    where
      k : Kind
      k = kind_in f

      c : ℕ
      c = counted k b

      go : (p : Bool) (l : Broken) → leb (last k c) a ≡ p → limits_at k ku kl (suc a) c ≡ l
          → or_else (keep p (Position i)) (broken l i) ≡ none → FitsAt k ku kl (suc a) c
      go true l ep el e = let z : ◌≡◌ {A = ℕ} 0 1 = cc in absurd (omega arith)
      go false None ep el e = omega (arith, leb-false (last k c) a ep, met_at ku kl (suc a) c k (omega arith) el)
      go false (Some Upper) ep el e = let z : ◌≡◌ {A = ℕ} 0 1 = cc in absurd (omega arith)
      go false (Some Lower) ep el e = let z : ◌≡◌ {A = ℕ} 0 1 = cc in absurd (omega arith)
      go false (Some Sum) ep el e = let z : ◌≡◌ {A = ℕ} 0 1 = cc in absurd (omega arith)

  pub fits-clear : (i b f a : ℕ) → FitsAt (kind_in f) ku kl (suc a) (counted (kind_in f) b) → fault_at ku kl i b (entry f a) ≡ none
  unfolding fault_at or_else keep broken
  fits-clear i b f a h =
      rw (lt-leb (last (kind_in f) (counted (kind_in f) b)) a h.high, at-met ku kl (suc a) (counted (kind_in f) b) (kind_in f) h)

  pub scan-legal : (i b : ℕ) (es : List Entry) → scan ku kl i b es ≡ none → left_open b es ≡ 0 → Legal ku kl b es
  unfolding scan left_open or_else
  scan-legal i b [] e o = rw o done
  scan-legal i b (entry f a ∷ es) e o = go (fault_at ku kl i b (entry f a)) refl e (λ r. scan-legal (suc i) (left (kind_in f) b) es r o)
    where
      go : (x : Option Fault) → fault_at ku kl i b (entry f a) ≡ x → or_else x (scan ku kl (suc i) (left (kind_in f) b) es) ≡ none
          → (scan ku kl (suc i) (left (kind_in f) b) es ≡ none → Legal ku kl (left (kind_in f) b) es) → Legal ku kl b (entry f a ∷ es)
      go none ex e ih = then (clear-fits i b f a ex) (ih e)
      go (some x) ex e ih = let z : ◌≡◌ {A = ℕ} 0 1 = cc in absurd (omega arith)

  pub legal-scan : (i : ℕ) {b : ℕ} {es : List Entry} → Legal ku kl b es → scan ku kl i b es ≡ none
  unfolding scan or_else
  legal-scan i done = refl
  legal-scan i (then {b} {f} {a} h l) = rw (fits-clear i b f a h) (legal-scan (suc i) l)

  pub legal-open : {b : ℕ} {es : List Entry} → Legal ku kl b es → left_open b es ≡ 0
  unfolding left_open
  legal-open done = refl
  legal-open (then h l) = legal-open l

pub kind_in-code : (k : Kind) → kind_in (code k) ≡ k
unfolding kind_in code
kind_in-code B = refl
kind_in-code M = refl
kind_in-code E = refl
kind_in-code N = refl

pub code_lt : (k : Kind) → code k < 4
unfolding code
code_lt B = omega arith
code_lt M = omega arith
code_lt E = omega arith
code_lt N = omega arith

pub code-kind_in : (f : ℕ) → f < 4 → code (kind_in f) ≡ f
unfolding kind_in code
code-kind_in zero h = refl
code-kind_in (suc zero) h = refl
code-kind_in (suc (suc zero)) h = refl
code-kind_in (suc (suc (suc zero))) h = refl
code-kind_in (suc (suc (suc (suc f)))) h = absurd (omega arith)

-- the count after a node is that of the order after it
pub length-next : (n : Node) (o : List ℕ) (p : ℕ) → 1 ≤ p → p ≤ last (kind n) (counted (kind n) (length o)) → length (next n o p) ≡ left (kind n) (length o)
unfolding next kind left last counted
length-next (node B x) o p l h = length-put (p - 1) x o
length-next (node M x) o p l h = refl
length-next (node E x) o p l h = omega (arith, length_cut (p - 1) o (omega arith))
length-next (node N x) o p l h = refl

module _ (ku kl : ℕ) where
  -- the entries of a placing pass
  pub placing-legal : (ns : List Node) (o ps : List ℕ) → run ku kl ns o ps ≡ some [] → Legal ku kl (length o) (entries ns ps)
  unfolding run entries
  placing-legal [] o [] e = let z : o ≡ [] = cc in rw z done
  placing-legal [] o (p ∷ ps) e = let z : ◌≡◌ {A = ℕ} 0 1 = cc in absurd (omega arith)
  placing-legal (n ∷ ns) o [] e = let z : ◌≡◌ {A = ℕ} 0 1 = cc in absurd (omega arith)
  placing-legal (n ∷ ns) o (p ∷ ps) e =
      let a = onto ku kl n ns o p ps [] e in
      let k : kind_in (code (kind n)) ≡ kind n = kind_in-code (kind n) in
      let p≡ : suc (p - 1) ≡ p = omega (arith, a.fitted.low) in
      then {b = length o} {f = code (kind n)} {a = p - 1} {es = entries ns ps}
      (rw (k, p≡) a.fitted)
      (rw (k, ← length-next n o p a.fitted.low a.fitted.high) (placing-legal ns (next n o p) ps a.rest))

-- a node that is of no net in the order: a new net's first, or a blank
abbrev pub New : Kind → Type 0
New B = Unit {0}
New M = ⊥
New E = ⊥
New N = Unit {0}

-- each B and each blank of the nodes from i on has its own number
pub data Own : ℕ → List Node → Type 0 where
  nil : {i : ℕ} → Own i []
  cons : {i x : ℕ} {k : Kind} {ns : List Node} → (New k → x ≡ i) → Own (suc i) ns → Own i (node k x ∷ ns)

module _ (ku kl : ℕ) where
  stood-at : (x p : ℕ) (o : List ℕ) → T (eqb p (suc (before x o))) → p ≤ length o → x ≡ get_or o (p - 1) 0
  stood-at x p o t h =
      let e : p ≡ suc (before x o) = eqb→eq p (suc (before x o)) t in
      let k : p - 1 ≡ before x o = omega arith in
      rw k (sym (at_before x o (omega arith)))

  -- a net that stands at p is the same whatever node touches it there, and a new one has its own number
  same-net : (i : ℕ) (k : Kind) (x y p : ℕ) (o : List ℕ) → (New k → x ≡ i) → (New k → y ≡ i) → T (stands (node k x) o p) → T (stands (node k y) o p)
      → p ≤ last k (counted k (length o)) → x ≡ y
  unfolding stands last counted
  same-net i B x y p o hx hy sx sy h = hx tt ∙ sym (hy tt)
  same-net i M x y p o hx hy sx sy h = stood-at x p o sx h ∙ sym (stood-at y p o sy h)
  same-net i E x y p o hx hy sx sy h = stood-at x p o sx h ∙ sym (stood-at y p o sy h)
  same-net i N x y p o hx hy sx sy h = hx tt ∙ sym (hy tt)

  -- nodes with the same kinds and positions are the same
  pub same_entries : {i : ℕ} {ns ms : List Node} → Own i ns → Own i ms → (o ps v w : List ℕ)
      → run ku kl ns o ps ≡ some v → run ku kl ms o ps ≡ some w → map kind ns ≡ map kind ms → ns ≡ ms
  unfolding run kind
  same_entries nil nil o ps v w e e' k = refl
  same_entries nil (cons h b) o ps v w e e' k = let z : ◌≡◌ {A = ℕ} 0 1 = cc in absurd (omega arith)
  same_entries (cons h a) nil o ps v w e e' k = let z : ◌≡◌ {A = ℕ} 0 1 = cc in absurd (omega arith)
  same_entries (cons h a) (cons h' b) o [] v w e e' k = let z : ◌≡◌ {A = ℕ} 0 1 = cc in absurd (omega arith)
  same_entries (cons {i} {x} {k = k} {ns} h a) (cons {x = y} {k = l} {ns = ms} h' b) o (p ∷ ps) v w e e' q =
      let k≡ : l ≡ k = cc in
      let s = onto ku kl (node k x) ns o p ps v e in
      let t = onto ku kl (node l y) ms o p ps w e' in
      let x≡ : x ≡ y = same-net i k x y p o h (λ r. h' (rw k≡ r)) s.stood (rw k≡ at t.stood) s.fitted.high in
      let n≡ : node k x ≡ node l y = cc in
      ap₂ {C = List Node} (λ n r. n ∷ r) n≡
      (same_entries a b (next (node k x) o p) ps v w s.rest (rw (← n≡) at t.rest) (ap tail q))
