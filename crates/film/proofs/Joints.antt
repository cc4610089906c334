-- What is drawn at a node, by its kind: the stub, the last run, and the wires after it; at a blank nothing.
use mathlib.Core.Path.{◌≡◌, sym, ap, ap₂, ◌∙◌}
use mathlib.Core.List.{List, [], ◌∷◌}
use Prim.Native.Nat.{ℕ, suc, ◌+◌, ◌≤◌, ◌<◌, min, max}
use native.Mathlib.Numerals.{add-one}
use native.Mathlib.Omega.{arith}
use lib.ListN.{length, get_or}
use Rattle.std.proofs.lemmas.List.{get_or_default}
use Rattle.rules.specs.Basic.{put}
use Rattle.rules.specs.declared.Kind.TheVariants.{B, M, E, N}
use Rattle.rules.specs.Street.{last, counted}
use Rattle.rules.specs.Sheet.{begun}
use Rattle.rules.specs.Judgement.{left}
use Rattle.rules.specs.Film.{axis, height_at, across, upright, rec_bits, Wire, ran, wall, opened, closed, marks}
use Rattle.rules.proofs.Lists.{length-put, length_cut, get_or-put}
use Rattle.slots.specs.Stamps.{stamp}
use Rattle.film.specs.declared.moves.Plotter.{Plotter}
use Rattle.film.specs.declared.node.Node.{Node}
use Rattle.film.specs.Stamps.{laid}
use Rattle.film.specs.Wires.{missing, wire_at}
use Rattle.film.specs.Moves.{SameFilm}
use Rattle.film.specs.Nodes.{Joinable, Joined, Open, Stubbed, Ended, Skipped}

-- ---- the records of a wire

pub stub-drawn : (film f₁ : List ℕ) (d x : ℕ) {a : ℕ} {v w : Wire} → a ≡ axis → v ≡ w
    → f₁ ≡ stamp film d (rec_bits (upright v.net (min a v.height) x (max a v.height))) → f₁ ≡ laid film d (wall x axis w ∷ [])
unfolding laid wall
stub-drawn film f₁ d x p e q = rw (← e, ← p) q

-- the last run after the stub
pub end-drawn : (film f₁ f₂ : List ℕ) (d d' x : ℕ) {v w : Wire} → v ≡ w → d' ≡ d + 1 → f₁ ≡ laid film d (wall x axis w ∷ [])
    → f₂ ≡ stamp f₁ d' (rec_bits (across v.net v.height v.since x)) → f₂ ≡ laid film d (wall x axis w ∷ ran x w ∷ [])
unfolding laid ran
end-drawn film f₁ f₂ d d' x {v} {w} e n p q =
    q ∙ ap₂ (λ (f : List ℕ) (i : ℕ). stamp f i (rec_bits (across v.net v.height v.since x))) p (n ∙ add-one d)
    ∙ ap (λ (u : Wire). stamp (laid film d (wall x axis w ∷ [])) (suc d) (rec_bits (across u.net u.height u.since x))) e

-- ---- a node

module _ (n : Node) (x : ℕ) (p : Plotter) (j : Joinable p.pen n x) where
  -- at a B: room for a wire with a level and a number
  pub begins-few : n.kind ≡ B → (length p.pen.wires < 6) × (n.above ≤ length p.pen.wires) × (p.pen.begun < 256)
  unfolding last counted begun
  begins-few e =
      let stands = rw e at j.stands in
      let few = rw e at j.few in
      let small = rw e at j.small in
      omega arith

  pub begins-near : n.kind ≡ B → n.above + 1 ≤ n.upper + 3
  unfolding last
  begins-near e = let stands = rw e at j.stands in let deep = rw e at j.fitting.deep in omega arith

  pub goes-on-open : n.kind ≡ M → Open p.pen n.above x
  unfolding last counted
  goes-on-open e = record { stands = rw e at j.stands; column = j.column; room = j.room }

  pub ends_open : n.kind ≡ E → Open p.pen n.above x
  unfolding last counted
  ends_open e = record { stands = rw e at j.stands; column = j.column; room = j.room }

  abbrev fresh : Wire
  fresh = record { net = p.pen.begun; height = height_at n.upper (suc n.above); since = x }

  -- what stands in a list is the same whatever stands past its end
  same_wire : n.above < length p.pen.wires → wire_at p.pen.wires n.above ≡ get_or p.pen.wires n.above (record { net = p.pen.begun; height = axis; since = x })
  same_wire h = get_or_default p.pen.wires n.above missing (record { net = p.pen.begun; height = axis; since = x }) h

  module _ (r : Plotter) where
    pub joined-begins : n.kind ≡ B → (q : Plotter) → q.pen.wires ≡ put n.above fresh p.pen.wires → SameFilm p q → q.film.now ≡ p.film.now → q.pen.drawn ≡ p.pen.drawn → q.pen.begun ≡ suc p.pen.begun
        → Stubbed n.above x q r → Joined n x p r
    unfolding left opened closed marks begun
    joined-begins e q l lent film drawn more s =
        let long : n.above ≤ length p.pen.wires = omega (arith, begins-few e) in
        let its : wire_at q.pen.wires n.above ≡ fresh = ap (λ (v : List Wire). get_or v n.above missing) l ∙ get_or-put n.above fresh missing p.pen.wires long in
        let self : get_or (put n.above fresh p.pen.wires) n.above (record { net = p.pen.begun; height = axis; since = x }) ≡ fresh =
        get_or-put n.above fresh (record { net = p.pen.begun; height = axis; since = x }) p.pen.wires long in
        record {
          same = s.same ∙ lent;
          nets = rw e (s.nets ∙ more);
          count = rw e (ap (λ (v : List Wire). length v) (s.wires ∙ l) ∙ length-put n.above fresh p.pen.wires);
          list = rw e (s.wires ∙ l);
          column = s.column;
          records = rw e (s.records ∙ ap (λ (d : ℕ). d + 1) drawn);
          bytes =
              rw e
              (s.bytes ∙ ap₂ (λ (f : List ℕ) (d : ℕ). laid f d (wall x axis (wire_at q.pen.wires n.above) ∷ [])) film drawn
              ∙ ap (λ (v : Wire). laid p.film.now p.pen.drawn (wall x axis v ∷ [])) (its ∙ sym self));
        }

    pub joined-goes-on : n.kind ≡ M → Stubbed n.above x p r → Joined n x p r
    unfolding left opened closed marks begun
    joined-goes-on e s =
        let o = goes-on-open e in
        record {
          same = s.same;
          nets = rw e s.nets;
          count = rw e (ap (λ (v : List Wire). length v) s.wires);
          list = rw e s.wires;
          column = s.column;
          records = rw e s.records;
          bytes = rw e (s.bytes ∙ ap (λ (v : Wire). laid p.film.now p.pen.drawn (wall x axis v ∷ [])) (same_wire o.stands));
        }

    pub joined-ends : n.kind ≡ E → Ended n.above x p r → Joined n x p r
    unfolding left opened closed marks begun
    joined-ends e s =
        let o = ends_open e in
        let fewer = ap (λ (v : List Wire). length v) s.wires in
        record {
          same = s.same;
          nets = rw e s.nets;
          count = rw e (omega (arith, fewer, length_cut n.above p.pen.wires o.stands));
          list = rw e s.wires;
          column = s.column;
          records = rw e s.records;
          bytes = rw e (s.bytes ∙ ap (λ (v : Wire). laid p.film.now p.pen.drawn (wall x axis v ∷ ran x v ∷ [])) (same_wire o.stands));
        }

    pub joined-blank : n.kind ≡ N → Skipped x p r → Joined n x p r
    unfolding left opened closed marks begun laid
    joined-blank e s =
        record {
          same = s.same;
          nets = rw e s.nets;
          count = rw e (ap (λ (v : List Wire). length v) s.wires);
          list = rw e s.wires;
          column = s.column;
          records = rw e (omega (arith, s.records));
          bytes = rw e s.bytes;
        }
