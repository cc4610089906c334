-- A touched net has one position: where a node leads on, it is there. At a blank the least position has as few wires above as can be.
use mathlib.Core.Path.{◌≡◌, refl, sym, ap, ◌∙◌, subst}
use mathlib.Core.Bool.{Bool, true, false, ◌&&◌}
use mathlib.Core.List.{List}
use mathlib.Core.Option.{none, some}
use Prim.Native.Nat.{ℕ, suc, ◌-◌, ◌<◌}
use native.Mathlib.Omega.{arith}
use Rattle.std.specs.Prelude.{IsTrue}
use lib.Dec.{eqb}
use borrow.Author.Tests.{eqb-true, eqb-false, ne_eqb}
use Rattle.rules.specs.Basic.{keep}
use Rattle.rules.specs.declared.Kind.{Kind}
use Rattle.rules.specs.declared.Kind.TheVariants.{B, M, E, N}
use Rattle.rules.specs.Street.{fits}
use Rattle.rules.proofs.Fits.{FitsAt}
use Rattle.rules.proofs.Choices.{lowest-fits, lowest-least}
use Rattle.steps.specs.declared.plan.Stop.{Stop}
use Rattle.steps.specs.Plan.{turn_kind, turn_age, touches}
use Rattle.steps.specs.Ranks.{fact, at_of, less_of, hop_by}
use Rattle.steps.specs.Sets.{marked}
use Rattle.steps.specs.Stops.{hop_at, Sound}
use Rattle.steps.specs.Leading.{Onward, Misses, Least}
use Rattle.steps.proofs.Hops.{of-true, kept, hop-rests, hop-rested, hop-still, stop-lands, none-some}

-- the rank after a node that touches a net
abbrev pub after : Kind → (a b r : ℕ) → ℕ
after B a b r = r
after M a b r = r
after E a b r = less_of a b r
after N a b r = r

pub after-touch : (k : Kind) (a b r : ℕ) → k ≡ M → r ≡ after k a b r
after-touch k a b r e = rw e

pub after-end : (k : Kind) (a b r : ℕ) → k ≡ E → less_of a b r ≡ after k a b r
after-end k a b r e = rw e

module _ (t : Stop) (s : List ℕ) (g r : ℕ) (sound : Sound t) (touched : IsTrue (touches (turn_kind t.step.turn))) (low : r < fact t.step.count) where
  place : ℕ
  place = at_of (turn_age t.step.turn) t.step.count r

  next : ℕ
  next = after (turn_kind t.step.turn) (turn_age t.step.turn) t.step.count r

  hops-there : (p : ℕ) → hop_at t r p ≡ keep (eqb p place && fits t.streets.upper t.streets.lower (suc p) t.step.count) next
  unfolding hop_by place next
  hops-there p = go (turn_kind t.step.turn) touched
    where
      go : (k : Kind) → IsTrue (touches k)
          → hop_by t.streets.upper t.streets.lower k (turn_age t.step.turn) t.step.count r p
          ≡ keep (eqb p (at_of (turn_age t.step.turn) t.step.count r) && fits t.streets.upper t.streets.lower (suc p) t.step.count) (after k (turn_age t.step.turn) t.step.count r)
      go B h = absurd (of-true h)
      go M h = refl
      go E h = refl
      go N h = absurd (of-true h)

  elsewhere : (q : ℕ) → (q ≡ place → ⊥) → Misses t s g r q
  unfolding keep
  elsewhere q h x e k = let z : hop_at t r q ≡ none = hops-there q ∙ rw (ne_eqb q place h) in none-some z e

  -- the position that leads on is the net's one
  pub leads-at : (o : Onward t s g r) → o.leads.at ≡ at_of (turn_age t.step.turn) t.step.count r
  unfolding place
  leads-at o = go (eqb o.leads.at place) refl
    where
      go : (v : Bool) → eqb o.leads.at place ≡ v → o.leads.at ≡ place
      go true d = eqb-true o.leads.at place d
      go false d = absurd (elsewhere o.leads.at (eqb-false o.leads.at place d) o.next o.leads.lands o.kept)

  -- and the least
  pub stays : (o : Onward t s g r) (p x : ℕ) → p ≡ o.leads.at → x ≡ after (turn_kind t.step.turn) (turn_age t.step.turn) t.step.count r → Least t s g r p x
  unfolding place next
  stays o p x ep ex = at_place (eqb p place) refl
    where
      e : hop_at t r p ≡ some o.next
      e = subst (λ i. hop_at t r i ≡ some o.next) (sym ep) o.leads.lands

      at_place : (v : Bool) → eqb p place ≡ v → Least t s g r p x
      at_place true d =
          let q : p ≡ place = eqb-true p place d in
          let n : x ≡ o.next =
          ex ∙ (kept (eqb p place && fits t.streets.upper t.streets.lower (suc p) t.step.count) next o.next (sym (hops-there p) ∙ e)).1 in
          let h : hop_at t r p ≡ some x = e ∙ ap some (sym n) in
          record {
            low = (stop-lands t r p x sound low h).0;
            lands = record { lands = h; within = (stop-lands t r p x sound low h).1; kept = ap (marked s g) n ∙ o.kept };
            first = λ j l. elsewhere j (λ z. omega (arith, z, q, l));
          }
      at_place false d = absurd (elsewhere p (eqb-false p place d) o.next e o.kept)

-- at a blank, where the order stays, the least position is with as few wires above as the lower street allows
pub rests : (t : Stop) (s : List ℕ) (g r : ℕ) → Sound t → turn_kind t.step.turn ≡ N → Onward t s g r → (p : ℕ) → p ≡ t.step.count - t.streets.lower → Least t s g r p r
rests t s g r sound blank o p ep =
    let f = hop-rested t.streets.upper t.streets.lower (turn_kind t.step.turn) (turn_age t.step.turn) t.step.count r o.leads.at o.next blank o.leads.lands in
    let e = hop-still t.streets.upper t.streets.lower (turn_kind t.step.turn) (turn_age t.step.turn) t.step.count r o.leads.at o.next (rw blank refl) o.leads.lands in
    let h : FitsAt N t.streets.upper t.streets.lower (suc p) t.step.count = rw ep (lowest-fits t.streets.upper t.streets.lower t.step.count f.sum) in
    record {
      low = omega (arith, h.upper, t.streets.upper_few);
      lands = record {
        lands = hop-rests t.streets.upper t.streets.lower (turn_kind t.step.turn) (turn_age t.step.turn) t.step.count r p blank h;
        within = omega (arith, e, o.within);
        kept = ap (marked s g) e ∙ o.kept;
      };
      first = λ q l x d m. omega (arith, ep, l, lowest-least (hop-rested t.streets.upper t.streets.lower (turn_kind t.step.turn) (turn_age t.step.turn) t.step.count r q x blank d));
    }
