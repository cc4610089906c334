-- What one node of the last pass does: a new net enters at the least place whose rank is marked, a touched one stands where the order and the rank have it, and a blank leaves the
-- order as it is.
use mathlib.Core.Path.{◌≡◌, refl, sym, ap, ◌∙◌}
use mathlib.Core.List.{List}
use Prim.Native.Nat.{ℕ, suc, ◌-◌, ◌<◌}
use native.Mathlib.Omega.{arith}
use Rattle.rules.specs.Basic.{put, cut}
use Rattle.rules.specs.Row.{before}
use Rattle.rules.specs.Street.{next}
use Rattle.std.specs.Prelude.{IsTrue, length}
use Rattle.rules.specs.declared.Kind.TheVariants.{B, M, E, N}
use Rattle.street.specs.Order.{capacity}
use Rattle.steps.specs.declared.plan.Stop.{Stop}
use Rattle.steps.specs.Plan.{turn_kind, turn_age, touches}
use Rattle.steps.specs.Ranks.{at_of, less_of}
use Rattle.steps.specs.Sets.{marked}
use Rattle.orders.specs.Passes.{Entry}
use Rattle.steps.specs.Leading.{Least}
use Rattle.orders.proofs.Staying.{after-touch, after-end, leads-at, stays, rests}
use Rattle.orders.proofs.Entering.{enters}
use Rattle.router.specs.Walk.{Standing, Stood}

less : (p : ℕ) → suc p - 1 ≡ p
less p = omega arith

module _ (held : List ℕ) (t : Stop) (work : List ℕ) (g r x : ℕ) (w : Standing held t work g r x) where
  -- a new net
  module _ (begins : turn_kind t.step.turn ≡ B) (p y : ℕ) (e : Entry (marked work g) t.step.count r p y) where
    entered : Least t work g r p y
    entered = enters t work g r w.stop begins w.rank w.led p y e

    pub entered-room : (length held < capacity) × (p < suc (length held))
    entered-room = let o = (w.placed p y entered.lands.lands).opens begins in (o.0, omega (arith, o.1))

    pub entered-stood : (after : List ℕ) → after ≡ put p x held → Stood held t work g r x p y after
    unfolding next
    entered-stood after l =
        record { least = entered; list = rw begins (l ∙ ap (λ (k : ℕ). put k x held) (sym (less p))) }

  -- a touched net
  module _ (touched : IsTrue (touches (turn_kind t.step.turn))) where
    stands : (w.onward.leads.at ≡ before x held) × (w.onward.leads.at < length held)
    stands = (w.placed w.onward.leads.at w.onward.next w.onward.leads.lands).stands touched

    pub touched-open : before x held < length held
    touched-open = omega (arith, stands.0, stands.1)

    -- the rank has the net where the order has it
    pub located-found : {p : ℕ} → p ≡ at_of (turn_age t.step.turn) t.step.count r → p ≡ before x held
    located-found e = e ∙ sym (leads-at t work g r w.stop touched w.rank w.onward) ∙ stands.0

    pub located-within : {p : ℕ} → p ≡ at_of (turn_age t.step.turn) t.step.count r → p < length held
    located-within e = omega (arith, located-found e, touched-open)

    module _ (p : ℕ) (found : p ≡ before x held) where
      at-found : p ≡ w.onward.leads.at
      at-found = found ∙ sym stands.0

      pub met-stood : turn_kind t.step.turn ≡ M → Stood held t work g r x p r held
      unfolding next
      met-stood e =
          record {
            least = stays t work g r w.stop touched w.rank w.onward p r at-found (after-touch (turn_kind t.step.turn) (turn_age t.step.turn) t.step.count r e);
            list = rw e;
          }

      pub ended-stood : turn_kind t.step.turn ≡ E → (y : ℕ) → y ≡ less_of (turn_age t.step.turn) t.step.count r → (after : List ℕ) → after ≡ cut p held → Stood held t work g r x p y after
      unfolding next
      ended-stood e y l after c =
          record {
            least = stays t work g r w.stop touched w.rank w.onward p y at-found
                (l ∙ after-end (turn_kind t.step.turn) (turn_age t.step.turn) t.step.count r e);
            list = rw e (c ∙ ap (λ (k : ℕ). cut k held) (sym (less p)));
          }

  -- a blank
  pub rested-stood : turn_kind t.step.turn ≡ N → (p : ℕ) → p ≡ t.step.count - t.streets.lower → Stood held t work g r x p r held
  unfolding next
  rested-stood h p e = record { least = rests t work g r w.stop h w.onward p e; list = rw h refl }
