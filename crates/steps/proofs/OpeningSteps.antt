-- What the words of an opening say is what the transition on ranks says.
use mathlib.Core.Path.{◌≡◌, refl, sym, ap, ◌∙◌}
use mathlib.Core.Bool.{Bool, true, false}
use mathlib.Core.List.{List}
use mathlib.Core.Option.{some}
use Prim.Native.Nat.{ℕ, suc, ◌+◌, ◌*◌, ◌/◌, ◌%◌, ◌≤◌, ◌<◌}
use native.Mathlib.Nat.{mod-lt, div-add-mod', mul-add-mod_self_right, mod-eq_of_lt}
use native.Mathlib.Omega.{arith}
use Rattle.rules.specs.declared.Kind.TheVariants.{B}
use Rattle.rules.specs.Street.{fits}
use Rattle.steps.specs.Plan.{turn_kind, turn_age}
use Rattle.steps.specs.declared.plan.Stop.{Stop}
use Rattle.steps.specs.Ranks.{fact}
use Rattle.steps.specs.Sets.{held, marked, source, Empty, Exactly, Loses}
use Rattle.steps.specs.Stops.{hop_at, Sound}
use Rattle.steps.specs.Leading.{Reached, Onward}
use Rattle.steps.specs.Opening.{Opened, Entered}
use Rattle.steps.proofs.Ranks.{fact-pos, rank-digit}
use Rattle.steps.proofs.Slots.{held_below}
use Rattle.steps.proofs.Bits.{marked-held, source-held, loses-map}
use Rattle.steps.proofs.Hops.{unfit, hop-begins, hop-unbegun, stop-held, none-some, same_some}
use Rattle.steps.proofs.OpeningMarks.{unwritten}
use Rattle.steps.proofs.OpeningBits.{both}

-- the net that a B begins, at place p
module _ (t : Stop) (kind : turn_kind t.step.turn ≡ B) (r p : ℕ) where
  abbrev pub fit : Bool
  fit = fits t.streets.upper t.streets.lower (suc p) (suc t.step.count)

  pub begun : fit ≡ true → hop_at t r p ≡ some (p * fact t.step.count + r)
  begun f = hop-begins t.streets.upper t.streets.lower (turn_kind t.step.turn) (turn_age t.step.turn) t.step.count r p kind f

  pub begun-only : (x : ℕ) → hop_at t r p ≡ some x → (fit ≡ true) × (p * fact t.step.count + r ≡ x)
  begun-only x e = go fit refl
    where
      go : (v : Bool) → fit ≡ v → (fit ≡ true) × (p * fact t.step.count + r ≡ x)
      go true f = (f, same_some (begun f) e)
      go false f = none-some (hop-unbegun t.streets.upper t.streets.lower (turn_kind t.step.turn) (turn_age t.step.turn) t.step.count r p kind f) e

-- a sixth net is begun between two streets of three tracks
pub six-open : (t : Stop) → 5 ≤ t.step.count → t.step.count < t.streets.upper + t.streets.lower →
    (t.streets.upper ≡ 3) × (t.streets.lower ≡ 3) × (t.step.count ≡ 5)
six-open t h l =
    let u = t.streets.upper_few in
    let v = t.streets.lower_few in
    (omega arith, omega arith, omega arith)

module _ (t : Stop) (s : List ℕ) (g : ℕ) (sound : Sound t) (kind : turn_kind t.step.turn ≡ B) where
  abbrev unit : ℕ
  unit = fact t.step.count

  pub opened-exactly : (u : List ℕ) → Opened t.streets.upper t.streets.lower t.step.count s g u → Exactly s g (Reached t s g) u
  opened-exactly u o =
      record { long = o.long; others = o.others; sound = λ x l e. there x e (marked-held u g x e); full = λ x l r. back x r }
    where
      there : (x : ℕ) → marked u g x ≡ true → held x ≡ true → Reached t s g x
      there x e h =
          let (a, b) = both (fits t.streets.upper t.streets.lower (suc (x / unit)) (suc t.step.count)) (source s g (x % unit)) (sym (o.own x h) ∙ e) in
          record {
            rank = x % unit;
            below = mod-lt x (fact-pos t.step.count);
            from = b;
            leads = record { at = x / unit; lands = begun t kind (x % unit) (x / unit) a ∙ ap some (div-add-mod' x unit) };
          }

      back : (x : ℕ) → Reached t s g x → marked u g x ≡ true
      back x r =
          let p = r.leads.at in
          let (a, e) = begun-only t kind r.rank p x r.leads.lands in
          let h = stop-held t r.rank p x sound r.below (source-held s g r.rank r.from) r.leads.lands in
          let q : x / unit ≡ p = ap (λ (n : ℕ). n / unit) (sym e) ∙ rank-digit p t.step.count r.rank r.below in
          let m : x % unit ≡ r.rank = ap (λ (n : ℕ). n % unit) (sym e) ∙ mul-add-mod_self_right p unit r.rank ∙ mod-eq_of_lt r.below in
          o.own x h ∙ rw (q, m, a, r.from)

  -- where the limits let no more nets in
  module _ (full : t.streets.upper + t.streets.lower ≤ t.step.count) where
    unopened : (p : ℕ) → fits t.streets.upper t.streets.lower (suc p) (suc t.step.count) ≡ false
    unopened p = unfit t.streets.upper t.streets.lower (suc p) (suc t.step.count) (λ f. omega (arith, f.sum))

    pub opened-none : Empty s g → Opened t.streets.upper t.streets.lower t.step.count s g s
    opened-none z =
        record {
          long = refl;
          others = λ h x l n. refl;
          own = λ x h. unwritten s g z s x h refl ∙ rw (unopened (x / unit));
        }

    pub none-onward : (u : List ℕ) → Loses s g (λ x. ⊥) u → Loses s g (Onward t s (suc g)) u
    none-onward u f =
        loses-map s g (λ x. ⊥) (Onward t s (suc g)) u (λ x l e p. absurd p)
        (λ x l e o. none-some (hop-unbegun t.streets.upper t.streets.lower (turn_kind t.step.turn) (turn_age t.step.turn) t.step.count x o.leads.at kind (unopened o.leads.at))
        o.leads.lands) f

  pub entered-onward : (u : List ℕ) → Loses s g (Entered t.streets.upper t.streets.lower t.step.count s (suc g)) u → Loses s g (Onward t s (suc g)) u
  entered-onward u f =
      loses-map s g (Entered t.streets.upper t.streets.lower t.step.count s (suc g)) (Onward t s (suc g)) u (λ x l e p. there x p) (λ x l e o. back x o) f
    where
      there : (x : ℕ) → Entered t.streets.upper t.streets.lower t.step.count s (suc g) x → Onward t s (suc g) x
      there x p =
          record {
            next = p.at * unit + x;
            within = omega (arith, held_below (p.at * unit + x) (marked-held s (suc g) (p.at * unit + x) p.kept));
            leads = record { at = p.at; lands = begun t kind x p.at p.fit };
            kept = p.kept;
          }

      back : (x : ℕ) → Onward t s (suc g) x → Entered t.streets.upper t.streets.lower t.step.count s (suc g) x
      back x o =
          let (a, e) = begun-only t kind x o.leads.at o.next o.leads.lands in
          record { at = o.leads.at; fit = a; kept = rw e o.kept }

  -- the same with the number of nets and tracks known
  module _ (ku kl b : ℕ) (eu : t.streets.upper ≡ ku) (el : t.streets.lower ≡ kl) (eb : t.step.count ≡ b) (u : List ℕ) where
    pub opened-at : Opened ku kl b s g u → Exactly s g (Reached t s g) u
    opened-at o =
        let a : Opened t.streets.upper kl b s g u = rw eu o in
        let c : Opened t.streets.upper t.streets.lower b s g u = rw el a in
        let d : Opened t.streets.upper t.streets.lower t.step.count s g u = rw eb c in
        opened-exactly u d

    pub entered_at : Loses s g (Entered ku kl b s (suc g)) u → Loses s g (Onward t s (suc g)) u
    entered_at f =
        let a : Loses s g (Entered t.streets.upper kl b s (suc g)) u = rw eu f in
        let c : Loses s g (Entered t.streets.upper t.streets.lower b s (suc g)) u = rw el a in
        let d : Loses s g (Entered t.streets.upper t.streets.lower t.step.count s (suc g)) u = rw eb c in
        entered-onward u d
