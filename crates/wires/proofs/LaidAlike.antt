-- A film is laid piece by piece, and only the numbers of the nets that have records count: from two states that agree below m, records of nets
-- below m are laid alike.
use mathlib.Core.Path.{◌≡◌, refl, ap, ap₂}
use mathlib.Core.Bool.{Bool, true, false}
use mathlib.Core.List.{List, [], ◌∷◌, ◌++◌}
use Prim.Native.Nat.{ℕ, ◌+◌, ◌<◌}
use lib.Dec.{eqb}
use Rattle.rules.specs.Basic.{pick}
use Rattle.rules.specs.Film.{Rec, across, upright}
use Rattle.rules.specs.WireRules.{net_of}
use Rattle.wires.specs.Laying.{Laying, changed, in_slot, with_vertical, lay, laid}
use Rattle.wires.proofs.Among.{All, nil, cons}

pub laid-append : {F : Type 0} (stamp : ℕ → Rec → F → F) (d : Laying F) (a b : List Rec) → laid stamp d (a ++ b) ≡ laid stamp (laid stamp d a) b
unfolding laid
laid-append stamp d [] b = refl
laid-append stamp d (r ∷ a) b = laid-append stamp (lay stamp d r) a b

abbrev pub Agree : ℕ → (ℕ → ℕ) → (ℕ → ℕ) → Type 0
Agree m f g = (n : ℕ) → n < m → f n ≡ g n

pub record Alike {F : Type 0} (m : ℕ) (d d' : Laying F) : Type 0 where
  pub film : d.film ≡ d'.film
  pub next : Agree m d.next d'.next
  pub held : Agree m d.held d'.held

changed-agree : (n : ℕ) {m v v' : ℕ} {f g : ℕ → ℕ} → v ≡ v' → Agree m f g → Agree m (changed n v f) (changed n v' g)
unfolding changed
changed-agree n e a k h = ap₂ (pick (eqb n k)) e (a k h)

module _ {F : Type 0} (stamp : ℕ → Rec → F → F) {m : ℕ} where
  vertical-alike : (t : Bool) {n : ℕ} (r : Rec) {d d' : Laying F} → n < m → Alike m d d' → Alike m (with_vertical stamp t n r d) (with_vertical stamp t n r d')
  unfolding with_vertical
  vertical-alike true {n} r {d} {d'} h a =
      record {
        film = ap₂ (λ k film. in_slot stamp k r film) (a.next n h) a.film;
        next = changed-agree n (ap (λ k. k + 2) (a.next n h)) a.next;
        held = changed-agree n (ap (λ k. k + 1) (a.next n h)) a.held;
      }
  vertical-alike false {n} r {d} {d'} h a =
      record {
        film = ap₂ (λ k film. in_slot stamp k r film) (a.next n h) a.film;
        next = changed-agree n (ap (λ k. k + 1) (a.next n h)) a.next;
        held = a.held;
      }

  lay-alike : (r : Rec) {d d' : Laying F} → net_of r < m → Alike m d d' → Alike m (lay stamp d r) (lay stamp d' r)
  unfolding lay net_of
  lay-alike (across n h l r) {d} {d'} k a =
      record {
        film = ap₂ (λ k film. in_slot stamp k (across n h l r) film) (a.held n k) a.film;
        next = a.next;
        held = changed-agree n refl a.held;
      }
  lay-alike (upright n l x h) {d} {d'} k a = rw (a.held n k) (vertical-alike (eqb (d'.held n) 0) (upright n l x h) k a)

  pub laid-alike : {rs : List Rec} {d d' : Laying F} → All (λ r. net_of r < m) rs → Alike m d d' → Alike m (laid stamp d rs) (laid stamp d' rs)
  unfolding laid
  laid-alike nil a = a
  laid-alike (cons {x = r} h b) a = laid-alike b (lay-alike r h a)
