-- What a node of each kind does to the open nets, youngest first.
use mathlib.Core.Path.{◌≡◌, refl}
use mathlib.Core.List.{List, ◌∷◌}
use Prim.Native.Nat.{ℕ, ◌<◌}
use native.Mathlib.Decide.{ℕ_discrete}
use lib.ListN.{length}
use borrow.Author.Tests.{eq-eqb, ne_eqb}
use Rattle.std.specs.Prelude.{IsTrue}
use Rattle.rules.specs.Basic.{pick, cut}
use Rattle.rules.specs.declared.Kind.TheVariants.{B, M, E, N}
use Rattle.rules.specs.Row.{before, kind_of}
use Rattle.street.specs.Order.{capacity}
use Rattle.steps.specs.declared.plan.Turn.TheVariants.{Begins, Meets, Ends, Rests}
use Rattle.steps.specs.Plan.{step, touches, young, turn}
use Rattle.script.specs.Told.{kind_by, Turned}

module _ (x first last i : ℕ) where
  pub rests : x ≡ 255 → kind_by x first last i ≡ N
  unfolding kind_by pick
  rests e = simp (eq-eqb x 255 e)

  module _ (net : x ≡ 255 → ⊥) where
    pub begins : first ≡ i → kind_by x first last i ≡ B
    unfolding kind_by pick kind_of
    begins e = simp (ne_eqb x 255 net, eq-eqb first i e)

    pub ends : (first ≡ i → ⊥) → last ≡ i → kind_by x first last i ≡ E
    unfolding kind_by pick kind_of
    ends n e = simp (ne_eqb x 255 net, ne_eqb first i n, eq-eqb last i e)

    pub meets : (first ≡ i → ⊥) → (last ≡ i → ⊥) → kind_by x first last i ≡ M
    unfolding kind_by pick kind_of
    meets n m = simp (ne_eqb x 255 net, ne_eqb first i n, ne_eqb last i m)

    -- a node that begins no net touches one
    pub not-begun : (first ≡ i → ⊥) → IsTrue (touches (kind_by x first last i))
    not-begun n = go (ℕ_discrete last i)
      where
        go : Dec (last ≡ i) → IsTrue (touches (kind_by x first last i))
        go (yes e) = rw (ends n e) refl
        go (no m) = rw (meets n m) refl

module _ (o : List ℕ) (x : ℕ) where
  pub turned-rest : Turned o N x (step Rests (length o)) o
  unfolding young turn
  turned-rest = record { is = refl; list = refl; room = λ e. absurd (cc) }

  pub turned-begun : length o < capacity → Turned o B x (step Begins (length o)) (x ∷ o)
  unfolding young turn
  turned-begun h = record { is = refl; list = refl; room = λ e. h }

  pub turned-met : Turned o M x (step (Meets (before x o)) (length o)) o
  unfolding young turn
  turned-met = record { is = refl; list = refl; room = λ e. absurd (cc) }

  pub turned-ended : Turned o E x (step (Ends (before x o)) (length o)) (cut (before x o) o)
  unfolding young turn
  turned-ended = record { is = refl; list = refl; room = λ e. absurd (cc) }
