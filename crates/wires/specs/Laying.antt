-- A film laid record by record as the sweep lists them, each at its place in the film's order: two numbers of each net say where.
--
-- Slots count from 1, and slot k + 1 is place k of the film. A film is anything on which a record can be stamped at a place.
use Rattle.std.specs.Prelude.{Bool, true, false, List, [], ◌∷◌, ℕ, zero, suc, ◌+◌, eqb}
use Rattle.rules.specs.Basic.{pick}
use Rattle.rules.specs.Film.{Rec, across, upright}
use Rattle.rules.specs.WireRules.{net_of}

-- the film, each net's next slot, and the slot that its open run holds, 0 for none
pub record Laying (F : Type 0) : Type 0 where
  pub film : F
  pub next : ℕ → ℕ
  pub held : ℕ → ℕ

-- v for net n, and what was there for the others
unfoldable pub changed : (n v : ℕ) → (ℕ → ℕ) → ℕ → ℕ
changed n v f m = pick (eqb n m) v (f m)

-- no run is open
unfoldable pub unopened : {F : Type 0} → F → (ℕ → ℕ) → Laying F
unopened film next = record { film = film; next = next; held = λ n. 0 }

module _ {F : Type 0} (stamp : ℕ → Rec → F → F) where
  -- a record in a slot; in none it goes nowhere
  unfoldable pub in_slot : ℕ → Rec → F → F
  in_slot zero r film = film
  in_slot (suc k) r film = stamp k r film

  -- a vertical takes its net's next slot; where the net has no open run, one begins and holds the slot after
  unfoldable pub with_vertical : Bool → ℕ → Rec → Laying F → Laying F
  with_vertical true n r d =
      record { film = in_slot (d.next n) r d.film; next = changed n (d.next n + 2) d.next; held = changed n (d.next n + 1) d.held }
  with_vertical false n r d = record { film = in_slot (d.next n) r d.film; next = changed n (d.next n + 1) d.next; held = d.held }

  -- a horizontal goes to the slot that its run holds, and the run is no longer open
  unfoldable pub lay : Laying F → Rec → Laying F
  lay d (across n h l r) = record { film = in_slot (d.held n) (across n h l r) d.film; next = d.next; held = changed n 0 d.held }
  lay d (upright n l x h) = with_vertical (eqb (d.held n) 0) n (upright n l x h) d

  unfoldable pub laid : Laying F → List Rec → Laying F
  laid d [] = d
  laid d (r ∷ rs) = laid (lay d r) rs

  -- records one after the other, from place i on
  unfoldable pub in_row : ℕ → List Rec → F → F
  in_row i [] film = film
  in_row i (r ∷ rs) film = in_row (suc i) rs (stamp i r film)

-- how many records a net has
unfoldable pub records_of : ℕ → List Rec → ℕ
records_of n [] = 0
records_of n (r ∷ rs) = pick (eqb (net_of r) n) 1 0 + records_of n rs

-- each net's first slot: the records of the nets below it come first
unfoldable pub first_slot : List Rec → ℕ → ℕ
first_slot rs zero = 1
first_slot rs (suc n) = first_slot rs n + records_of n rs
