-- What one node leads to: from a rank, from the ranks before it, and back from marked ranks.
use Rattle.std.specs.Prelude.{◌≡◌, true, List, ℕ, ◌<◌}
use Rattle.std.proofs.Math.Option.{some}
use Rattle.steps.specs.declared.plan.Stop.{Stop}
use Rattle.steps.specs.Ranks.{capacity, fact, RankOf}
use Rattle.steps.specs.Sets.{ranks, marked, source}
use Rattle.steps.specs.Stops.{hop_at}

-- the stop leads from rank r to rank x
pub record Leads (t : Stop) (r x : ℕ) : Type 0 where
  pub at : ℕ
  pub lands : hop_at t r at ≡ some x

-- the stop leads to rank x from a rank of the nets that it finds open
pub record Led (t : Stop) (x : ℕ) : Type 0 where
  pub rank : ℕ
  pub of : RankOf t.step.count rank
  pub leads : Leads t rank x

-- the stop leads from a rank before node g to rank x
pub record Reached (t : Stop) (s : List ℕ) (g x : ℕ) : Type 0 where
  pub rank : ℕ
  pub below : rank < fact t.step.count
  pub from : source s g rank ≡ true
  pub leads : Leads t rank x

-- the stop leads from rank x to a marked rank of gap g
pub record Onward (t : Stop) (s : List ℕ) (g x : ℕ) : Type 0 where
  pub next : ℕ
  pub within : next < ranks
  pub leads : Leads t x next
  pub kept : marked s g next ≡ true

-- position p leads from rank r to a marked rank of gap g, which is x
pub record Lands (t : Stop) (s : List ℕ) (g r p x : ℕ) : Type 0 where
  pub lands : hop_at t r p ≡ some x
  pub within : x < ranks
  pub kept : marked s g x ≡ true

-- position p leads from rank r to no marked rank of gap g
abbrev pub Misses : Stop → List ℕ → (g r p : ℕ) → Type 0
Misses t s g r p = (x : ℕ) → hop_at t r p ≡ some x → marked s g x ≡ true → ⊥

-- p is the least position that leads from rank r to a marked rank of gap g
pub record Least (t : Stop) (s : List ℕ) (g r p x : ℕ) : Type 0 where
  pub low : p < capacity
  pub lands : Lands t s g r p x
  pub first : (q : ℕ) → q < p → Misses t s g r q
