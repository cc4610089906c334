-- What the passes over the sets of ranks ensure: which ranks are marked after each, and which positions are picked.
use Rattle.std.specs.Prelude.{◌≡◌, Bool, true, false, List, ◌⊎◌, ℕ, suc, ◌+◌, ◌*◌, ◌<◌, ◌≤◌, length, take, drop}
use Rattle.std.proofs.Math.Option.{some}
use Rattle.rules.specs.Street.{Earlier}
use Rattle.steps.specs.Plan.{Step, Steps}
use Rattle.steps.specs.Ranks.{fact, hops, Way, Ahead}
use Rattle.steps.specs.Sets.{ranks, stretch, marked}

-- what the passes are given: a plan of steps that they can follow, and bytes for a gap after each
pub record Given (ss : List Step) (work : List ℕ) : Type 0 where
  pub room : stretch * length ss ≤ length work
  pub plan : Steps 0 ss

-- the gaps of the first n steps hold exactly the ranks that ways lead to
pub record Filled (ku kl : ℕ) (ss : List Step) (n : ℕ) (s : List ℕ) : Type 0 where
  pub sound : (g x : ℕ) → g < n → x < ranks → marked s g x ≡ true → Way ku kl (take (suc g) ss) x
  pub full : (g x : ℕ) → g < n → Way ku kl (take (suc g) ss) x → marked s g x ≡ true

-- some way leads through the steps
pub record Passable (ku kl : ℕ) (ss : List Step) : Type 0 where
  pub end : ℕ
  pub way : Way ku kl ss end

-- the pass forward from the bytes s to t: n steps are passed, and no more can be
pub record Forward (ku kl : ℕ) (ss : List Step) (s t : List ℕ) (n : ℕ) : Type 0 where
  pub long : length t ≡ length s
  pub within : n ≤ length ss
  pub filled : Filled ku kl ss n t
  pub passes : Passable ku kl (take n ss)
  pub stuck : n < length ss → Passable ku kl (take (suc n) ss) → ⊥

-- of the marks of s exactly those are left in t from which the steps after their gap can be passed
pub record Pruned (ku kl : ℕ) (ss : List Step) (s t : List ℕ) : Type 0 where
  pub long : length t ≡ length s
  pub was : (g x : ℕ) → g < length ss → x < ranks → marked t g x ≡ true → marked s g x ≡ true
  pub sound : (g x : ℕ) → g < length ss → x < ranks → marked t g x ≡ true → Ahead ku kl (drop (suc g) ss) x
  pub full : (g x : ℕ) → g < length ss → x < ranks → marked s g x ≡ true → Ahead ku kl (drop (suc g) ss) x → marked t g x ≡ true

-- the marks are the ranks of ways that lead on through all the steps
pub record Kept (ku kl : ℕ) (ss : List Step) (s : List ℕ) : Type 0 where
  pub ways : (g x : ℕ) → g < length ss → x < ranks → marked s g x ≡ true → Way ku kl (take (suc g) ss) x
  pub sound : (g x : ℕ) → g < length ss → x < ranks → marked s g x ≡ true → Ahead ku kl (drop (suc g) ss) x
  pub full : (g x : ℕ) → g < length ss → Way ku kl (take (suc g) ss) x → Ahead ku kl (drop (suc g) ss) x → marked s g x ≡ true

-- a new net among b others, over rank r, makes a rank of P
pub record Somewhere (P : ℕ → Bool) (b r : ℕ) : Type 0 where
  pub at : ℕ
  pub low : at ≤ b
  pub is : P (at * fact b + r) ≡ true

-- p is the least place where it does, and x that rank
pub record Entry (P : ℕ → Bool) (b r p x : ℕ) : Type 0 where
  pub low : p ≤ b
  pub rank : x ≡ p * fact b + r
  pub is : P x ≡ true
  pub first : (q : ℕ) → q < p → P (q * fact b + r) ≡ false

-- of all positions that lead from rank r through the steps, the first in reading order
pub record First (ku kl : ℕ) (ss : List Step) (r : ℕ) (ps : List ℕ) : Type 0 where
  pub end : ℕ
  pub runs : hops ku kl ss r ps ≡ some end
  pub others : (qs : List ℕ) (x : ℕ) → hops ku kl ss r qs ≡ some x → (qs ≡ ps) ⊎ Earlier ps qs
