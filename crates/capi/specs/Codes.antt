-- What a call from C gives: the entry point's own contract, with its answer as one number.
use Rattle.std.specs.Prelude.{◌≡◌, ℕ, ◌+◌, ◌*◌, ◌<◌}
use Rattle.rules.specs.Answers.{Said}

-- places are below it, so that number and place can be told from their code
abbrev pub places : ℕ
places = 4294967296

-- number · 2^32 + place
abbrev pub coded : Said → ℕ
coded s = s.number * places + s.place

-- the code of an answer that meets an entry point's contract
pub record Handed {A : Type 0} (Meets : A → Type 0) (said : A → Said) (code : ℕ) : Type 0 where
  pub answer : A
  pub meets : Meets answer
  pub is : code ≡ coded (said answer)
  pub small : (said answer).place < places
