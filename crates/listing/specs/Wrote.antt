-- What a listing asks, and what it gives: a text at the start of its buffer.
use Rattle.std.specs.Prelude.{◌≡◌, List, ℕ, ◌≤◌, length, take}
use Rattle.std.specs.declared.result.Result.TheVariants.{Ok}
use Rattle.rules.specs.Answers.{Routing}
use Rattle.rules.specs.Sheet.{size, count_of}
use Rattle.rules.specs.Answers.{written}

-- a sheet whose nodes can be listed
pub record Readable (s : List ℕ) (n : ℕ) : Type 0 where
  pub few : n ≤ 512
  pub count : count_of s ≡ n
  pub whole : size n ≤ length s

-- an answer that can be listed: one that names a sheet comes with it
abbrev pub Listable : Routing → List ℕ → Type 0
Listable r s = (n : ℕ) → r ≡ Ok n → Readable s n

-- a listing's text is at the start of its buffer, and the rest is untouched
pub record Listing (new text text' : List ℕ) (end : ℕ) : Type 0 where
  pub is : text' ≡ written new text
  pub ends : end ≡ length new
  pub within : end ≤ length text'

-- `&xs[..n]` is in bounds and has n bytes. The second part follows from the first, and spares a caller's `&buf[..n]` a proof file.
abbrev pub IsPrefixLen : ℕ → List ℕ → Type 0
IsPrefixLen n xs = (n ≤ length xs) × (n ≡ length (take n xs))
