-- What it takes to put more into a text, and what that does to it.
use Rattle.std.specs.Prelude.{◌≡◌, List, ℕ, ◌+◌, ◌≤◌, length}
use Rattle.std.proofs.lemmas.List.Edits.{sets}
use Rattle.listing.specs.declared.put.Text.{Text}

-- the buffer has room for new behind what was put before
pub record Room (new : List ℕ) (t : Text) : Type 0 where
  pub within : t.len + length new ≤ length t.bytes.now

-- new was put behind what was put before, into the same buffer, and every other byte is as it was
pub record Puts (new : List ℕ) (t t' : Text) : Type 0 where
  pub same : t'.bytes.ghost_name ≡ t.bytes.ghost_name
  pub is : t'.bytes.now ≡ sets t.bytes.now t.len new
  pub len : t'.len ≡ t.len + length new
