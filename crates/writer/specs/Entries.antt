-- A node's entry, as contracts see it, and the byte that holds its two fields.
use Rattle.std.specs.Prelude.{◌≡◌, List, ◌++◌, ℕ, zero, suc, ◌+◌, ◌*◌, ◌/◌, ◌%◌, ◌<◌}
use Rattle.std.proofs.Common.{arith, ap, ◌∙◌, refl}
use Rattle.rules.specs.Bits.{digits}
use Rattle.rules.specs.declared.Kind.{Kind}
use Rattle.rules.specs.Sheet.{code, kind_in}

-- the kind of a node, and how many nets stand above it
pub record Entry : Type 0 where
  pub kind : Kind
  pub above : ℕ

-- the bits of a node
abbrev pub bits_of : Entry → List ℕ
bits_of e = digits 2 (code e.kind) ++ digits 4 e.above

-- the byte of a node: 16 times its kind field, plus the nets above it
abbrev pub byte_of : Entry → ℕ
byte_of e = code e.kind * 16 + e.above

-- the entry in a byte
abbrev pub entry_in : ℕ → Entry
entry_in x = record { kind = kind_in (x / 16); above = x % 16 }

code-kind_in : (f : ℕ) → f < 4 → code (kind_in f) ≡ f
unfolding code kind_in
code-kind_in zero h = refl
code-kind_in (suc zero) h = refl
code-kind_in (suc (suc zero)) h = refl
code-kind_in (suc (suc (suc f))) h = omega arith

-- six bits are the byte of the entry in them
pub byte-entry : (x : ℕ) → x < 64 → byte_of (entry_in x) ≡ x
byte-entry x h = ap (λ (f : ℕ). f * 16 + x % 16) (code-kind_in (x / 16) (omega arith)) ∙ omega arith
