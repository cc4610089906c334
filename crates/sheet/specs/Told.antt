-- What the judging functions say, by what the judgement of a sheet finds.
use Rattle.std.specs.Prelude.{ℕ, Result, Ok, Err, ⊤}
use Rattle.std.proofs.Math.Option.{Option, none, some}
use Rattle.rules.specs.declared.Fault.{Fault}
use Rattle.rules.specs.declared.Kind.{Kind}
use Rattle.rules.specs.Sheet.{kind_in, Entry, entry}

-- a fault, or none
unfoldable pub told : Option Fault → Result ⊤ Fault
told none = Ok tt
told (some e) = Err e

-- a fault at some node, or none, and the nets open after the nodes
unfoldable pub passed : Option Fault → ℕ → Result ℕ Fault
passed none b = Ok b
passed (some e) b = Err e

-- an entry's kind, and the nets above it
unfoldable pub kind_at : Entry → Kind
kind_at (entry f a) = kind_in f

unfoldable pub above_at : Entry → ℕ
above_at (entry f a) = a
