-- What a function tells, from what the judgement finds.
use mathlib.Core.Path.{◌≡◌, refl, sym, ap}
use mathlib.Core.Option.{Option, none, some}
use Prim.Native.Nat.{ℕ}
use native.Mathlib.Omega.{arith}
use Rattle.rules.specs.declared.Fault.{Fault}
use Rattle.rules.specs.Basic.{or_else}
use Rattle.std.specs.Prelude.{Result, Ok, Err, ⊤}
use Rattle.std.specs.Result.{IsErrAnd}
use Rattle.sheet.specs.Told.{told, passed}

pub passed-fault : {o : Option Fault} {e : Fault} (b : ℕ) → o ≡ some e → Err e ≡ passed o b
unfolding passed
passed-fault b p = sym (ap (λ o. passed o b) p)

pub passed_none : {o : Option Fault} (b : ℕ) → o ≡ none → Ok b ≡ passed o b
unfolding passed
passed_none b p = sym (ap (λ o. passed o b) p)

-- and what it found, from what r was told to be
pub fault-told : (o : Option Fault) {r : Result ⊤ Fault} {e : Fault} → r ≡ told o → r ≡ Err e → o ≡ some e
unfolding told
fault-told none p q = let z : ◌≡◌ {A = ℕ} 0 1 = cc in absurd (omega arith)
fault-told (some e') p q = cc

pub none_told : (o : Option Fault) {r : Result ⊤ Fault} → r ≡ told o → r ≡ Ok tt → o ≡ none
unfolding told
none_told none p q = refl
none_told (some e') p q = let z : ◌≡◌ {A = ℕ} 0 1 = cc in absurd (omega arith)

-- the first of two findings
pub after_none : {o : Option Fault} (o' : Option Fault) → o ≡ none → or_else o o' ≡ o'
unfolding or_else
after_none o' p = ap (λ o. or_else o o') p

pub after-fault : {o : Option Fault} {e : Fault} (o' : Option Fault) → o ≡ some e → or_else o o' ≡ some e
unfolding or_else
after-fault o' p = ap (λ o. or_else o o') p

-- what a `?` hands on is the error that it was made of
pub raised : {T E : Type 0} {x : E} (r : Result T E) → IsErrAnd r (λ (y : E). y ≡ x) → r ≡ Err x
raised (Ok v) h = absurd h
raised (Err y) h = ap Err h
