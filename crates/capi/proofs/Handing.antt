-- The code of an answer: the entry point's contract names the answer, so its place is small, and number and place are the definition's.
use mathlib.Core.Path.{◌≡◌, sym, ap, ◌∙◌, subst}
use Prim.Native.Nat.{ℕ, ◌+◌, ◌*◌, ◌%◌, ◌<◌}
use native.Mathlib.Omega.{arith}
use Rattle.rules.specs.Answers.{Said, says}
use Rattle.capi.specs.Codes.{places, coded, Handed}

-- the answer a is the one that the definition names, and n and p were told of it
module _ {A : Type 0} (said : A → Said) {a b : A} {n p : ℕ} (is : a ≡ b) (told : says n p ≡ said a) (low : (said b).place < places) where
  answer-small : (said a).place < places
  answer-small = subst (λ r. (said r).place < places) (sym is) low

  place-small : p < places
  place-small = subst (λ (s : Said). s.place < places) (sym told) answer-small

  pub handed : {Meets : A → Type 0} {code : ℕ} → Meets a → code ≡ n * 4294967296 + p % 4294967296 → Handed Meets said code
  handed {code = k} m e =
      let c : k ≡ coded (says n p) = omega (arith, place-small) in
      record { answer = a; meets = m; is = c ∙ ap coded told; small = answer-small }
