-- `steps::rank::factorial` meets its contract: each entry is the factorial of its index.
use mathlib.Core.Path.{◌≡◌, refl}
use mathlib.Core.List.{[], ◌∷◌}
use Prim.Native.Nat.{ℕ, zero, suc, ◌≤◌}
use native.Mathlib.Omega.{arith}
use lib.ListN.{get_or}
use Rattle.steps.specs.Ranks.{fact}
use Rattle.steps.proofs.Ranks.{fact-pos, fact-six}
use Rattle.steps.proofs.rank.factorial.Goals as goal

entry : (n : ℕ) → n ≤ 6 → get_or (1 ∷ 1 ∷ 2 ∷ 6 ∷ 24 ∷ 120 ∷ 720 ∷ []) n 0 ≡ fact n
unfolding fact
entry zero h = refl
entry (suc zero) h = refl
entry (suc (suc zero)) h = refl
entry (suc (suc (suc zero))) h = refl
entry (suc (suc (suc (suc zero)))) h = refl
entry (suc (suc (suc (suc (suc zero))))) h = refl
entry (suc (suc (suc (suc (suc (suc zero)))))) h = refl
entry (suc (suc (suc (suc (suc (suc (suc n))))))) h = absurd (omega arith)

pub returns : goal.returns
returns c =
    let n = c.args.n in
    let e = entry n c.requires in
    record { value = e; pos = rw e (fact-pos n); most = rw e (fact-six n c.requires) }
