-- `street::places::places_among` meets its contract: the bits are those from the least place to the most. Assumes nothing.
use mathlib.Core.Path.{◌≡◌, ap, ap₂, ◌∙◌}
use Prim.Native.Nat.{ℕ, suc, ◌+◌, ◌-◌, ◌^◌, ◌≤◌, min}
use native.Mathlib.Omega.{arith}
use lib.Pow.{pow_mono}
use Rattle.street.specs.Places.{among}
use Rattle.street.proofs.places.places_among.Goals as goal

pub overflow_sub-result : goal.overflow_sub-result
overflow_sub-result c =
    let h : c.saturating_sub-least.result ≤ c.min-most.result + 1 = omega arith in
    omega (arith, pow_mono h)

pub returns : goal.returns
unfolding among
returns c =
    let most : c.min-most.result + 1 ≡ suc (min c.args.b c.args.upper) = omega arith in
    let least : c.saturating_sub-least.result ≡ c.args.b - c.args.lower = omega arith in
    ap₂ (λ (x y : ℕ). x - y) (c.power.ensures ∙ ap (λ (n : ℕ). 2 ^ n) most) (c.power-2.ensures ∙ ap (λ (n : ℕ). 2 ^ n) least)
