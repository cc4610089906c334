-- The code's signed levels as heights, level + 4, of which the film's definition speaks.
use Rattle.std.specs.Prelude.{◌≡◌, ℕ, suc, ◌+◌, ◌-◌, ◌≤◌, ◌<◌, ltb, ℤ, pos, negsuc}
use Rattle.std.proofs.Common.{arith, ap}
use borrow.Author.Tests.{lt-ltb, le-ltb}
use Rattle.rules.specs.Basic.{pick}
use Rattle.rules.specs.Film.{axis}

unfoldable pub high : ℤ → ℕ
high (pos n) = axis + n
high (negsuc n) = axis - suc n

-- a level from −3 to 3
pub record Level (z : ℤ) : Type 0 where
  pub low : 1 ≤ high z
  pub top : high z ≤ 7

-- the level of a height
unfoldable pub level : ℕ → ℤ
level h = pick (ltb h axis) (negsuc (3 - h)) (pos (h - axis))

pub level-high : (z : ℤ) → Level z → level (high z) ≡ z
unfolding high level pick
level-high (pos n) h = let e : axis + n - axis ≡ n = omega arith in rw (le-ltb (axis + n) axis (omega arith)) (ap pos e)
level-high (negsuc n) h =
    let l : axis - suc n < axis = omega arith in
    let e : 3 - (axis - suc n) ≡ n = omega (arith, h.low) in
    rw (lt-ltb (axis - suc n) axis l) (ap negsuc e)
