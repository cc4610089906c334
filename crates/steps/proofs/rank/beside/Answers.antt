-- `steps::rank::beside` meets its contract: `under` and `spared` go by the same test.
use mathlib.Core.Path.{sym, ap}
use Prim.Native.Nat.{ℕ, ◌+◌, ◌-◌, ◌*◌, ◌≤◌}
use native.Mathlib.Omega.{arith}
use Rattle.steps.proofs.Ranks.{under-above, under-below, spared-above, spared-below}
use Rattle.steps.proofs.rank.beside.Goals as goal

less : (q : ℕ) → q ≤ 6 → q - 1 ≤ 6
less q h = omega arith

pub returns-then-first-at : goal.returns-then-first-at
returns-then-first-at c =
    let g = c.args in
    record {
      at = omega (arith, under-above g.first g.place.at c.if-first-at.true);
      rest = ap (λ (q : ℕ). q * g.unit + g.place.rest) (sym (spared-above g.first g.place.at c.if-first-at.true));
    }

pub returns : goal.returns
returns c =
    let g = c.args in
    record {
      at = sym (under-below g.first g.place.at c.if-first-at.false);
      rest = ap (λ (q : ℕ). q * g.unit + g.place.rest) (sym (spared-below g.first g.place.at c.if-first-at.false));
    }
