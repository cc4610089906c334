-- The height that a wire has to reach at a node, by the node's kind, and the bounds that keep it on a track.
use mathlib.Core.Path.{◌≡◌, refl}
use Prim.Native.Nat.{ℕ, suc, ◌+◌, ◌≤◌, ◌<◌}
use native.Mathlib.Omega.{arith}
use native.Mathlib.Numerals.{add-one}
use borrow.Author.Tests.{lt-ltb, le-ltb}
use Rattle.rules.specs.Basic.{pick}
use Rattle.rules.specs.declared.Kind.{Kind}
use Rattle.rules.specs.declared.Kind.TheVariants.{B, M, E, N}
use Rattle.rules.specs.Street.{counted}
use Rattle.rules.specs.Film.{upper, upper_at, target, height_at}
use Rattle.rules.proofs.Fits.{counted-le}
use Rattle.film.specs.declared.node.Node.{Node}
use Rattle.film.specs.Moves.{aim, Fitting}

-- fewer wires fit where more do
pub fitting-less : {n : Node} {b c : ℕ} → Fitting n b → c ≤ b → Fitting n c
unfolding counted
fitting-less {n} {b} {c} f h = record { deep = go n.kind f.deep }
  where
    go : (k : Kind) → counted k b ≤ n.upper + 3 → counted k c ≤ n.upper + 3
    go B l = omega arith
    go M l = omega arith
    go E l = omega arith
    go N l = omega arith

module _ (n : Node) (q : ℕ) (f : Fitting n (suc q)) where
  pub aim_near : q + 1 ≤ n.upper + 3
  aim_near = omega (arith, counted-le n.kind (suc q), f.deep)

  pub aim-far : n.kind ≡ B → q + 2 ≤ n.upper + 3
  unfolding counted
  aim-far e = let d = rw e at f.deep in omega arith

module _ (n : Node) (q : ℕ) where
  -- below a new wire
  pub aim-below : n.kind ≡ B → n.above ≤ q → height_at n.upper (q + 2) ≡ aim n q
  unfolding target pick
  aim-below e h =
      let two : q + 2 ≡ suc (suc q) = omega arith in
      rw (e, le-ltb q n.above h, two)

  -- above it, and where there is none
  pub aim-above : (n.kind ≡ B → q < n.above) → height_at n.upper (q + 1) ≡ aim n q
  unfolding target pick
  aim-above h = rw (add-one q) (go n.kind refl)
    where
      go : (k : Kind) → n.kind ≡ k → height_at n.upper (suc q) ≡ target k n.upper n.above q
      go B e = rw (lt-ltb q n.above (h e)) refl
      go M e = refl
      go E e = refl
      go N e = refl

pub upper-few : (k : Kind) (ku a : ℕ) → ku ≤ 3 → a ≤ 3 → upper_at k ku a ≤ 3
unfolding upper upper_at
upper-few B ku a h l = omega arith
upper-few M ku a h l = omega arith
upper-few E ku a h l = omega arith
upper-few N ku a h l = l
