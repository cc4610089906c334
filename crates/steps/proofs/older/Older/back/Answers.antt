-- `steps::older::Older::back` meets its contract: each word has the orders with the net below the youngest and above it.
use mathlib.Core.Bool.{Bool}
use Prim.Native.Nat.{ℕ, ◌+◌, ◌*◌}
use Rattle.steps.specs.Sets.{bit}
use Rattle.steps.specs.Four.{left_of}
use Rattle.steps.proofs.EndingFive.{passing-both, older-from}
use Rattle.steps.proofs.older.Older.back.Goals as goal

pub returns : goal.returns
returns c =
    let g = c.args in
    let x = c.piece_back-below in
    let y = c.piece_back-lower in
    let z = c.piece_back-higher in
    let w = c.piece_back-above in
    let at : ℕ → ℕ → Bool = λ d i. bit g.n (6 * d + left_of g.self.elders i) in
    older-from g.self.elders g.self.places g.n g.self.few g.self.inside x.result y.result z.result w.result (passing-both (at 1) c.over_at.ensures x.ensures)
    (passing-both (at 2) c.over_at-2.ensures y.ensures) (passing-both (at 1) c.under_at.ensures z.ensures)
    (passing-both (at 2) c.under_at-2.ensures w.ensures)
