-- `sheet::reader::write_row` meets its contract: each node is ready for its turn, and its label is the row's. Assumes nothing.
use mathlib.Core.Path.{◌≡◌, refl, ap, ◌∙◌}
use mathlib.Core.List.{List}
use Prim.Native.Nat.{ℕ}
use native.Mathlib.Omega.{arith}
use lib.ListN.{length, set}
use Rattle.sheet.specs.Fields.{row_in}
use Rattle.sheet.proofs.Walks.{walk_start, walk-ready, walk-label, walk_step, length-row_in}
use Rattle.sheet.proofs.Fills.{fill_step, fill_end}
use Rattle.sheet.proofs.reader.write_row.Goals as goal

pub loop-i-init : goal.loop-i-init
loop-i-init c = let g = c.args.nodes in (walk_start g.fields.now g.clear c.new.result c.new.ensures, refl)

pub touch-requires : goal.touch-requires
touch-requires c = let g = c.args.nodes in let l = c.loop-i in walk-ready g.fields.now g.clear l.i (omega arith) l.walk l.invariant.0

pub loop-i-preserved : goal.loop-i-preserved
loop-i-preserved c =
    let g = c.args.nodes in
    let fs = g.fields.now in
    let l = c.loop-i in
    let x = walk-label fs g.clear l.i (omega arith) l.walk l.invariant.0 c.touch.ensures.label in (
      walk_step fs g.clear l.i (omega arith) l.walk l.invariant.0 c.touch.ensures.walk,
      ap (λ (r : List ℕ). set r l.i c.touch.result) l.invariant.1
          ∙ fill_step (row_in fs) c.args.row.now l.i c.touch.result (omega (arith, length-row_in fs)) (omega arith) x,
    )

pub returns : goal.returns
returns c =
    let fs = c.args.nodes.fields.now in
    let l = c.loop-i in
    let end : l.i ≡ length (row_in fs) = omega (arith, l.invariant.0.within, length-row_in fs) in
    l.invariant.1 ∙ fill_end (row_in fs) c.args.row.now l.i end
