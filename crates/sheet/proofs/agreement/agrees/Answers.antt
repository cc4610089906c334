-- `sheet::agreement::agrees` meets its contract: with room for 512 nodes the reader refuses exactly the sheets with a fault, and else its
-- row is compared. Assumes nothing.
use mathlib.Core.Path.{sym, ap, ◌∙◌}
use Prim.Native.Nat.{ℕ}
use native.Mathlib.Omega.{arith}
use lib.ListN.{replicate, length-replicate}
use Rattle.rules.specs.Answers.{same_pins}
use Rattle.rules.proofs.Accepted.{readable-exactly}
use Rattle.sheet.proofs.Turns.{row-turn}
use Rattle.sheet.proofs.Agreements.{agrees-when, agrees-not, refused-means, row-means}
use Rattle.sheet.proofs.agreement.agrees.Goals as goal

pub slice_bounds-own-end : goal.slice_bounds-own-end
slice_bounds-own-end c =
    let s = c.args.s.now in
    let r = c.read in
    let o = row-means s (replicate 512 0) r.result r.new.row r.ensures _ c.in-Ok.is in
    o.within

pub slice_bounds-same_pins-end : goal.slice_bounds-same_pins-end
slice_bounds-same_pins-end c =
    let s = c.args.s.now in
    let r = c.read in
    let o = row-means s (replicate 512 0) r.result r.new.row r.ensures _ c.in-Ok.is in
    o.count

pub same_pins-requires : goal.same_pins-requires
same_pins-requires c =
    let s = c.args.s.now in
    let r = c.read in
    let o = row-means s (replicate 512 0) r.result r.new.row r.ensures _ c.in-Ok.is in
    let p = (readable-exactly s).0 o.passes in
    rw o.row (row-turn s p.0 p.1)

pub returns-in-Ok : goal.returns-in-Ok
returns-in-Ok c =
    let s = c.args.s.now in
    let r = c.read in
    let o = row-means s (replicate 512 0) r.result r.new.row r.ensures _ c.in-Ok.is in
    let row = c.args.row.now in
    c.same_pins.ensures ∙ ap (same_pins row) o.row ∙ sym (agrees-when row s o.passes)

pub returns-in-Err : goal.returns-in-Err
returns-in-Err c =
    let a = c.args in
    let r = c.read in
    sym (agrees-not a.row.now a.s.now (refused-means a.s.now (replicate 512 0) r.result r.ensures c.in-Err.is (omega (arith, length-replicate {A = ℕ} 512 0))))
