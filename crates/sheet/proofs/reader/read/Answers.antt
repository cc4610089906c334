-- `sheet::reader::read` meets its contract: 23 is asked last, and nothing is written before it found none. Assumes nothing.
use mathlib.Core.Path.{sym, ap, ◌∙◌}
use mathlib.Core.List.{List}
use Prim.Native.Nat.{ℕ}
use native.Mathlib.Omega.{arith}
use lib.Dec.{ltb}
use borrow.Author.Tests.{ltb-true, ltb-false}
use Rattle.rules.specs.Basic.{or_else}
use Rattle.rules.specs.Sheet.{nets_of}
use Rattle.rules.specs.Judgement.{head, middle, tail}
use Rattle.rules.specs.Answers.{written}
use Rattle.sheet.proofs.Tells.{none_told}
use Rattle.sheet.proofs.Walks.{entries-row, entries-nets}
use Rattle.sheet.proofs.Readings.{judged, nets-last, none_last, read-unfit, read-fine}
use Rattle.sheet.proofs.reader.read.Goals as goal

pub returns-then-crowded : goal.returns-then-crowded
returns-then-crowded c =
    let s = c.args.s.now in
    let h = none_told (head s) c.inspect_head.ensures c.in_ok-inspect_head.was in
    let e = judged s h (none_told (or_else (middle s) (tail s)) c.inspect_body.ensures.0 c.in_ok-inspect_body.was) in
    let nets = entries-nets s c.new-nodes.result.fields.now c.new-nodes.ensures.1 in
    let many = ltb-true 255 (nets_of s) (sym (c.crowded.ensures ∙ ap (ltb 255) nets) ∙ c.if-crowded.true) in
    read-unfit s c.args.row.now h (omega (arith, c.count_of-n.ensures.0)) (nets-last s e many)

pub returns : goal.returns
returns c =
    let s = c.args.s.now in
    let h = none_told (head s) c.inspect_head.ensures c.in_ok-inspect_head.was in
    let e = judged s h (none_told (or_else (middle s) (tail s)) c.inspect_body.ensures.0 c.in_ok-inspect_body.was) in
    let fs = c.new-nodes.result.fields.now in
    let nets = entries-nets s fs c.new-nodes.ensures.1 in
    let few = ltb-false 255 (nets_of s) (sym (c.crowded.ensures ∙ ap (ltb 255) nets) ∙ c.if-crowded.false) in
    read-fine s c.args.row.now h (omega (arith, c.count_of-n.ensures.0)) (none_last s e few) c.count_of-n.ensures.0
    (c.write_row.ensures ∙ ap (λ (r : List ℕ). written r c.args.row.now) (entries-row s fs c.new-nodes.ensures.1))
