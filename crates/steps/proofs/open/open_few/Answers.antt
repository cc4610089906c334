-- `steps::open::open_few` meets its contract: copies of the old word at all places, of which the legal ones are kept.
use native.Mathlib.Omega.{arith}
use Rattle.steps.proofs.OpeningMarks.{fact-few, first_under, few-opened, few-bare}
use Rattle.steps.proofs.open.open_few.Goals as goal

pub copies-requires : goal.copies-requires
copies-requires c =
    let w = c.ranks_before-w in
    let f = c.factorial in (
      omega (arith, f.ensures.value, fact-few c.args.b c.requires.b_bound.0),
      rw f.ensures.value (first_under c.args.work.now c.args.g w.result w.ensures _ c.requires.by_index),
    )

pub returns : goal.returns
returns c =
    let w = c.ranks_before-w in
    let z = c.copies in
    let m = c.places in
    let p = c.put_word in
    let l = rw c.factorial.ensures.value at z.ensures in record {
      opened = few-opened c.args.work.now c.args.g c.args.streets.upper c.args.streets.lower c.args.b w.result m.result z.result c.requires.b_bound.0
          c.requires.empty w.ensures l m.ensures p.new.work p.ensures;
      bare = few-bare c.args.work.now c.args.g c.args.streets.upper c.args.streets.lower c.args.b w.result m.result z.result c.requires.b_bound.0
          c.requires.empty w.ensures l m.ensures p.new.work p.ensures;
    }
