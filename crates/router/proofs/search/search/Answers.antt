-- Each pass hands on what the next one asks.
use Rattle.orders.proofs.Joining.{given-same, forward-filled, forward-passes, pruned-kept}
use Rattle.router.proofs.Searching.{kinds-told, of-ok}
use Rattle.router.proofs.search.search.Goals as goal

pub walk-requires : goal.walk-requires
walk-requires c =
    let g = c.args in
    let f = of-ok _ _ _ c.forward-passed.result c.forward-passed.ensures c.if-is_ok.ensures.value in
    let w = c.forward-passed.new.work in
    let given = given-same g.plan.now g.streets g.work.now w f.long c.requires.given in
    let passes = forward-passes g.plan.now g.streets g.work.now w f in
    record {
      given = given-same g.plan.now g.streets w c.prune.new.work c.prune.ensures.long given;
      kept = pruned-kept g.plan.now g.streets w c.prune.new.work given (forward-filled g.plan.now g.streets g.work.now w f) c.prune.ensures;
      passable = passes;
      planned = c.requires.planned;
      told = kinds-told g.row.now g.plan.now g.streets g.work.now c.requires.given c.requires.planned passes;
    }
