-- What the search finds is the row's first placing or its failing node.
use Rattle.router.proofs.Laying.{lay-given, lay-planned, lay-stuck, lay-writing, lay-sheet}
use Rattle.router.proofs.lay.Goals as goal

pub search-requires-clause-given : goal.search-requires-clause-given
search-requires-clause-given c =
    let g = c.args in
    lay-given g.row.now g.plan.now g.streets g.work.now g.sheet.now c.requires.fit c.requires.told

pub search-requires-clause-planned : goal.search-requires-clause-planned
search-requires-clause-planned c =
    let g = c.args in
    lay-planned g.row.now g.plan.now g.streets g.work.now g.sheet.now c.requires.fit c.requires.told

pub returns-in-Err : goal.returns-in-Err
returns-in-Err c =
    let g = c.args in
    let f = c.search.ensures in
    lay-stuck g.row.now g.plan.now g.streets g.work.now g.sheet.now c.requires.fit c.requires.told c.search.new.work f.long f.clear c.in-Err.passed c.in-Err.ensures.found

pub write_sheet-requires : goal.write_sheet-requires
write_sheet-requires c =
    let g = c.args in
    let f = c.search.ensures in
    lay-writing g.row.now g.plan.now g.streets g.work.now g.sheet.now c.requires.fit c.requires.told c.search.new.work f.long f.clear c.search.new.entries c.in_default.ensures.found

pub returns : goal.returns
returns c =
    let g = c.args in
    let f = c.search.ensures in
    lay-sheet g.row.now g.plan.now g.streets g.work.now g.sheet.now c.requires.fit c.requires.told c.search.new.work f.long f.clear c.search.new.entries c.in_default.ensures.found
    c.write_sheet.new.buf c.write_sheet.ensures
