-- `film::drawer::draw` meets its contract: a fault of the sheet, else what is drawn of a sheet without one. Assumes nothing.
use mathlib.Core.Path.{ap, ◌∙◌}
use mathlib.Core.List.{List}
use lib.ListN.{length}
use Rattle.rules.specs.Film.{Rec}
use Rattle.rules.specs.Judgement.{judge}
use Rattle.sheet.proofs.Tells.{fault-told, none_told, raised}
use Rattle.film.specs.Stamps.{laid}
use Rattle.film.proofs.Finish.{nodes-records, draw-unfit, draw-short, draw-fine}
use Rattle.film.proofs.drawer.draw.Goals as goal

pub returns-in_err-inspect : goal.returns-in_err-inspect
returns-in_err-inspect c =
    let a = c.args in
    rw (raised c.from_residual.result c.from_residual.ensures.1) (draw-unfit a.s.now a.film.now (fault-told (judge a.s.now) c.inspect.ensures.0 c.in_err-inspect.was))

pub new-nodes-requires : goal.new-nodes-requires
new-nodes-requires c =
    let i = c.inspect.ensures in
    let None-found = none_told (judge c.args.s.now) i.0 c.in_ok-inspect.was in
    (None-found, i.1 None-found)

pub returns-then-film-count : goal.returns-then-film-count
returns-then-film-count c =
    let s = c.args.s.now in
    let None-found = none_told (judge s) c.inspect.ensures.0 c.in_ok-inspect.was in
    let records = nodes-records s c.new-nodes.result.fields.now c.new-nodes.ensures.0 c.new-nodes.ensures.1 in
    draw-short s c.args.film.now None-found (c.count_records-count.ensures.0 ∙ ap (λ (l : List Rec). length l) records) c.if-film-count.true

pub returns : goal.returns
returns c =
    let s = c.args.s.now in
    let film = c.args.film.now in
    let None-found = none_told (judge s) c.inspect.ensures.0 c.in_ok-inspect.was in
    let records = nodes-records s c.new-nodes.result.fields.now c.new-nodes.ensures.0 c.new-nodes.ensures.1 in
    draw-fine s film None-found (c.count_records-count.ensures.0 ∙ ap (λ (l : List Rec). length l) records) c.if-film-count.false
    (c.lay.ensures.bytes ∙ ap (laid film 0) records)
