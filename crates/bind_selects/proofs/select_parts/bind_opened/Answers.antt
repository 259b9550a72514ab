use Rattle.std.proofs.Common.{map}
use Rattle.std.proofs.lemmas.Result.{on_ok_weaker}
use Rattle.bind_sight.specs.Sight.{seen_by, inside}
use Rattle.bind_parts.specs.From.{row_level}
use Rattle.bind_parts.proofs.Laws.{then-notes}
use Rattle.bind_queries.specs.Queries.{select_item, maybe}
use Rattle.bind_queries.specs.Selects.{rowed, list_typed, grouped}
use Rattle.bind_selects.proofs.select_parts.bind_opened.Goals as goal

pub returns-clause-notes : goal.returns-clause-notes
returns-clause-notes c =
    let select = c.args.select.now in
    let items = map select_item select.items.now in
    let having = maybe select.having.now in
    let outer = seen_by c.args.outside.now in
    on_ok_weaker c.bind_grouped.result (then-notes c.args.notes.now c.bind_row.new.notes
    c.bind_grouped.new.notes
    (rowed (maybe select.filter.now) select.group_by.now (inside (row_level c.args.opened) outer))
    (list_typed select.anchor items having (grouped items select.group_by.now having)
    c.args.targets.now outer c.args.opened) c.in_ok-row.row
    c.in_ok-row.ensures.notes c.in_ok-row.ensures.value) c.bind_grouped.ensures.notes
