use Rattle.std.proofs.Common.{map}
use Rattle.bind_sight.specs.Sight.{seen_by}
use Rattle.bind_parts.proofs.Laws.{then-notes}
use Rattle.bind_queries.specs.Queries.{select_item, maybe, opened_of}
use Rattle.bind_queries.specs.Selects.{selected}
use Rattle.bind_selects.proofs.select_parts.bind_select_parts.Goals as goal

pub returns-clause-notes : goal.returns-clause-notes
returns-clause-notes c =
    let parts = c.args.parts in
    let outer = seen_by c.args.outside.now in
    then-notes c.args.notes.now c.bind_from.new.notes c.bind_opened.new.notes
    (opened_of parts.from.now outer)
    (selected parts.anchor (map select_item parts.items.now) (maybe parts.filter.now)
    parts.group_by.now (maybe parts.having.now) c.args.targets.now outer) c.in_ok-opened.opened
    c.in_ok-opened.ensures.notes c.in_ok-opened.ensures.value c.in_ok-query.ensures.notes
