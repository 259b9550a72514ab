use Rattle.std.proofs.Common.{map}
use Rattle.bind_sight.specs.Sight.{seen_by}
use Rattle.bind_parts.proofs.Laws.{then-notes}
use Rattle.bind_queries.specs.Lists.{listed}
use Rattle.bind_queries.specs.Queries.{select_item, maybe}
use Rattle.bind_queries.specs.Selects.{after_list}
use Rattle.bind_selects.proofs.select_parts.bind_listed.Goals as goal

pub returns-clause-notes : goal.returns-clause-notes
returns-clause-notes c =
    then-notes c.args.notes.now c.bind_list.new.notes c.bind_having.new.notes
    (listed c.args.targets.now (map select_item c.args.items.now) c.args.parts
    (seen_by c.args.sight.now)) (after_list (maybe c.args.having.now)
    (seen_by c.args.sight.now)) c.in_ok-outputs.outputs
    c.in_ok-outputs.ensures.notes c.in_ok-outputs.ensures.value c.in_ok-having.ensures.notes
