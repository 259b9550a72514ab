use Rattle.std.proofs.Common.{rules, []}
use Rattle.std.proofs.lemmas.Result.{on_ok_weaker}
use Rattle.bind_sight.specs.Sight.{seen_by}
use Rattle.bind_parts.specs.Order.{ordered_by}
use Rattle.bind_queries.specs.Queries.{judge_query}
use Rattle.bind_parts.proofs.Laws.{then-notes}
use Rattle.bind_selects.proofs.order.bind_ordered_typed.Goals as goal

pub returns-clause-notes : goal.returns-clause-notes
returns-clause-notes c =
    let q = c.args.ordered.now in
    on_ok_weaker c.ordered_by.result (then-notes c.args.notes.now c.bind_typed.new.notes
    c.ordered_by.new.notes (judge_query [] q.query (seen_by c.args.outside.now))
    (ordered_by q.order) c.in_ok-query.query (search rules) (search rules)) (search rules)
