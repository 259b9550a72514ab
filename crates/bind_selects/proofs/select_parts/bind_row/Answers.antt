use Rattle.std.proofs.Common.{rules}
use Rattle.std.proofs.lemmas.Result.{on_ok_weaker}
use Rattle.bind_sight.specs.Sight.{seen_by, inside}
use Rattle.bind_parts.specs.From.{row_level}
use Rattle.bind_parts.proofs.Laws.{then-notes}
use Rattle.bind_queries.specs.Lists.{judged_filter}
use Rattle.bind_queries.specs.Queries.{maybe}
use Rattle.bind_queries.specs.Selects.{with_grouping}
use Rattle.bind_selects.proofs.select_parts.bind_row.Goals as goal

pub returns-clause-notes : goal.returns-clause-notes
returns-clause-notes c =
    let seen = inside (row_level c.args.opened.now) (seen_by c.args.outside.now) in
    on_ok_weaker c.bind_row_clauses.result (then-notes c.args.notes.now c.bind_filter.new.notes
    c.bind_row_clauses.new.notes (judged_filter (maybe c.args.filter.now) seen)
    (λ conjuncts. with_grouping conjuncts c.args.group_by.now seen) c.in_ok-conjuncts.conjuncts
    (search rules) (search rules)) (search rules)
