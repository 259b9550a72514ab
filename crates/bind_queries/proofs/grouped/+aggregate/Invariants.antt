use Rattle.std.proofs.Common.{◌≡◌, map, drop}
use Rattle.bind_queries.specs.Judges.{any_aggregate, any_in_links}
use Rattle.bind_queries.specs.Queries.{expression, judged_link}
use Rattle.bind_queries.proofs.grouped.+aggregate.Given as goal

abbrev pub invariant-any_has-loop-expr : goal.invariant-any_has-loop-expr
invariant-any_has-loop-expr l = any_aggregate (map expression (drop l.expr-index l.exprs)) ≡
    any_aggregate (map expression l.exprs)

abbrev pub invariant-any_link_has-loop-link : goal.invariant-any_link_has-loop-link
invariant-any_link_has-loop-link l = any_in_links (map judged_link (drop l.link-index l.links)) ≡
    any_in_links (map judged_link l.links)
