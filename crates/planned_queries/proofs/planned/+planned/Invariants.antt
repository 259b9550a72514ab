use Rattle.std.proofs.Common.{◌≡◌, true, map, drop}
use Rattle.rel_algebra.specs.Plain.{planned_all, planned_links}
use Rattle.block_plans.specs.View.{exprs_seen, links_seen, rows_seen, item_seen}
use Rattle.planned_queries.specs.Planned.{rows_planned, items_planned}
use Rattle.planned_queries.proofs.planned.+planned.Given as goal

abbrev pub invariant-all_planned-loop-expr : goal.invariant-all_planned-loop-expr
invariant-all_planned-loop-expr l = planned_all (exprs_seen l.functions (drop l.expr-index l.exprs)) ≡
    planned_all (exprs_seen l.functions l.exprs)

abbrev pub invariant-links_planned-loop-link : goal.invariant-links_planned-loop-link
invariant-links_planned-loop-link l =
    planned_links (links_seen l.functions (drop l.link-index l.links)) ≡
    planned_links (links_seen l.functions l.links)

abbrev pub invariant-rows_planned-loop-row : goal.invariant-rows_planned-loop-row
invariant-rows_planned-loop-row l =
    rows_planned l.width (rows_seen l.functions (drop l.row-index l.rows)) ≡
    rows_planned l.width (rows_seen l.functions l.rows)

abbrev pub invariant-from_planned-loop-item : goal.invariant-from_planned-loop-item
invariant-from_planned-loop-item l =
    items_planned l.first (map (item_seen l.functions) (drop l.item-index l.items)) ≡
    items_planned true (map (item_seen l.functions) l.items)
