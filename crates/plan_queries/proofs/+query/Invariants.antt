use Rattle.std.proofs.Common.{◌≤◌, ◌+◌, ◌-◌, map, drop, length}
use Rattle.rel_algebra.specs.Joins.{rows_width}
use Rattle.rel_algebra.specs.Plan.{Scalar}
use Rattle.catalog_store.specs.Catalog.{routine_named}
use Rattle.block_plans.specs.Callees.{callee}
use Rattle.block_plans.specs.View.{expr_seen, exprs_seen, links_seen, item_seen, query_seen}
use Rattle.block_plans.specs.View.{rows_seen, select_seen, source_seen}
use Rattle.catalog_store.specs.View.{operated}
use Rattle.plan_expressions.specs.Scopes.{env_of}
use Rattle.plan_queries.specs.Cost.{cost, costs, links_cost, routine_cost, rows_cost, from_cost}
use Rattle.plan_queries.specs.Cost.{query_cost, joining_cost, items_cost, grouping_cost}
use Rattle.plan_queries.proofs.Emitting.{Listing, Passing, Chaining}
use Rattle.plan_queries.proofs.Joining.{Standing}
use Rattle.plan_queries.proofs.Queries.{Numbering, Plains}
use Rattle.plan_queries.proofs.Tests.{Filtering}
use Rattle.plan_queries.proofs.+query.Given as goal

abbrev pub decreases-emit::emit_expr : goal.decreases-emit::emit_expr
decreases-emit::emit_expr l = cost (expr_seen l.functions.now l.expr.now)

abbrev pub decreases-emit::emit_operation : goal.decreases-emit::emit_operation
decreases-emit::emit_operation l = cost (operated l.operation
    (map (expr_seen l.functions.now) l.operands.now)) - 1

abbrev pub decreases-emit::emit_words : goal.decreases-emit::emit_words
decreases-emit::emit_words l = costs (exprs_seen l.functions.now l.operands.now) + 1

abbrev pub decreases-emit::emit_case_of : goal.decreases-emit::emit_case_of
decreases-emit::emit_case_of l = costs (exprs_seen l.functions.now l.operands.now)

abbrev pub decreases-emit::emit_chain : goal.decreases-emit::emit_chain
decreases-emit::emit_chain l = cost (expr_seen l.functions.now l.first.now) + links_cost
    (links_seen l.functions.now l.links.now) + 1

abbrev pub decreases-emit::emit_links : goal.decreases-emit::emit_links
decreases-emit::emit_links l = links_cost (links_seen l.functions.now l.links.now)

abbrev pub decreases-emit::emit_in : goal.decreases-emit::emit_in
decreases-emit::emit_in l = cost (expr_seen l.functions.now l.left.now) + query_cost
    (query_seen l.functions.now l.query.now) + 3

abbrev pub decreases-emit::emit_list : goal.decreases-emit::emit_list
decreases-emit::emit_list l = costs (exprs_seen l.functions.now l.exprs.now)

abbrev pub decreases-emit::emit_call : goal.decreases-emit::emit_call
decreases-emit::emit_call l = costs (exprs_seen l.functions.now l.arguments.now) + routine_cost
    (callee l.functions.now l.name.now (length l.arguments.now)) + 2

abbrev pub decreases-emit::emit_arguments : goal.decreases-emit::emit_arguments
decreases-emit::emit_arguments l = costs (exprs_seen l.functions.now l.arguments.now)

abbrev pub decreases-emit::emit_body : goal.decreases-emit::emit_body
decreases-emit::emit_body l = routine_cost (callee l.functions.now l.name.now l.count) + 1

abbrev pub decreases-emit::emit_returned : goal.decreases-emit::emit_returned
decreases-emit::emit_returned l = routine_cost (routine_named l.name.now l.catalog.now)

abbrev pub decreases-asking::emit_asked : goal.decreases-asking::emit_asked
decreases-asking::emit_asked l = query_cost (query_seen l.functions.now l.query.now) + 2

abbrev pub decreases-asking::emit_folded : goal.decreases-asking::emit_folded
decreases-asking::emit_folded l = query_cost (query_seen l.functions.now l.query.now) + 1

abbrev pub decreases-asking::emit_folded_select : goal.decreases-asking::emit_folded_select
decreases-asking::emit_folded_select l = query_cost (select_seen l.functions.now l.select.now)

abbrev pub decreases-plans::plan_within : goal.decreases-plans::plan_within
decreases-plans::plan_within l = query_cost (query_seen l.functions.now l.query.now) + 1

abbrev pub decreases-selects::plan_select : goal.decreases-selects::plan_select
decreases-selects::plan_select l = query_cost (select_seen l.functions.now l.select.now)

abbrev pub decreases-selects::select_over : goal.decreases-selects::select_over
decreases-selects::select_over l = costs (exprs_seen l.functions.now l.items.now) + costs
    (exprs_seen l.functions.now l.conjuncts.now) + grouping_cost l.functions.now l.grouping.now + 3

abbrev pub decreases-selects::select_rows : goal.decreases-selects::select_rows
decreases-selects::select_rows l = costs (exprs_seen l.functions.now l.items.now) + costs
    (exprs_seen l.functions.now l.conjuncts.now) + 2

abbrev pub decreases-conjuncts::filter_by : goal.decreases-conjuncts::filter_by
decreases-conjuncts::filter_by l = costs (exprs_seen l.functions.now l.conjuncts.now) + 1

abbrev pub decreases-conjuncts::filter_one : goal.decreases-conjuncts::filter_one
decreases-conjuncts::filter_one l = cost (expr_seen l.functions.now l.conjunct.now) + 1

abbrev pub decreases-from::draft_from : goal.decreases-from::draft_from
decreases-from::draft_from l = items_cost (map (item_seen l.functions.now) l.items.now) + 1

abbrev pub decreases-from::join_item : goal.decreases-from::join_item
decreases-from::join_item l = joining_cost (item_seen l.functions.now l.item.now)

abbrev pub decreases-from::draft_source : goal.decreases-from::draft_source
decreases-from::draft_source l = from_cost (source_seen l.functions.now l.source.now)

abbrev pub decreases-joins::matching : goal.decreases-joins::matching
decreases-joins::matching l = costs (exprs_seen l.functions.now l.on.now) + 3

abbrev pub decreases-joins::filter_pairs : goal.decreases-joins::filter_pairs
decreases-joins::filter_pairs l = costs (exprs_seen l.functions.now l.on.now) + 2

abbrev pub decreases-joins::matching_or_nulls : goal.decreases-joins::matching_or_nulls
decreases-joins::matching_or_nulls l = costs (exprs_seen l.functions.now l.on.now) + 2

abbrev pub decreases-joins::emit_on : goal.decreases-joins::emit_on
decreases-joins::emit_on l = costs (exprs_seen l.functions.now l.on.now) + 1

abbrev pub decreases-values::plan_values : goal.decreases-values::plan_values
decreases-values::plan_values l = rows_cost (rows_seen l.functions.now l.rows.now) + 3

abbrev pub decreases-values::plan_rows : goal.decreases-values::plan_rows
decreases-values::plan_rows l = rows_cost (rows_seen l.functions.now l.rows.now) + 2

abbrev pub decreases-values::plan_row : goal.decreases-values::plan_row
decreases-values::plan_row l = costs (exprs_seen l.functions.now l.values.now) + 1

abbrev pub decreases-values::plain_lists : goal.decreases-values::plain_lists
decreases-values::plain_lists l = rows_cost (rows_seen l.functions.now l.rows.now) + 1

abbrev pub decreases-values::plain_list : goal.decreases-values::plain_list
decreases-values::plain_list l = costs (exprs_seen l.functions.now l.values.now) + 1

abbrev pub decreases-values::plan_numbered : goal.decreases-values::plan_numbered
decreases-values::plan_numbered l = rows_cost (rows_seen l.functions.now l.rows.now) + 1

abbrev pub decreases-values::emit_columns : goal.decreases-values::emit_columns
decreases-values::emit_columns l = rows_cost (rows_seen l.functions.now l.rows.now)

abbrev pub invariant-emit::emit_list-loop-expr : goal.invariant-emit::emit_list-loop-expr
invariant-emit::emit_list-loop-expr l = Listing l.functions (env_of l.scope) l.exprs l.expr-index
    l.initial.draft l.draft l.scalars

abbrev pub invariant-emit::emit_arguments-loop-place :
    goal.invariant-emit::emit_arguments-loop-place
invariant-emit::emit_arguments-loop-place l = Passing l.functions (env_of l.scope) l.arguments
    l.types
    l.place l.initial.draft l.draft l.scalars

abbrev pub invariant-emit::emit_links-loop-link : goal.invariant-emit::emit_links-loop-link
invariant-emit::emit_links-loop-link l =
    record {
      chaining : (p : Scalar) → Chaining l.functions (env_of l.scope) l.links l.link-index
          l.initial.draft l.draft p l.chain;
      small : links_cost (links_seen l.functions (drop l.link-index l.links)) ≤ links_cost
          (links_seen l.functions l.links);
    }

abbrev pub invariant-conjuncts::filter_by-loop-conjunct :
    goal.invariant-conjuncts::filter_by-loop-conjunct
invariant-conjuncts::filter_by-loop-conjunct l =
    Filtering l.functions (env_of l.scope) l.conjuncts l.conjunct-index l.initial.draft l.draft
    l.waiting

abbrev pub invariant-from::draft_from-loop-place : goal.invariant-from::draft_from-loop-place
invariant-from::draft_from-loop-place l = Standing l.functions (env_of l.scope) l.items l.place
    l.joined

abbrev pub invariant-values::plain_lists-loop-row : goal.invariant-values::plain_lists-loop-row
invariant-values::plain_lists-loop-row l = Plains l.functions (env_of l.scope) l.rows l.row-index
    l.lists

abbrev pub invariant-values::emit_columns-loop-number :
    goal.invariant-values::emit_columns-loop-number
invariant-values::emit_columns-loop-number l =
    Numbering l.functions (env_of l.scope) (rows_width (rows_seen l.functions l.rows)) l.rows
    l.number
    l.initial.draft l.draft l.columns
