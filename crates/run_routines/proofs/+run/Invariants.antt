use Rattle.std.proofs.Common.{◌≤◌, ◌+◌, ◌*◌, drop, ◌-◌, ◌++◌, ◌∷◌, Option, fold, length, map}
use Rattle.std.specs.Option.{option_copied}
use Rattle.rel_algebra.specs.Meaning.{does_all, inside, ev_links, ev_args, ev_and, ev_or, ev_case}
use Rattle.rel_algebra.specs.Meaning.{ev_coalesce, ev_all, ev_rows, holds, from_rows, record_of}
use Rattle.rel_algebra.specs.Meaning.{argue}
use Rattle.rel_algebra.specs.Loops.{for_each, looping}
use Rattle.routine_views.specs.Views.{stmt_in, called, expr_in, query_in, arguments as arguments_in}
use Rattle.routine_views.specs.Views.{performed, block_in, cursor_in, diagnostics, perhaps}
use Rattle.routine_views.specs.Views.{which_area}
use Rattle.routine_views.specs.Views.{variables as variables_in}
use Rattle.run_expressions.specs.Content.{world_of}
use Rattle.run_places.specs.Cost.{stmt_cost, stmts_cost, branches_cost, cost, costs, links_cost}
use Rattle.run_places.specs.Cost.{routine_cost, rows_cost, from_cost, query_cost, arguments_cost}
use Rattle.run_places.specs.Cost.{handlers_cost, perhaps_cost, variables_cost}
use Rattle.run_places.specs.Places.{known_of, context_of, queries_of, scopes_of, self_of, self_cost}
use Rattle.run_places.specs.Places.{scopes_cost, no_routine, call_cost, run_cost, handlers_costs}
use Rattle.run_places.specs.Places.{handlers_of, handler_in, queries_in}
use Rattle.run_places.specs.Ran.{does_choice, before_by, after_by, test_cost}
use Rattle.run_places.specs.Statements.{stmts_in, branches_in}
use Rattle.run_places.proofs.Laws.{LoopUnderway}
use Rattle.run_places.proofs.Laws.{Underway}
use Rattle.run_routines.specs.Otherwise.{does_otherwise}
use Rattle.row_types.specs.Rows.{Row}
use Rattle.bound_trees.specs.declared.query.BoundGrouping.{out-BoundGrouping}
use Rattle.rel_algebra.specs.World.{Eval, after, give, each_kept, each_listed}
use Rattle.routine_views.specs.Routines.{routines_of, function_view, procedure_view, with_modes}
use Rattle.run_places.specs.Views.{exprs_in, links_in, rows_in, select_in, item_in, source_in}
use Rattle.catalog_store.specs.View.{operated, from_of}
use Rattle.run_choices.specs.Sight.{seen}
use Rattle.run_choices.specs.Words.{passes_by}
use Rattle.group_index.specs.Folded.{with_row}
use Rattle.run_places.specs.Groups.{parts_folded, end_record}
use Rattle.run_places.specs.Joins.{match_of, matches_of, matched, all_joined}
use Rattle.run_places.proofs.Laws.{step_cost, left_cost}
use Rattle.run_expressions.proofs.Laws.{Going}
use Rattle.catalog_store.specs.Entries.{interpreted_of, procedure_of}
use Rattle.run_places.specs.Passing.{argument_cost}
use Rattle.bound_trees.specs.declared.statement.BoundBlock.{out-BoundBlock}
use Rattle.run_places.specs.Blocks.{handlers_at}
use Rattle.run_places.proofs.Laws.{Declared}
use Rattle.run_routines.proofs.+run.Given as goal

abbrev pub decreases-expr::eval : goal.decreases-expr::eval
decreases-expr::eval l = 8 * (cost (expr_in (known_of l.place.now) l.expr.now) + self_cost l.place.now) + 1

abbrev pub decreases-expr::eval_node : goal.decreases-expr::eval_node
decreases-expr::eval_node l = 8 * (cost (expr_in (known_of l.place.now) l.expr.now) +
    self_cost l.place.now)

abbrev pub decreases-expr::operate : goal.decreases-expr::operate
decreases-expr::operate l = 8 * (cost (operated l.operation
    (map (expr_in (known_of l.place.now)) l.operands.now)) + self_cost l.place.now) - 1

abbrev pub decreases-expr::and : goal.decreases-expr::and
decreases-expr::and l = 8 * (costs (exprs_in (known_of l.place.now) l.operands.now) + self_cost l.place.now)

abbrev pub decreases-expr::or : goal.decreases-expr::or
decreases-expr::or l = 8 * (costs (exprs_in (known_of l.place.now) l.operands.now) + self_cost l.place.now)

abbrev pub decreases-expr::coalesce : goal.decreases-expr::coalesce
decreases-expr::coalesce l = 8 * (costs (exprs_in (known_of l.place.now) l.operands.now) + self_cost l.place.now)

abbrev pub decreases-expr::case : goal.decreases-expr::case
decreases-expr::case l = 8 * (costs (exprs_in (known_of l.place.now) l.arms.now) + self_cost l.place.now)

abbrev pub decreases-expr::eval_links : goal.decreases-expr::eval_links
decreases-expr::eval_links l = 8 * (links_cost (links_in (known_of l.place.now) l.links.now) + self_cost l.place.now)

abbrev pub decreases-expr::eval_arguments : goal.decreases-expr::eval_arguments
decreases-expr::eval_arguments l = 8 * (costs (exprs_in (known_of l.place.now) l.arguments.now) + self_cost l.place.now)

-- the lists

abbrev pub decreases-lists::eval_rows : goal.decreases-lists::eval_rows
decreases-lists::eval_rows l = 8 * (rows_cost (rows_in (known_of l.place.now) l.rows.now) + self_cost l.place.now)

abbrev pub decreases-lists::eval_all : goal.decreases-lists::eval_all
decreases-lists::eval_all l = 8 * (costs (exprs_in (known_of l.place.now) l.exprs.now) + self_cost l.place.now)

abbrev pub decreases-lists::holds : goal.decreases-lists::holds
decreases-lists::holds l = 8 * (costs (exprs_in (known_of l.place.now) l.conjuncts.now) + self_cost l.place.now)

-- queries

abbrev pub decreases-queries::answer_query : goal.decreases-queries::answer_query
decreases-queries::answer_query l = 8 * (query_cost (query_in (known_of l.place.now) l.query.now) + self_cost l.place.now) + 4

abbrev pub decreases-queries::answer_by_rows : goal.decreases-queries::answer_by_rows
decreases-queries::answer_by_rows l = 8 * (query_cost (query_in (known_of l.place.now) l.query.now) + self_cost l.place.now) + 3

abbrev pub decreases-queries::select : goal.decreases-queries::select
decreases-queries::select l = 8 * (query_cost (select_in (known_of l.place.now) l.query.now) + self_cost l.place.now) + 2

abbrev pub decreases-queries::select_all : goal.decreases-queries::select_all
decreases-queries::select_all l = 8 * (query_cost (select_in (known_of l.place.now) l.query.now) + self_cost l.place.now) + 1

abbrev pub decreases-queries::made_of : goal.decreases-queries::made_of
decreases-queries::made_of l = 8 * (query_cost (select_in (known_of l.place.now) l.query.now) + self_cost l.place.now)

abbrev pub decreases-queries::from_rows : goal.decreases-queries::from_rows
decreases-queries::from_rows l = 8 * (from_cost (from_of (map (item_in (known_of l.place.now)) l.items.now)) + self_cost l.place.now) +
    1

abbrev pub decreases-queries::source_rows : goal.decreases-queries::source_rows
decreases-queries::source_rows l = 8 * (from_cost (source_in (known_of l.place.now) l.source.now) + self_cost l.place.now)

abbrev pub decreases-from::join : goal.decreases-from::join
decreases-from::join l = 8 * (step_cost l.joined (item_in (known_of l.place.now) l.item.now) + self_cost l.place.now)

abbrev pub decreases-from::join_on : goal.decreases-from::join_on
decreases-from::join_on l = 8 * (costs (exprs_in (known_of l.place.now) l.on.now) + self_cost l.place.now) + 5

abbrev pub decreases-joins::matched : goal.decreases-joins::matched
decreases-joins::matched l = 8 * (costs (exprs_in (known_of l.place.now) l.on.now) + self_cost l.place.now) + 4

abbrev pub decreases-joins::matches_of : goal.decreases-joins::matches_of
decreases-joins::matches_of l = 8 * (costs (exprs_in (known_of l.place.now) l.on.now) + self_cost l.place.now) + 3

abbrev pub decreases-joins::matching_pairs : goal.decreases-joins::matching_pairs
decreases-joins::matching_pairs l = 8 * (costs (exprs_in (known_of l.place.now) l.on.now) + self_cost l.place.now) + 2

abbrev pub decreases-joins::match_of : goal.decreases-joins::match_of
decreases-joins::match_of l = 8 * (costs (exprs_in (known_of l.place.now) l.on.now) + self_cost l.place.now) + 1

abbrev pub decreases-groups::grouped : goal.decreases-groups::grouped
decreases-groups::grouped l =
    8 * ((costs (exprs_in (known_of l.place.now) (out-BoundGrouping l.grouping.now).parts) + costs
    (exprs_in (known_of l.place.now) l.conjuncts.now) + costs
    (exprs_in (known_of l.place.now) (out-BoundGrouping l.grouping.now).having) + costs
    (exprs_in (known_of l.place.now) l.list.now)) + self_cost l.place.now) + 4

abbrev pub decreases-groups::folded : goal.decreases-groups::folded
decreases-groups::folded l = 8 * ((costs (exprs_in (known_of l.place.now) l.parts.now) + costs
    (exprs_in (known_of l.place.now) l.conjuncts.now)) + self_cost l.place.now) + 2

abbrev pub decreases-groups::records : goal.decreases-groups::records
decreases-groups::records l = 8 * ((costs (exprs_in (known_of l.place.now) l.list.now) + costs
    (exprs_in (known_of l.place.now) l.having.now)) + self_cost l.place.now) + 3

abbrev pub decreases-groups::record : goal.decreases-groups::record
decreases-groups::record l = 8 * ((costs (exprs_in (known_of l.place.now) l.list.now) + costs
    (exprs_in (known_of l.place.now) l.having.now)) + self_cost l.place.now) + 2

abbrev pub decreases-records::records_of : goal.decreases-records::records_of
decreases-records::records_of l = 8 * ((costs (exprs_in (known_of l.place.now) l.list.now) + costs
    (exprs_in (known_of l.place.now) l.tests.now)) + self_cost l.place.now) + 2

abbrev pub decreases-records::record_of : goal.decreases-records::record_of
decreases-records::record_of l = 8 * ((costs (exprs_in (known_of l.place.now) l.list.now) + costs
    (exprs_in (known_of l.place.now) l.tests.now)) + self_cost l.place.now) + 1

-- loops

abbrev pub invariant-expr::and-loop-operand : goal.invariant-expr::and-loop-operand
invariant-expr::and-loop-operand l =
    let left = exprs_in (known_of l.place) (drop l.operand-index l.operands) in
    record {
      going : Going l.initial.world l.world (ev_and left l.so_far (self_of l.place) (seen l.rows) l.frame
          (world_of l.world))
          (ev_and (exprs_in (known_of l.place) l.operands) l.initial.so_far (self_of l.place) (seen l.rows) l.frame
          (world_of l.initial.world));
      small : costs left ≤ costs (exprs_in (known_of l.place) l.operands);
    }

abbrev pub invariant-expr::or-loop-operand : goal.invariant-expr::or-loop-operand
invariant-expr::or-loop-operand l =
    let left = exprs_in (known_of l.place) (drop l.operand-index l.operands) in
    record {
      going : Going l.initial.world l.world (ev_or left l.so_far (self_of l.place) (seen l.rows) l.frame
          (world_of l.world))
          (ev_or (exprs_in (known_of l.place) l.operands) l.initial.so_far (self_of l.place) (seen l.rows) l.frame
          (world_of l.initial.world));
      small : costs left ≤ costs (exprs_in (known_of l.place) l.operands);
    }

abbrev pub invariant-expr::coalesce-loop-operand : goal.invariant-expr::coalesce-loop-operand
invariant-expr::coalesce-loop-operand l =
    let left = exprs_in (known_of l.place) (drop l.operand-index l.operands) in
    record {
      going : Going l.initial.world l.world (ev_coalesce left (self_of l.place) (seen l.rows) l.frame
          (world_of l.world))
          (ev_coalesce (exprs_in (known_of l.place) l.operands) (self_of l.place) (seen l.rows) l.frame
          (world_of l.initial.world));
      small : costs left ≤ costs (exprs_in (known_of l.place) l.operands);
    }

abbrev pub invariant-expr::case-loop-at : goal.invariant-expr::case-loop-at
invariant-expr::case-loop-at l =
    let left = exprs_in (known_of l.place) (drop l.at l.arms) in
    record {
      going : Going l.initial.world l.world (ev_case left (passes_by (option_copied l.operand))
          (self_of l.place) (seen l.rows) l.frame (world_of l.world))
          (ev_case (exprs_in (known_of l.place) l.arms) (passes_by (option_copied l.operand)) (self_of l.place)
          (seen l.rows) l.frame (world_of l.initial.world));
      small : costs left ≤ costs (exprs_in (known_of l.place) l.arms);
      within : l.at ≤ length l.arms;
    }

abbrev pub decreases-expr::case-loop-at : goal.decreases-expr::case-loop-at
decreases-expr::case-loop-at l = length l.arms - l.at

abbrev pub invariant-expr::eval_arguments-loop-at :
    goal.invariant-expr::eval_arguments-loop-at
invariant-expr::eval_arguments-loop-at l =
    let left = exprs_in (known_of l.place) (drop l.at l.arguments) in
    record {
      going : Going l.initial.world l.world (after
          (ev_args left (drop l.at l.parameters) (self_of l.place) (seen l.rows) l.frame
          (world_of l.world)) (λ vs. give (l.values ++ vs)))
          (ev_args (exprs_in (known_of l.place) l.arguments) l.parameters (self_of l.place) (seen l.rows) l.frame
          (world_of l.initial.world));
      small : costs left ≤ costs (exprs_in (known_of l.place) l.arguments);
    }

abbrev pub invariant-expr::eval_links-loop-link : goal.invariant-expr::eval_links-loop-link
invariant-expr::eval_links-loop-link l =
    let left = links_in (known_of l.place) (drop l.link-index l.links) in
    record {
      going : Going l.initial.world l.world (ev_links left l.value (self_of l.place) (seen l.rows) l.frame
          (world_of l.world))
          (ev_links (links_in (known_of l.place) l.links) l.initial.value (self_of l.place) (seen l.rows) l.frame
          (world_of l.initial.world));
      small : links_cost left ≤ links_cost (links_in (known_of l.place) l.links);
    }

abbrev pub invariant-lists::eval_rows-loop-row : goal.invariant-lists::eval_rows-loop-row
invariant-lists::eval_rows-loop-row l =
    let left = rows_in (known_of l.place) (drop l.row-index l.rows) in
    record {
      going : Going l.initial.world l.world (after
          (ev_rows left (self_of l.place) (seen l.outer) l.frame (world_of l.world))
          (λ vs. give (l.values ++ vs)))
          (ev_rows (rows_in (known_of l.place) l.rows) (self_of l.place) (seen l.outer) l.frame
          (world_of l.initial.world));
      small : rows_cost left ≤ rows_cost (rows_in (known_of l.place) l.rows);
    }

abbrev pub invariant-lists::eval_all-loop-expr : goal.invariant-lists::eval_all-loop-expr
invariant-lists::eval_all-loop-expr l =
    let left = exprs_in (known_of l.place) (drop l.expr-index l.exprs) in
    record {
      going : Going l.initial.world l.world (after
          (ev_all left (self_of l.place) (seen l.rows) l.frame (world_of l.world))
          (λ vs. give (l.values ++ vs)))
          (ev_all (exprs_in (known_of l.place) l.exprs) (self_of l.place) (seen l.rows) l.frame
          (world_of l.initial.world));
      small : costs left ≤ costs (exprs_in (known_of l.place) l.exprs);
    }

abbrev pub invariant-lists::holds-loop-conjunct : goal.invariant-lists::holds-loop-conjunct
invariant-lists::holds-loop-conjunct l =
    let left = exprs_in (known_of l.place) (drop l.conjunct-index l.conjuncts) in
    record {
      going : Going l.initial.world l.world (holds left (self_of l.place) (seen l.rows) l.frame
          (world_of l.world))
          (holds (exprs_in (known_of l.place) l.conjuncts) (self_of l.place) (seen l.rows) l.frame
          (world_of l.initial.world));
      small : costs left ≤ costs (exprs_in (known_of l.place) l.conjuncts);
    }

abbrev pub invariant-queries::from_rows-loop-item : goal.invariant-queries::from_rows-loop-item
invariant-queries::from_rows-loop-item l =
    let left = map (item_in (known_of l.place)) (drop l.item-index l.items) in
    let from = from_of (map (item_in (known_of l.place)) l.items) in
    record {
      going : Going l.initial.world l.world (all_joined (self_of l.place) left (seen l.outer) l.frame l.joined
          (world_of l.world)) (from_rows from (self_of l.place) (seen l.outer) l.frame
          (world_of l.initial.world));
      small : left_cost l.joined left ≤ from_cost from;
    }

abbrev pub invariant-joins::matched-loop-row : goal.invariant-joins::matched-loop-row
invariant-joins::matched-loop-row l =
    let part = matches_of (self_of l.place) (exprs_in (known_of l.place) l.on) l.nulls (seen l.outer) l.frame l.right in
    Going l.initial.world l.world (after (each_listed part (drop l.row-index l.left)
    (world_of l.world)) (λ vs. give (l.all ++ vs)))
    (matched (self_of l.place) (exprs_in (known_of l.place) l.on) l.nulls (seen l.outer) l.frame l.left l.right
    (world_of l.initial.world))

abbrev pub invariant-joins::matching_pairs-loop-row : goal.invariant-joins::matching_pairs-loop-row
invariant-joins::matching_pairs-loop-row l =
    let part = match_of (self_of l.place) (exprs_in (known_of l.place) l.on) (seen l.outer) l.frame l.left in
    Going l.initial.world l.world (after (each_kept part (drop l.row-index l.right)
    (world_of l.world)) (λ vs. give (l.found ++ vs)))
    (each_kept part l.right (world_of l.initial.world))

abbrev pub invariant-groups::folded-loop-row : goal.invariant-groups::folded-loop-row
invariant-groups::folded-loop-row l =
    let record_at : Row → Eval (Option Row) = λ row. record_of (exprs_in (known_of l.place) l.parts)
    (exprs_in (known_of l.place) l.conjuncts) (self_of l.place) (row ∷ seen l.outer) l.frame in
    Going l.initial.world l.world (after (each_kept record_at (drop l.row-index l.rows)
    (world_of l.world)) (λ vs. give (fold with_row l.folding vs)))
    (parts_folded (self_of l.place) l.fn.already (exprs_in (known_of l.place) l.parts) (exprs_in (known_of l.place) l.conjuncts)
    (seen l.outer) l.frame l.rows (world_of l.initial.world))

abbrev pub invariant-groups::records-loop-group : goal.invariant-groups::records-loop-group
invariant-groups::records-loop-group l =
    let part = end_record (self_of l.place) (exprs_in (known_of l.place) l.having) (exprs_in (known_of l.place) l.list)
    (seen l.outer) l.frame in
    Going l.initial.world l.world (after (each_kept part (drop l.group-index l.groups)
    (world_of l.world)) (λ vs. give (l.records ++ vs)))
    (each_kept part l.groups (world_of l.initial.world))

abbrev pub invariant-records::records_of-loop-row : goal.invariant-records::records_of-loop-row
invariant-records::records_of-loop-row l =
    let record_at : Row → Eval (Option Row) = λ row. record_of (exprs_in (known_of l.place) l.list)
    (exprs_in (known_of l.place) l.tests) (self_of l.place) (row ∷ seen l.outer) l.frame in
    Going l.initial.world l.world (after (each_kept record_at (drop l.row-index l.rows)
    (world_of l.world)) (λ vs. give (l.records ++ vs)))
    (each_kept record_at l.rows (world_of l.initial.world))

-- calls

abbrev pub decreases-calls::call : goal.decreases-calls::call
decreases-calls::call l = 8 * (cost (called (known_of l.place.now) l.name.now
    (exprs_in (known_of l.place.now) l.arguments.now)) + self_cost l.place.now) - 1

abbrev pub decreases-calls::call_itself : goal.decreases-calls::call_itself
decreases-calls::call_itself l = 8 * (costs (exprs_in (known_of l.place.now) l.arguments.now) + 1 +
    self_cost l.place.now)

abbrev pub decreases-calls::call_other : goal.decreases-calls::call_other
decreases-calls::call_other l = 8 * (costs (exprs_in (known_of l.place.now) l.arguments.now) +
    routine_cost (routines_of l.place.now.catalog.now l.name.now) + 1 + self_cost l.place.now)

abbrev pub decreases-calls::call_returned : goal.decreases-calls::call_returned
decreases-calls::call_returned l =
    8 * routine_cost (routines_of l.place.now.catalog.now l.name.now) + 4

abbrev pub decreases-calls::call_stated : goal.decreases-calls::call_stated
decreases-calls::call_stated l =
    8 * routine_cost (routines_of l.place.now.catalog.now l.name.now) + 4

abbrev pub decreases-calls::run_body : goal.decreases-calls::run_body
decreases-calls::run_body l =
    8 * (cost (expr_in (no_routine l.place.now.catalog.now) l.body.now) + 1)

abbrev pub decreases-functions::call_function : goal.decreases-functions::call_function
decreases-functions::call_function l = 8 * call_cost l.room (function_view
    (routines_of l.place.now.catalog.now) l.name.now (interpreted_of l.function.now)) + 3

abbrev pub decreases-functions::activate_function : goal.decreases-functions::activate_function
decreases-functions::activate_function l = 8 * call_cost l.room (function_view
    (routines_of l.place.now.catalog.now) l.name.now (interpreted_of l.function.now)) + 2

abbrev pub decreases-functions::run_function : goal.decreases-functions::run_function
decreases-functions::run_function l = 8 * run_cost l.room (function_view
    (routines_of l.place.now.catalog.now) l.name.now (interpreted_of l.function.now)) + 1

-- procedures

abbrev pub decreases-procedures::call_procedure : goal.decreases-procedures::call_procedure
decreases-procedures::call_procedure l = 8 * call_cost l.room (procedure_view
    (routines_of l.place.now.catalog.now) l.name.now (procedure_of l.procedure.now)) + 3

abbrev pub decreases-procedures::activate_procedure :
    goal.decreases-procedures::activate_procedure
decreases-procedures::activate_procedure l = 8 * call_cost l.room (procedure_view
    (routines_of l.place.now.catalog.now) l.name.now (procedure_of l.procedure.now)) + 2

abbrev pub decreases-procedures::run_procedure : goal.decreases-procedures::run_procedure
decreases-procedures::run_procedure l = 8 * run_cost l.room (procedure_view
    (routines_of l.place.now.catalog.now) l.name.now (procedure_of l.procedure.now)) + 1

-- CALL

abbrev pub decreases-passing::run_call : goal.decreases-passing::run_call
decreases-passing::run_call l = 8 * (stmt_cost (performed (known_of l.place.now)
    l.call.now.procedure (arguments_in (known_of l.place.now) l.call.now.arguments)) +
    scopes_cost l.place.now + self_cost l.place.now) - 1

abbrev pub decreases-passing::perform_into : goal.decreases-passing::perform_into
decreases-passing::perform_into l = 8 * (stmt_cost (performed (known_of l.place.now) l.name.now
    (arguments_in (known_of l.place.now) l.arguments.now)) + self_cost l.place.now) - 2

abbrev pub decreases-passing::perform : goal.decreases-passing::perform
decreases-passing::perform l = 8 * (stmt_cost (performed (known_of l.place.now) l.name.now
    (arguments_in (known_of l.place.now) l.arguments.now)) + self_cost l.place.now) - 3

abbrev pub decreases-passing::perform_itself : goal.decreases-passing::perform_itself
decreases-passing::perform_itself l = 8 * (arguments_cost
    (arguments_in (known_of l.place.now) l.arguments.now) + self_cost l.place.now) + 5

abbrev pub decreases-passing::perform_other : goal.decreases-passing::perform_other
decreases-passing::perform_other l = 8 * (arguments_cost
    (arguments_in (known_of l.place.now) l.arguments.now) +
    routine_cost (routines_of l.place.now.catalog.now l.name.now) + self_cost l.place.now) + 5

abbrev pub decreases-passing::pass : goal.decreases-passing::pass
decreases-passing::pass l = 8 * (arguments_cost
    (arguments_in (known_of l.place.now) l.arguments.now) + self_cost l.place.now) + 4

abbrev pub decreases-passing::pass_all : goal.decreases-passing::pass_all
decreases-passing::pass_all l = 8 * (arguments_cost
    (arguments_in (known_of l.place.now) l.arguments.now) + self_cost l.place.now) + 3

abbrev pub decreases-passing::pass_one : goal.decreases-passing::pass_one
decreases-passing::pass_one l =
    8 * (argument_cost (known_of l.place.now) l.argument.now + self_cost l.place.now) + 2

abbrev pub invariant-passing::pass_all-loop-at : goal.invariant-passing::pass_all-loop-at
invariant-passing::pass_all-loop-at l =
    let left = arguments_in (known_of l.place) (drop l.at l.arguments) in
    record {
      going : Going l.initial.world l.world (after
          (argue left (drop l.at (with_modes l.modes l.types)) (self_of l.place) l.frame
          (world_of l.world)) (λ vs. give (l.values ++ vs)))
          (argue (arguments_in (known_of l.place) l.arguments) (with_modes l.modes l.types)
          (self_of l.place) l.frame (world_of l.initial.world));
      small : arguments_cost left ≤ arguments_cost (arguments_in (known_of l.place) l.arguments);
    }

-- units

-- statements

-- ---- statements

abbrev pub decreases-statements::run_stmt : goal.decreases-statements::run_stmt
decreases-statements::run_stmt l =
    8 * (stmt_cost (stmt_in (known_of l.place.now) l.stmt.now (queries_of l.place.now)) +
    scopes_cost l.place.now + self_cost l.place.now)

abbrev pub decreases-statements::run_next : goal.decreases-statements::run_next
decreases-statements::run_next l =
    8 * (stmt_cost (stmt_in (known_of l.place.now) l.stmt.now (queries_of l.place.now)) +
    scopes_cost l.place.now + self_cost l.place.now) + 1

abbrev pub decreases-statements::run_list : goal.decreases-statements::run_list
decreases-statements::run_list l =
    8 * (stmts_cost (stmts_in (known_of l.place.now) l.stmts.now (queries_of l.place.now)) +
    scopes_cost l.place.now + self_cost l.place.now)

abbrev pub decreases-statements::run_branches : goal.decreases-statements::run_branches
decreases-statements::run_branches l =
    8 * (branches_cost (branches_in (known_of l.place.now) l.branches.now (queries_of l.place.now))
    + stmts_cost (stmts_in (known_of l.place.now) l.otherwise.now (queries_of l.place.now)) +
    scopes_cost l.place.now + self_cost l.place.now) + 6

abbrev pub decreases-statements::run_else : goal.decreases-statements::run_else
decreases-statements::run_else l =
    8 * (stmts_cost (stmts_in (known_of l.place.now) l.otherwise.now (queries_of l.place.now)) +
    scopes_cost l.place.now + self_cost l.place.now) + 5

abbrev pub decreases-loops::run_loop : goal.decreases-loops::run_loop
decreases-loops::run_loop l =
    8 * (test_cost (known_of l.place.now) (option_copied l.before) +
    stmts_cost (stmts_in (known_of l.place.now) l.body.now (queries_of l.place.now)) +
    test_cost (known_of l.place.now) (option_copied l.until) +
    scopes_cost l.place.now + self_cost l.place.now) + 6

abbrev pub decreases-loops::run_for : goal.decreases-loops::run_for
decreases-loops::run_for l =
    8 * (query_cost (query_in (known_of l.place.now) l.query.now) +
    stmts_cost (stmts_in (known_of l.place.now) l.body.now (queries_of l.place.now)) +
    scopes_cost l.place.now + self_cost l.place.now) + 6

abbrev pub decreases-loops::run_rows : goal.decreases-loops::run_rows
decreases-loops::run_rows l =
    8 * (stmts_cost (stmts_in (known_of l.place.now) l.body.now (queries_of l.place.now)) +
    scopes_cost l.place.now + self_cost l.place.now) + 1

abbrev pub invariant-statements::run_list-loop-stmt : goal.invariant-statements::run_list-loop-stmt
invariant-statements::run_list-loop-stmt l =
    let k = known_of l.place in
    let left = stmts_in k (drop l.stmt-index l.stmts) (queries_of l.place) in
    let all = stmts_in k l.stmts (queries_of l.place) in
    record {
      underway : Underway l.initial.world l.world
          (does_all left (context_of l.place) l.frame (world_of l.world))
          (does_all all (context_of l.place) l.initial.frame (world_of l.initial.world));
      small : stmts_cost left ≤ stmts_cost all;
    }

abbrev pub invariant-statements::run_branches-loop-branch :
    goal.invariant-statements::run_branches-loop-branch
invariant-statements::run_branches-loop-branch l =
    let k = known_of l.place in
    let left = branches_in k (drop l.branch-index l.branches) (queries_of l.place) in
    let all = branches_in k l.branches (queries_of l.place) in
    let otherwise = does_otherwise l.wants_else (stmts_in k l.otherwise (queries_of l.place))
    (context_of l.place) in
    record {
      underway : Underway l.initial.world l.world
          (does_choice (option_copied l.operand) left (context_of l.place) otherwise l.frame
          (world_of l.world))
          (does_choice (option_copied l.operand) all (context_of l.place) otherwise
          l.initial.frame (world_of l.initial.world));
      small : branches_cost left ≤ branches_cost all;
    }

abbrev pub decreases-loops::run_loop-loop-stop : goal.decreases-loops::run_loop-loop-stop
decreases-loops::run_loop-loop-stop l = l.world.turns

abbrev pub invariant-loops::run_loop-loop-stop : goal.invariant-loops::run_loop-loop-stop
invariant-loops::run_loop-loop-stop l =
    let k = known_of l.place in
    let c = context_of l.place in
    let body = does_all (stmts_in k l.body (queries_of l.place)) (inside c) in
    LoopUnderway k (option_copied l.before) (option_copied l.until) (self_of l.place)
    (scopes_of l.place) l.place.level body l.frame l.initial.world l.world
    (looping l.place.level (before_by k (option_copied l.before) (self_of l.place)
    (scopes_of l.place)) body (after_by k (option_copied l.until) (self_of l.place)
    (scopes_of l.place)) l.initial.frame (world_of l.initial.world))

abbrev pub invariant-loops::run_rows-loop-row : goal.invariant-loops::run_rows-loop-row
invariant-loops::run_rows-loop-row l =
    let body = does_all (stmts_in (known_of l.place) l.body (queries_of l.place))
    (inside (context_of l.place)) in
    Underway l.initial.world l.world
    (for_each l.place.level (drop l.row-index l.rows) body l.frame (world_of l.world))
    (for_each l.place.level l.rows body l.initial.frame (world_of l.initial.world))

abbrev pub decreases-raising::stopped : goal.decreases-raising::stopped
decreases-raising::stopped l = 8 * (scopes_cost l.place.now + self_cost l.place.now) + 6

abbrev pub decreases-raising::fail : goal.decreases-raising::fail
decreases-raising::fail l = 8 * (scopes_cost l.place.now + self_cost l.place.now) + 5

abbrev pub decreases-raising::signal : goal.decreases-raising::signal
decreases-raising::signal l = 8 * (scopes_cost l.place.now + self_cost l.place.now) + 5

abbrev pub decreases-raising::take : goal.decreases-raising::take
decreases-raising::take l = 8 * (scopes_cost l.place.now + self_cost l.place.now) + 4

abbrev pub decreases-raising::act_aside : goal.decreases-raising::act_aside
decreases-raising::act_aside l = 8 * (scopes_cost l.place.now + self_cost l.place.now) + 3

abbrev pub decreases-raising::act : goal.decreases-raising::act
decreases-raising::act l =
    let k = known_of l.place.now in
    8 * (stmt_cost ((handler_in k l.handler.now).action (queries_in k l.scope.now.queries.now)) +
    handlers_costs k l.outer.now + self_cost l.place.now) + 1

abbrev pub decreases-blocks::run_block : goal.decreases-blocks::run_block
decreases-blocks::run_block l =
    8 * (stmt_cost (block_in (known_of l.place.now) l.block.now (queries_of l.place.now)) +
    scopes_cost l.place.now + self_cost l.place.now) - 1

abbrev pub decreases-blocks::run_declared : goal.decreases-blocks::run_declared
decreases-blocks::run_declared l =
    let k = known_of l.place.now in
    let b = out-BoundBlock l.block.now in
    let seen = queries_of l.place.now ++ map (query_in k) b.cursors in
    8 * (handlers_cost (handlers_at k l.block.now seen) + stmts_cost (stmts_in k b.statements seen)
    + scopes_cost l.place.now + self_cost l.place.now) + 5

abbrev pub decreases-blocks::run_scoped : goal.decreases-blocks::run_scoped
decreases-blocks::run_scoped l =
    let k = known_of l.place.now in
    let b = out-BoundBlock l.block.now in
    let seen = queries_in k l.queries.now in
    8 * (handlers_cost (handlers_at k l.block.now seen) + stmts_cost (stmts_in k b.statements seen)
    + scopes_cost l.place.now + self_cost l.place.now) + 4

abbrev pub decreases-blocks::run_inside : goal.decreases-blocks::run_inside
decreases-blocks::run_inside l =
    let k = known_of l.place.now in
    8 * (stmts_cost (stmts_in k l.statements.now (queries_in k l.own.now.queries.now))
    + handlers_costs k l.scopes.now + self_cost l.place.now) + 3

abbrev pub decreases-blocks::close : goal.decreases-blocks::close
decreases-blocks::close l =
    let k = known_of l.place.now in
    8 * (handlers_cost (handlers_of k l.own.now) + handlers_costs k l.outer.now +
    self_cost l.place.now) + 3

abbrev pub decreases-blocks::exit : goal.decreases-blocks::exit
decreases-blocks::exit l =
    let k = known_of l.place.now in
    8 * (handlers_cost (handlers_of k l.own.now) + handlers_costs k l.outer.now +
    self_cost l.place.now) + 2

abbrev pub decreases-blocks::seal : goal.decreases-blocks::seal
decreases-blocks::seal l = 8 * (scopes_cost l.place.now + self_cost l.place.now) + 7

abbrev pub decreases-blocks::raise_whole : goal.decreases-blocks::raise_whole
decreases-blocks::raise_whole l = 8 * (scopes_cost l.place.now + self_cost l.place.now) + 6

abbrev pub decreases-blocks::declare : goal.decreases-blocks::declare
decreases-blocks::declare l =
    8 * (variables_cost (variables_in (known_of l.place.now) l.variables.now) +
    self_cost l.place.now)

abbrev pub invariant-blocks::declare-loop-group : goal.invariant-blocks::declare-loop-group
invariant-blocks::declare-loop-group l =
    let k = known_of l.place in
    let left = drop l.group-index l.variables in
    record {
      declared : Declared k l.variables left (self_of l.place) l.initial.frame l.frame
          l.initial.world l.world;
      small : variables_cost (variables_in k left) ≤ variables_cost (variables_in k l.variables);
    }

-- units

abbrev pub decreases-units::evaluate : goal.decreases-units::evaluate
decreases-units::evaluate l =
    8 * (cost (expr_in (known_of l.place.now) l.expr.now) + self_cost l.place.now) + 2

abbrev pub decreases-units::assess : goal.decreases-units::assess
decreases-units::assess l =
    8 * (query_cost (query_in (known_of l.place.now) l.query.now) + self_cost l.place.now) + 5

abbrev pub decreases-units::goes_on : goal.decreases-units::goes_on
decreases-units::goes_on l =
    8 * (test_cost (known_of l.place.now) (option_copied l.test) + self_cost l.place.now) + 3

abbrev pub decreases-units::assigned_value : goal.decreases-units::assigned_value
decreases-units::assigned_value l =
    8 * (cost (expr_in (known_of l.place.now) l.expr.now) + self_cost l.place.now) + 2

abbrev pub decreases-units::default_of : goal.decreases-units::default_of
decreases-units::default_of l =
    8 * (perhaps_cost (perhaps (known_of l.place.now) l.group.now.default) +
    self_cost l.place.now)

abbrev pub decreases-units::evaluate_perhaps : goal.decreases-units::evaluate_perhaps
decreases-units::evaluate_perhaps l =
    8 * (perhaps_cost (perhaps (known_of l.place.now) (option_copied l.expr)) +
    self_cost l.place.now) - 5

-- SET and cursors

abbrev pub decreases-assigning::run_set : goal.decreases-assigning::run_set
decreases-assigning::run_set l =
    8 * (cost (expr_in (known_of l.place.now) l.expr.now) + scopes_cost l.place.now +
    self_cost l.place.now) + 7

abbrev pub decreases-cursors::run_open : goal.decreases-cursors::run_open
decreases-cursors::run_open l =
    8 * (query_cost (cursor_in (queries_of l.place.now) l.slot) + scopes_cost l.place.now +
    self_cost l.place.now) + 7

abbrev pub decreases-cursors::run_fetch : goal.decreases-cursors::run_fetch
decreases-cursors::run_fetch l = 8 * (scopes_cost l.place.now + self_cost l.place.now) + 7

abbrev pub decreases-cursors::run_close : goal.decreases-cursors::run_close
decreases-cursors::run_close l = 8 * (scopes_cost l.place.now + self_cost l.place.now) + 7

abbrev pub decreases-cursors::cursor_rows : goal.decreases-cursors::cursor_rows
decreases-cursors::cursor_rows l =
    8 * (query_cost (cursor_in (queries_of l.place.now) l.slot) + self_cost l.place.now) + 6

-- SIGNAL and RESIGNAL

abbrev pub decreases-signals::run_signal : goal.decreases-signals::run_signal
decreases-signals::run_signal l =
    8 * (perhaps_cost (perhaps (known_of l.place.now) l.statement.now.message) +
    scopes_cost l.place.now + self_cost l.place.now) + 7

abbrev pub decreases-signals::run_resignal : goal.decreases-signals::run_resignal
decreases-signals::run_resignal l =
    8 * (perhaps_cost (perhaps (known_of l.place.now) l.statement.now.message) +
    scopes_cost l.place.now + self_cost l.place.now) + 7

abbrev pub decreases-signals::raise_again : goal.decreases-signals::raise_again
decreases-signals::raise_again l = 8 * (scopes_cost l.place.now + self_cost l.place.now) + 6

-- INSERT, UPDATE and DELETE

abbrev pub decreases-writing::run_change : goal.decreases-writing::run_change
decreases-writing::run_change l =
    8 * (query_cost (query_in (known_of l.place.now) l.query.now) + scopes_cost l.place.now +
    self_cost l.place.now) + 7

abbrev pub decreases-writing::changed : goal.decreases-writing::changed
decreases-writing::changed l =
    8 * (query_cost (query_in (known_of l.place.now) l.query.now) + self_cost l.place.now) + 5

-- SELECT INTO

abbrev pub decreases-selecting::run_select_into : goal.decreases-selecting::run_select_into
decreases-selecting::run_select_into l =
    8 * (query_cost (query_in (known_of l.place.now) l.query.now) + scopes_cost l.place.now +
    self_cost l.place.now) + 7

abbrev pub decreases-selecting::selected : goal.decreases-selecting::selected
decreases-selecting::selected l =
    8 * (query_cost (query_in (known_of l.place.now) l.query.now) + self_cost l.place.now) + 5

-- GET DIAGNOSTICS

abbrev pub decreases-diagnosing::run_get_diagnostics :
    goal.decreases-diagnosing::run_get_diagnostics
decreases-diagnosing::run_get_diagnostics l =
    8 * (stmt_cost (diagnostics (known_of l.place.now) (which_area l.statement.now.area)
    l.statement.now.information) + scopes_cost l.place.now + self_cost l.place.now) - 1
