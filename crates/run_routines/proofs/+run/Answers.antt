use Rattle.std.proofs.Common.{◌∙◌, ◌∷◌, List, None, refl, sym, ap, map, length, arith}
use Rattle.std.proofs.Common.{rules, ◌≡◌, subst, ◌++◌, Bool, true, false, [], Option}
use Rattle.std.proofs.Common.{Result, Ok, Err, take}
use Rattle.std.specs.Option.{option_copied}
use Rattle.rel_algebra.specs.Meaning.{ev_args, from_rows, record_of, Context, does_all, inside}
use Rattle.rel_algebra.specs.Meaning.{call, does, inside_scopes, answer, ev_perhaps}
use Rattle.routine_views.specs.Views.{arguments as arguments_in, stmt_in, target, perhaps}
use Rattle.routine_views.specs.Views.{query_in}
use Rattle.run_places.specs.Views.{exprs_in, item_in}
use Rattle.catalog_store.specs.View.{from_of}
use Rattle.run_expressions.specs.Content.{world_of, Content}
use Rattle.run_choices.specs.Sight.{seen}
use Rattle.run_choices.specs.Words.{passes_by}
use Rattle.row_types.specs.Rows.{Row}
use Rattle.run_places.specs.Groups.{end_record}
use Rattle.run_places.specs.Joins.{match_of, matches_of, all_joined}
use Rattle.run_places.proofs.Laws.{rows_cost-rest, costs-rest}
use Rattle.run_expressions.proofs.Laws.{follows, going, none_yet, stays_same, unit_stops}
use Rattle.run_places.proofs.Laws.{all_go, all_stop, args_go, args_stop, rows_go, rows_stop}
use Rattle.run_places.proofs.Laws.{arms_cost, case_of_ends, case_of_stops, is_strict, strict_ends}
use Rattle.run_places.proofs.Laws.{IsCaseOf}
use Rattle.run_places.proofs.Laws.{costs-arm, last_result, test_fails, test_passes, test_stops}
use Rattle.run_places.proofs.Laws.{source_small, join_small, left_small, from_less, list_less}
use Rattle.run_places.proofs.Laws.{groups_less, inner_less, left_less}
use Rattle.bound_trees.specs.declared.query.BoundSelect.{out-BoundSelect}
use Rattle.bound_trees.specs.declared.query.BoundGrouping.{out-BoundGrouping}
use Rattle.bound_trees.specs.declared.expr.BoundExpr.{BoundExpr}
use Rattle.run_places.specs.Cost.{costs, from_cost, arguments_cost, stmt_cost}
use Rattle.run_places.proofs.Laws.{from_left, item_stops, join_stops, item_joined, from_stops}
use Rattle.run_places.proofs.Laws.{comma_ends, cross_ends}
use Rattle.run_keys.proofs.Laws.{grouped_made, listed_made}
use Rattle.run_operands.proofs.Laws.{at_once_ends, done_ends}
use Rattle.run_routines.proofs.Selected.{all_ends, met_ends}
use Rattle.run_places.proofs.Laws.{inner_ends, left_ends, on_ends}
use Rattle.run_places.proofs.Laws.{listed_stop, listed_go, kept_stop, kept_go, match_ends}
use Rattle.run_places.proofs.Laws.{groups_stop, groups_end, part_stops, part_taken}
use Rattle.run_places.proofs.Laws.{single_ends, exists_ends, ordered_ends}
use Rattle.run_places.specs.Places.{known_of, no_routine, self_of, call_cost, context_of}
use Rattle.run_places.specs.Places.{queries_of, scopes_of, handlers_costs, queries_in}
use Rattle.run_places.proofs.Laws.{returned_ends, another_ends, within_ends}
use Rattle.rel_algebra.specs.Tree.{Routine, parameters_of, Query}
use Rattle.catalog_store.specs.Entries.{interpreted_of, procedure_of}
use Rattle.routine_views.specs.Routines.{function_view, procedure_view, routines_of, with_modes}
use Rattle.run_places.specs.declared.own.SelfCall.{SelfCall}
use Rattle.run_places.specs.Calls.{CostsAsSelf}
use Rattle.run_places.proofs.Laws.{function_activated, function_ends, procedure_activated}
use Rattle.run_places.proofs.Laws.{procedure_ends}
use Rattle.run_places.proofs.Laws.{arguments_cost-rest, comes_by, passing_goes, passing_stops}
use Rattle.run_places.proofs.Laws.{falls_to_again, falls_to_self}
use Rattle.rel_algebra.specs.Calls.{given_or}
use Rattle.rel_algebra.specs.Doing.{storing}
use Rattle.rel_algebra.specs.Tree.{Parameter}
use Rattle.routine_views.specs.Views.{performed, target}
use Rattle.run_choices.specs.Ending.{TellsAnywhere}
use Rattle.run_outcomes.specs.Outcomes.{outcome_of}
use Rattle.run_places.specs.Passing.{comes_into}
use Rattle.run_places.proofs.Laws.{call_stops, call_stores, other_ends, performed_does}
use Rattle.run_places.proofs.Laws.{performed_ends}
use Rattle.run_places.proofs.Laws.{modes_known}
use Rattle.sql_texts.specs.declared.memory.NoMemory.{NoMemory}
use Rattle.bound_trees.specs.declared.statement.BoundStmt.{BoundStmt}
use Rattle.rel_algebra.specs.World.{Ends, Frame, Gives, unit}
use Rattle.rel_algebra.specs.Doing.{Doing, settled, first_of, with_more}
use Rattle.rel_algebra.specs.Loops.{for_each, looping}
use Rattle.run_expressions.specs.Ending.{Ended}
use Rattle.run_expressions.proofs.Laws.{stays_on}
use Rattle.run_outcomes.specs.declared.outcome.Outcome.{Outcome}
use Rattle.run_places.specs.declared.place.Place.{Place}
use Rattle.run_places.specs.Insides.{one_inside}
use Rattle.run_places.specs.Ran.{Ran, GoesOnFrom, before_by, after_by, does_choice}
use Rattle.run_places.specs.Statements.{stmts_in, branches_in}
use Rattle.run_places.proofs.Laws.{list_next, stmts_cost-rest, choice_none}
use Rattle.run_places.proofs.Laws.{before_ends, before_stops, no_turn, in_body, body_ends}
use Rattle.run_places.proofs.Laws.{at_end, after_stops, after_ends, next_run}
use Rattle.run_places.proofs.Laws.{inside_cost}
use Rattle.run_outcomes.specs.declared.choice.Scope.{Scope}
use Rattle.run_outcomes.specs.Scopes.{scopes_by}
use Rattle.run_places.specs.Acting.{acts_of}
use Rattle.run_places.proofs.Laws.{action_cost, action_does, action_less, outer_less}
use Rattle.run_places.proofs.Laws.{none_ends, outwards_ends, here_ends, comes_back, settles}
use Rattle.run_places.proofs.Laws.{stop_fails, stop_ends, stop_wants, seal_fails, seal_ends}
use Rattle.run_places.specs.declared.onward.Onward.{Onward}
use Rattle.run_places.specs.Onward.{IsAfterStop}
use Rattle.run_places.proofs.Laws.{same_end}
use Rattle.run_frames.specs.declared.extent.Extent.{Extent}
use Rattle.run_places.specs.Blocks.{handlings_by, body_by}
use Rattle.run_places.proofs.Laws.{set_stops}
use Rattle.run_places.proofs.Laws.{stmts_some}
use Rattle.run_places.proofs.Laws.{closed_end, costs_append, within_does, scoped_cost}
use Rattle.run_places.proofs.Laws.{scoped_does}
use Rattle.run_places.proofs.Laws.{branch_passed, branch_stops, branch_taken}
use Rattle.run_places.proofs.Laws.{branches_cost-rest}
use Rattle.run_places.proofs.Laws.{declared_next, declared_stops, variables_cost-rest}
use Rattle.run_places.proofs.Laws.{rows_again, rows_over, rows_spent}
use Rattle.sql_conditions.specs.Conditions.{Area, one_condition}
use Rattle.rel_algebra.specs.Handlers.{failing}
use Rattle.run_places.proofs.Laws.{get_stores, get_stops, get_number_stops}
use Rattle.run_choices.specs.declared.stop.Stop.{Stop}
use Rattle.rel_algebra.specs.World.{Called}
use Rattle.routine_views.specs.Views.{Known}
use Rattle.run_routines.proofs.Otherwise.{else_fails, else_runs}
use Rattle.sql_values.specs.declared.value.Value.{Value}
use Rattle.run_places.proofs.Laws.{no_query_at}
use Rattle.run_routines.proofs.Arms.{while_does, repeat_does, select_into_does}
use Rattle.run_routines.proofs.Signalling.{perhaps_stops, signal_ends}
use Rattle.run_routines.proofs.Storing.{goes_on_with, unit_gives}
use Rattle.run_routines.specs.Writing.{writes, written}
use Rattle.run_routines.specs.Otherwise.{does_otherwise}
use Rattle.run_routines.proofs.+run.Goals as goal

pub expr::case-returns-in_err-test : goal.expr::case-returns-in_err-test
expr::case-returns-in_err-test t c =
    test_stops (self_of c.args.place.now) (known_of c.args.place.now) c.args.arms.now c.loop-at.at c.index-arms-at.result
    (passes_by (option_copied c.args.operand)) (seen c.args.rows.now) c.args.frame.now
    c.args.world.now c.loop-at.world c.eval.new.world
    c.in_err-test.field-0.0 _ _ (omega (arith, c.loop-at-test.true)) c.index-arms-at.is
    c.loop-at.invariant.going c.in_err-test.ensures (search rules)

pub expr::case-returns-then-passes : goal.expr::case-returns-then-passes
expr::case-returns-then-passes t c =
    test_passes (self_of c.args.place.now) (known_of c.args.place.now) c.args.arms.now c.loop-at.at c.index-arms-at.result
    c.index-arms-at-then-passes.result (passes_by (option_copied c.args.operand))
    (seen c.args.rows.now) c.args.frame.now c.args.world.now
    c.loop-at.world c.eval.new.world c.eval-then-passes.new.world c.in_ok-test.test _
    c.eval-then-passes.result (omega (arith, c.loop-at-test.true)) c.index-arms-at.is
    c.index-arms-at-then-passes.is
    c.loop-at.invariant.going c.in_ok-test.ensures (sym c.passes.ensures ∙ c.if-passes.true)
    c.eval-then-passes.ensures

pub expr::case-loop-at-preserved-else-passes : goal.expr::case-loop-at-preserved-else-passes
expr::case-loop-at-preserved-else-passes t c = record {
  going =
      test_fails (self_of c.args.place.now) (known_of c.args.place.now) c.args.arms.now c.loop-at.at c.index-arms-at.result
      (passes_by (option_copied c.args.operand)) (seen c.args.rows.now) c.args.frame.now
      c.args.world.now c.loop-at.world c.eval.new.world
      c.in_ok-test.test _ (omega (arith, c.loop-at-test.true)) c.index-arms-at.is
      c.loop-at.invariant.going c.in_ok-test.ensures (sym c.passes.ensures ∙ c.if-passes.false);
  small = omega (
    arith,
    costs-arm (known_of c.args.place.now) c.args.arms.now c.loop-at.at
        c.index-arms-at.result (omega (arith, c.loop-at-test.true)) c.index-arms-at.is,
    c.loop-at.invariant.small,
  );
  within = omega (arith, c.loop-at-test.true);
}

pub expr::case-loop-at-preserved : goal.expr::case-loop-at-preserved
expr::case-loop-at-preserved t c = record {
  going =
      test_fails (self_of c.args.place.now) (known_of c.args.place.now) c.args.arms.now c.loop-at.at c.index-arms-at.result
      (passes_by (option_copied c.args.operand)) (seen c.args.rows.now) c.args.frame.now
      c.args.world.now c.loop-at.world c.eval.new.world
      c.in_ok-test.test _ (omega (arith, c.loop-at-test.true)) c.index-arms-at.is
      c.loop-at.invariant.going c.in_ok-test.ensures (sym c.passes.ensures ∙ c.if-passes.false);
  small = omega (
    arith,
    costs-arm (known_of c.args.place.now) c.args.arms.now c.loop-at.at
        c.index-arms-at.result (omega (arith, c.loop-at-test.true)) c.index-arms-at.is,
    c.loop-at.invariant.small,
  );
  within = omega (arith, c.loop-at-test.true);
}

pub expr::case-returns-then-at-arms : goal.expr::case-returns-then-at-arms
expr::case-returns-then-at-arms t c =
    last_result (self_of c.args.place.now) (known_of c.args.place.now) c.args.arms.now c.loop-at.at c.index-arms-at-then-at-arms.result
    (passes_by (option_copied c.args.operand)) (seen c.args.rows.now) c.args.frame.now
    c.args.world.now c.loop-at.world
    c.eval-then-at-arms.new.world _ c.eval-then-at-arms.result c.if-at-arms.true
    (omega (arith, c.loop-at-test.false)) c.index-arms-at-then-at-arms.is
    c.loop-at.invariant.going c.eval-then-at-arms.ensures

pub expr::eval_arguments-loop-at-init : goal.expr::eval_arguments-loop-at-init
expr::eval_arguments-loop-at-init t c = record {
  going = none_yet c.args.world.now (ev_args (exprs_in (known_of c.args.place.now) c.args.arguments.now)
      c.args.parameters.now (self_of c.args.place.now) (seen c.args.rows.now) c.args.frame.now
      (world_of c.args.world.now)) c.new-values.result c.new-values.ensures;
  small = omega arith;
}

pub expr::operate-returns-in_err-value-in-len1-up :
    goal.expr::operate-returns-in_err-value-in-len1-up
expr::operate-returns-in_err-value-in-len1-up t c =
    case_of_stops (self_of c.args.place.now) (known_of c.args.place.now) c.args.operation c.args.operands.now c.operand-item.result
    (seen c.args.rows.now) c.args.frame.now c.args.world.now c.eval.new.world
    c.in_err-value-in-len1-up.field-0.0 _
    record {
      word_is = c.in-CaseOf.is;
      one = c.in-len1-up.len_at_least;
      first = c.operand-item.is;
      taken = sym c.takes.ensures ∙ c.if-not-takes.false;
    } c.in_err-value-in-len1-up.ensures
    (search rules)

pub expr::operate-case-requires-in-len1-up : goal.expr::operate-case-requires-in-len1-up
expr::operate-case-requires-in-len1-up t c =
    let it : IsCaseOf c.args.operation c.args.operands.now c.operand-item.result =
    record {
      word_is = c.in-CaseOf.is;
      one = c.in-len1-up.len_at_least;
      first =
          c.operand-item.is;
      taken = sym c.takes.ensures ∙ c.if-not-takes.false;
    } in (
      omega (
        arith,
        arms_cost (known_of c.args.place.now) c.args.operation c.args.operands.now
            c.operand-item.result it,
        c.decreases,
      ),
      tt,
    )

pub expr::operate-returns-in_ok-value-in-len1-up : goal.expr::operate-returns-in_ok-value-in-len1-up
expr::operate-returns-in_ok-value-in-len1-up t c =
    case_of_ends (self_of c.args.place.now) (known_of c.args.place.now) c.args.operation c.args.operands.now c.operand-item.result
    (seen c.args.rows.now) c.args.frame.now c.args.world.now c.eval.new.world
    c.case-in-len1-up.new.world
    c.in_ok-value-in-len1-up.value c.case-in-len1-up.result record {
      word_is = c.in-CaseOf.is;
      one =
          c.in-len1-up.len_at_least;
      first = c.operand-item.is;
      taken = sym c.takes.ensures ∙
          c.if-not-takes.false;
    } c.in_ok-value-in-len1-up.ensures
    c.case-in-len1-up.ensures

-- queries

pub queries::select_all-from_rows-requires : goal.queries::select_all-from_rows-requires
queries::select_all-from_rows-requires t c = (
  omega (
    arith,
    from_less (known_of c.args.place.now) c.args.query.now c.as_slice.result.now
        (out-BoundSelect c.args.query.now).items (out-BoundSelect c.args.query.now).conjuncts
        c.as_slice.ensures refl refl,
    c.decreases,
  ),
  tt,
)

pub queries::select_all-returns-in_err-rows : goal.queries::select_all-returns-in_err-rows
queries::select_all-returns-in_err-rows t c =
    from_stops (self_of c.args.place.now) (known_of c.args.place.now) c.args.query.now c.as_slice.result.now
    (out-BoundSelect c.args.query.now).items (out-BoundSelect c.args.query.now).conjuncts
    (seen c.args.outer.now) c.args.frame.now c.as_slice.ensures refl refl
    c.args.world.now c.from_rows.new.world c.in_err-rows.field-0.0 _ c.in_err-rows.ensures
    (search rules)

pub queries::select_all-returns : goal.queries::select_all-returns
queries::select_all-returns t c =
    all_ends (self_of c.args.place.now) (known_of c.args.place.now) c.args.query.now
    (seen c.args.outer.now) c.args.frame.now c.as_slice.result.now c.args.world.now
    c.from_rows.new.world c.made_of.new.world c.in_ok-rows.rows c.as_slice-2.result.now
    c.made_of.result c.as_slice.ensures c.as_slice-2.ensures c.in_ok-rows.ensures c.made_of.ensures

pub queries::select-returns-in-Some : goal.queries::select-returns-in-Some
queries::select-returns-in-Some t c =
    met_ends (self_of c.args.place.now) (known_of c.args.place.now) c.args.query.now
    (seen c.args.outer.now) c.args.frame.now c.args.world.now c.made_of.new.world
    c.in_ok-rows.field-0 c.in-Some.rows c.as_slice.result.now c.made_of.result c.in-Some.is
    c.in_ok-rows.ensures c.as_slice.ensures c.made_of.ensures

pub queries::made_of-grouped-requires : goal.queries::made_of-grouped-requires
queries::made_of-grouped-requires t c = (
  omega (
    arith,
    groups_less (known_of c.args.place.now) c.args.query.now
        (out-BoundSelect c.args.query.now).from c.as_slice-list.result.now
        c.as_slice-tests.result.now refl c.as_slice-list.ensures c.as_slice-tests.ensures
        c.in-Some.grouping (sym c.in-Some.is),
    c.decreases,
  ),
  tt,
)

pub queries::made_of-records_of-requires : goal.queries::made_of-records_of-requires
queries::made_of-records_of-requires t c = (
  omega (
    arith,
    list_less (known_of c.args.place.now) c.args.query.now
        (out-BoundSelect c.args.query.now).from c.as_slice-list.result.now
        c.as_slice-tests.result.now refl c.as_slice-list.ensures c.as_slice-tests.ensures
        (sym c.in-None.is),
    c.decreases,
  ),
  tt,
)

pub queries::made_of-returns-in-Some : goal.queries::made_of-returns-in-Some
queries::made_of-returns-in-Some t c =
    grouped_made (self_of c.args.place.now) (known_of c.args.place.now) c.args.query.now
    c.as_slice-list.result.now c.as_slice-tests.result.now (seen c.args.outer.now)
    c.args.frame.now c.args.rows.now c.as_slice-list.ensures c.as_slice-tests.ensures
    c.in-Some.grouping c.args.world.now c.grouped.new.world c.grouped.result (sym c.in-Some.is)
    c.grouped.ensures

pub queries::made_of-returns-in-None : goal.queries::made_of-returns-in-None
queries::made_of-returns-in-None t c =
    listed_made (self_of c.args.place.now) (known_of c.args.place.now) c.args.query.now
    c.as_slice-list.result.now c.as_slice-tests.result.now (seen c.args.outer.now)
    c.args.frame.now c.args.rows.now c.as_slice-list.ensures c.as_slice-tests.ensures
    c.args.world.now c.records_of.new.world c.records_of.result (sym c.in-None.is)
    c.records_of.ensures

-- groups

pub groups::grouped-folded-folding-requires : goal.groups::grouped-folded-folding-requires
groups::grouped-folded-folding-requires t c = (
  omega (
    arith,
    ap (λ (es : List BoundExpr). costs (exprs_in (known_of c.args.place.now) es))
        c.as_slice-parts.ensures,
    c.decreases,
  ),
  tt,
)

pub groups::grouped-records-requires : goal.groups::grouped-records-requires
groups::grouped-records-requires t c = (
  omega (
    arith,
    ap (λ (es : List BoundExpr). costs (exprs_in (known_of c.args.place.now) es))
        c.as_slice-having.ensures,
    c.decreases,
  ),
  tt,
)

-- FROM

pub queries::from_rows-loop-item-init : goal.queries::from_rows-loop-item-init
queries::from_rows-loop-item-init t c =
    let items = map (item_in (known_of c.args.place.now)) c.args.items.now in
    let w = world_of c.args.world.now in
    let outer = seen c.args.outer.now in
    record {
      going = going c.args.world.now (all_joined (self_of c.args.place.now) items outer c.args.frame.now None w)
          (from_rows (from_of items) (self_of c.args.place.now) outer c.args.frame.now w)
          (sym (from_left (self_of c.args.place.now) items outer c.args.frame.now w));
      small = omega arith;
    }

pub queries::from_rows-returns-in_err-rows : goal.queries::from_rows-returns-in_err-rows
queries::from_rows-returns-in_err-rows t c =
    item_stops (self_of c.args.place.now) (known_of c.args.place.now) c.args.items.now c.loop-item.item-index c.item-item.result
    c.item_source.result.now (seen c.args.outer.now) c.args.frame.now c.loop-item.joined
    c.args.world.now c.loop-item.world
    c.source_rows.new.world c.in_err-rows.field-0.0 _ _ (omega arith) c.item-item.is
    (c.item_source.ensures (known_of c.args.place.now)) c.loop-item.invariant.going c.in_err-rows.ensures
    (search rules)

pub queries::from_rows-returns-in_err-join : goal.queries::from_rows-returns-in_err-join
queries::from_rows-returns-in_err-join t c =
    join_stops (self_of c.args.place.now) (known_of c.args.place.now) c.args.items.now c.loop-item.item-index c.item-item.result
    c.item_source.result.now (seen c.args.outer.now) c.args.frame.now c.loop-item.joined
    c.args.world.now c.loop-item.world
    c.source_rows.new.world c.join.new.world c.in_ok-rows.rows c.in_err-join.field-0.0 _ _
    (omega arith) c.item-item.is (c.item_source.ensures (known_of c.args.place.now))
    c.loop-item.invariant.going c.in_ok-rows.ensures c.in_err-join.ensures (search rules)

pub queries::from_rows-loop-item-preserved : goal.queries::from_rows-loop-item-preserved
queries::from_rows-loop-item-preserved t c = record {
  going =
      item_joined (self_of c.args.place.now) (known_of c.args.place.now) c.args.items.now c.loop-item.item-index c.item-item.result
      c.item_source.result.now (seen c.args.outer.now) c.args.frame.now c.loop-item.joined
      c.args.world.now c.loop-item.world
      c.source_rows.new.world c.join.new.world c.in_ok-rows.rows c.in_ok-join.field-0 _
      (omega arith) c.item-item.is (c.item_source.ensures (known_of c.args.place.now))
      c.loop-item.invariant.going c.in_ok-rows.ensures
      c.in_ok-join.ensures;
  small = left_small (known_of c.args.place.now) c.args.items.now c.loop-item.item-index c.item-item.result
      c.loop-item.joined c.in_ok-join.field-0 _ (omega arith) c.item-item.is
      c.loop-item.invariant.small;
}

pub queries::from_rows-source_rows-requires : goal.queries::from_rows-source_rows-requires
queries::from_rows-source_rows-requires t c = (
  omega (
    arith,
    source_small (known_of c.args.place.now) c.args.items.now c.loop-item.item-index c.item-item.result
        c.item_source.result.now c.loop-item.joined
        (from_cost (from_of (map (item_in (known_of c.args.place.now)) c.args.items.now))) (omega arith)
        c.item-item.is (c.item_source.ensures (known_of c.args.place.now)) c.loop-item.invariant.small,
    c.decreases,
  ),
  tt,
)

pub queries::from_rows-join-requires : goal.queries::from_rows-join-requires
queries::from_rows-join-requires t c = (
  omega (
    arith,
    join_small (known_of c.args.place.now) c.args.items.now c.loop-item.item-index c.item-item.result
        c.loop-item.joined (from_cost (from_of (map (item_in (known_of c.args.place.now)) c.args.items.now)))
        (omega arith)
        c.item-item.is c.loop-item.invariant.small,
    c.decreases,
  ),
  tt,
)

-- VALUES

pub lists::eval_rows-eval_all-more-requires : goal.lists::eval_rows-eval_all-more-requires
lists::eval_rows-eval_all-more-requires t c = (
  omega (
    arith,
    rows_cost-rest (known_of c.args.place.now) c.args.rows.now c.loop-row.row-index c.row-item.result
        c.values_in.result.now (omega arith) c.row-item.is
        (sym (c.values_in.ensures (known_of c.args.place.now))),
    c.loop-row.invariant.small,
    c.decreases,
  ),
  tt,
)

-- what is made of an answer

pub expr::eval-returns-in-Some : goal.expr::eval-returns-in-Some
expr::eval-returns-in-Some t c =
    at_once_ends c.args.expr.now (seen c.args.rows.now) c.args.frame.now (known_of c.args.place.now)
    (self_of c.args.place.now) c.args.world.now c.at_once.result c.in-Some.value c.in-Some.is
    c.at_once.ensures

pub expr::eval_node-returns-in-Single : goal.expr::eval_node-returns-in-Single
expr::eval_node-returns-in-Single t c =
    single_ends (self_of c.args.place.now) (known_of c.args.place.now) c.args.expr.now (seen c.args.rows.now) c.args.frame.now
    c.args.world.now c.answer_query.new.world c.single_of.result c.in-Single.query
    c.get-in-Single.result.now c.answer_query.result c.in-Single.is
    c.get-in-Single.ensures c.answer_query.ensures c.single_of.ensures

pub expr::eval_node-returns-in-Exists : goal.expr::eval_node-returns-in-Exists
expr::eval_node-returns-in-Exists t c =
    exists_ends (self_of c.args.place.now) (known_of c.args.place.now) c.args.expr.now (seen c.args.rows.now) c.args.frame.now
    c.args.world.now c.answer_query-in-Exists.new.world c.exists_of.result c.in-Exists.query
    c.get-in-Exists.result.now c.answer_query-in-Exists.result c.in-Exists.is
    c.get-in-Exists.ensures c.answer_query-in-Exists.ensures c.exists_of.ensures

pub expr::operate-returns-in_default : goal.expr::operate-returns-in_default
expr::operate-returns-in_default t c =
    let d = c.in_default in
    strict_ends (self_of c.args.place.now) (known_of c.args.place.now) c.args.operation c.args.operands.now (seen c.args.rows.now)
    c.args.frame.now c.args.world.now c.eval_arguments-values.new.world
    c.eval_arguments-values.result c.value_of.result
    (is_strict c.args.operation (length c.args.operands.now) c.takes.result c.takes.ensures
    c.if-not-takes.false d.not-And d.not-Or d.not-Coalesce d.not-Case d.not-CaseOf)
    c.eval_arguments-values.ensures c.value_of.ensures

pub expr::eval_arguments-returns-in_err-values :
    goal.expr::eval_arguments-returns-in_err-values
expr::eval_arguments-returns-in_err-values t c =
    args_stop (self_of c.args.place.now) (known_of c.args.place.now) c.args.arguments.now c.args.parameters.now c.loop-at.at
    c.index-arguments-at.result (seen c.args.rows.now) c.args.frame.now c.args.world.now
    c.loop-at.world c.eval-value.new.world c.eval-value.result c.loop-at.values _
    c.in_err-values.field-0.0 _ (omega arith) c.index-arguments-at.is
    c.loop-at.invariant.going c.eval-value.ensures c.in_err-values.ensures (search rules)

pub expr::eval_arguments-loop-at-preserved : goal.expr::eval_arguments-loop-at-preserved
expr::eval_arguments-loop-at-preserved t c =
    let x = c.index-arguments-at.result in
    record {
      going = args_go (self_of c.args.place.now) (known_of c.args.place.now) c.args.arguments.now c.args.parameters.now
          c.loop-at.at x (seen c.args.rows.now) c.args.frame.now c.args.world.now
          c.loop-at.world c.eval-value.new.world c.eval-value.result c.loop-at.values _
          c.in_ok-values.values (omega arith) c.index-arguments-at.is
          c.loop-at.invariant.going c.eval-value.ensures c.in_ok-values.ensures;
      small = omega (
        arith,
        costs-rest (known_of c.args.place.now) c.args.arguments.now c.loop-at.at x
            (omega arith) c.index-arguments-at.is,
        c.loop-at.invariant.small,
      );
    }

pub lists::eval_all-returns-in_err-values : goal.lists::eval_all-returns-in_err-values
lists::eval_all-returns-in_err-values t c =
    all_stop (self_of c.args.place.now) (known_of c.args.place.now) c.args.exprs.now c.loop-expr.expr-index c.expr-item.result
    (seen c.args.rows.now) c.args.frame.now c.args.world.now c.loop-expr.world
    c.eval-value.new.world c.eval-value.result c.loop-expr.values _
    c.in_err-values.field-0.0 _ (omega arith) c.expr-item.is c.loop-expr.invariant.going
    c.eval-value.ensures c.in_err-values.ensures (search rules)

pub lists::eval_all-loop-expr-preserved : goal.lists::eval_all-loop-expr-preserved
lists::eval_all-loop-expr-preserved t c = record {
  going =
      all_go (self_of c.args.place.now) (known_of c.args.place.now) c.args.exprs.now c.loop-expr.expr-index c.expr-item.result
      (seen c.args.rows.now) c.args.frame.now c.args.world.now c.loop-expr.world
      c.eval-value.new.world c.eval-value.result c.loop-expr.values _
      c.in_ok-values.values (omega arith) c.expr-item.is c.loop-expr.invariant.going
      c.eval-value.ensures c.in_ok-values.ensures;
  small = omega (
    arith,
    costs-rest (known_of c.args.place.now) c.args.exprs.now c.loop-expr.expr-index
        c.expr-item.result (omega arith) c.expr-item.is,
    c.loop-expr.invariant.small,
  );
}

pub lists::eval_rows-returns-in_err-values : goal.lists::eval_rows-returns-in_err-values
lists::eval_rows-returns-in_err-values t c =
    rows_stop (self_of c.args.place.now) (known_of c.args.place.now) c.args.rows.now c.loop-row.row-index c.row-item.result
    c.values_in.result.now (seen c.args.outer.now) c.args.frame.now c.args.world.now
    c.loop-row.world c.eval_all-more.new.world c.eval_all-more.result c.loop-row.values _
    c.in_err-values.field-0.0 _ (omega arith) c.row-item.is
    (sym (c.values_in.ensures (known_of c.args.place.now))) c.loop-row.invariant.going
    c.eval_all-more.ensures c.in_err-values.ensures (search rules)

pub lists::eval_rows-loop-row-preserved : goal.lists::eval_rows-loop-row-preserved
lists::eval_rows-loop-row-preserved t c = record {
  going =
      rows_go (self_of c.args.place.now) (known_of c.args.place.now) c.args.rows.now c.loop-row.row-index c.row-item.result
      c.values_in.result.now (seen c.args.outer.now) c.args.frame.now c.args.world.now
      c.loop-row.world c.eval_all-more.new.world c.eval_all-more.result c.loop-row.values _
      c.in_ok-values.values (omega arith) c.row-item.is
      (sym (c.values_in.ensures (known_of c.args.place.now))) c.loop-row.invariant.going
      c.eval_all-more.ensures c.in_ok-values.ensures;
  small =
      omega (
        arith,
        rows_cost-rest (known_of c.args.place.now) c.args.rows.now c.loop-row.row-index c.row-item.result
            c.values_in.result.now (omega arith) c.row-item.is
            (sym (c.values_in.ensures (known_of c.args.place.now))),
        c.loop-row.invariant.small,
      );
}

pub queries::answer_query-returns-in-Some : goal.queries::answer_query-returns-in-Some
queries::answer_query-returns-in-Some t c =
    subst (λ (e : Ends (List Row)). Ended c.args.world.now c.args.world.now c.run_kept.result e)
    (sym c.in-Some.ensures) c.run_kept.ensures

pub queries::answer_by_rows-returns-in-Ordered : goal.queries::answer_by_rows-returns-in-Ordered
queries::answer_by_rows-returns-in-Ordered t c =
    ordered_ends (self_of c.args.place.now) (known_of c.args.place.now) c.args.query.now c.in-Ordered.query c.get.result.now
    c.in-Ordered.keys c.as_slice-in-Ordered.result.now (seen c.args.outer.now) c.args.frame.now
    c.args.world.now c.answer_query-rows.new.world c.answer_query-rows.result c.ordered.result
    c.in-Ordered.is c.get.ensures c.as_slice-in-Ordered.ensures c.answer_query-rows.ensures
    c.ordered.ensures

-- joins and records

pub joins::matched-returns-in_err-all : goal.joins::matched-returns-in_err-all
joins::matched-returns-in_err-all t c =
    listed_stop (matches_of (self_of c.args.place.now) (exprs_in (known_of c.args.place.now) c.args.on.now) c.args.nulls
    (seen c.args.outer.now) c.args.frame.now c.args.right.now) c.args.left.now
    c.loop-row.row-index c.row-item.result c.args.world.now c.loop-row.world
    c.matches_of-found.new.world c.matches_of-found.result c.loop-row.all _
    c.in_err-all.field-0.0 _ (omega arith) c.row-item.is c.loop-row.invariant
    c.matches_of-found.ensures c.in_err-all.ensures (search rules)

pub joins::matched-loop-row-preserved : goal.joins::matched-loop-row-preserved
joins::matched-loop-row-preserved t c =
    listed_go (matches_of (self_of c.args.place.now) (exprs_in (known_of c.args.place.now) c.args.on.now) c.args.nulls
    (seen c.args.outer.now) c.args.frame.now c.args.right.now) c.args.left.now
    c.loop-row.row-index c.row-item.result c.args.world.now c.loop-row.world
    c.matches_of-found.new.world c.matches_of-found.result c.loop-row.all _
    c.in_ok-all.all (omega arith) c.row-item.is c.loop-row.invariant
    c.matches_of-found.ensures c.in_ok-all.ensures

pub joins::matches_of-returns : goal.joins::matches_of-returns
joins::matches_of-returns t c =
    follows c.args.world.now c.matching_pairs-found.new.world c.matching_pairs-found.result
    c.with_itself.result _ _ c.with_itself.ensures c.matching_pairs-found.ensures

pub joins::matching_pairs-returns-in_err-found :
    goal.joins::matching_pairs-returns-in_err-found
joins::matching_pairs-returns-in_err-found t c =
    kept_stop (match_of (self_of c.args.place.now) (exprs_in (known_of c.args.place.now) c.args.on.now) (seen c.args.outer.now)
    c.args.frame.now c.args.left.now) c.args.right.now c.loop-row.row-index c.row-item.result
    c.args.world.now c.loop-row.world c.match_of-pair.new.world c.match_of-pair.result
    c.loop-row.found _ c.in_err-found.field-0.0 _ (omega arith) c.row-item.is
    c.loop-row.invariant c.match_of-pair.ensures c.in_err-found.ensures (search rules)

pub joins::matching_pairs-loop-row-preserved : goal.joins::matching_pairs-loop-row-preserved
joins::matching_pairs-loop-row-preserved t c =
    kept_go (match_of (self_of c.args.place.now) (exprs_in (known_of c.args.place.now) c.args.on.now) (seen c.args.outer.now)
    c.args.frame.now c.args.left.now) c.args.right.now c.loop-row.row-index c.row-item.result
    c.args.world.now c.loop-row.world c.match_of-pair.new.world c.match_of-pair.result
    c.loop-row.found _ c.in_ok-found.found (omega arith) c.row-item.is
    c.loop-row.invariant c.match_of-pair.ensures c.in_ok-found.ensures

pub joins::match_of-returns : goal.joins::match_of-returns
joins::match_of-returns t c =
    match_ends (self_of c.args.place.now) (exprs_in (known_of c.args.place.now) c.args.on.now) (seen c.args.outer.now)
    (seen c.under-rows.result) c.args.frame.now c.args.left.now c.args.right.now c.in_ok-row.row
    c.args.world.now c.holds-keep.new.world c.holds-keep.result c.kept.result c.in_ok-row.ensures
    (c.under-rows.ensures ∙ ap (λ (r : Row). r ∷ seen c.args.outer.now) c.as_slice.ensures)
    c.holds-keep.ensures c.kept.ensures

pub records::records_of-returns-in_err-records : goal.records::records_of-returns-in_err-records
records::records_of-returns-in_err-records t c =
    let known = known_of c.args.place.now in
    kept_stop (λ (row : Row). record_of (exprs_in known c.args.list.now)
    (exprs_in known c.args.tests.now) (self_of c.args.place.now) (row ∷ seen c.args.outer.now)
    c.args.frame.now) c.args.rows.now c.loop-row.row-index c.row-item.result
    c.args.world.now c.loop-row.world c.record_of-record.new.world c.record_of-record.result
    c.loop-row.records _ c.in_err-records.field-0.0 _ (omega arith) c.row-item.is
    c.loop-row.invariant c.record_of-record.ensures c.in_err-records.ensures (search rules)

pub records::records_of-loop-row-preserved : goal.records::records_of-loop-row-preserved
records::records_of-loop-row-preserved t c =
    let known = known_of c.args.place.now in
    kept_go (λ (row : Row). record_of (exprs_in known c.args.list.now)
    (exprs_in known c.args.tests.now) (self_of c.args.place.now) (row ∷ seen c.args.outer.now)
    c.args.frame.now) c.args.rows.now c.loop-row.row-index c.row-item.result
    c.args.world.now c.loop-row.world c.record_of-record.new.world c.record_of-record.result
    c.loop-row.records _ c.in_ok-records.records (omega arith) c.row-item.is
    c.loop-row.invariant c.record_of-record.ensures c.in_ok-records.ensures

-- groups

pub groups::grouped-returns-in_err-groups : goal.groups::grouped-returns-in_err-groups
groups::grouped-returns-in_err-groups t c =
    let known = known_of c.args.place.now in
    groups_stop (self_of c.args.place.now) c.foldings_are_of_groups.ensures known c.args.grouping.now
    c.as_slice-parts.result.now (out-BoundGrouping c.args.grouping.now).having
    c.as_slice.result.now
    (exprs_in known c.args.conjuncts.now) (exprs_in known c.args.list.now)
    (seen c.args.outer.now) c.args.frame.now c.args.rows.now c.args.world.now
    c.folded-folding.new.world c.in_ok-none.none c.folded-folding.result c.as_slice-parts.ensures
    refl c.as_slice.ensures c.in_ok-none.ensures c.folded-folding.ensures
    c.in_err-groups.field-0.0 _ c.in_err-groups.ensures (search rules)

pub groups::grouped-returns : goal.groups::grouped-returns
groups::grouped-returns t c =
    let known = known_of c.args.place.now in
    groups_end (self_of c.args.place.now) c.foldings_are_of_groups.ensures known c.args.grouping.now
    c.as_slice-parts.result.now c.as_slice-having.result.now c.as_slice.result.now
    (exprs_in known c.args.conjuncts.now) (exprs_in known c.args.list.now)
    (seen c.args.outer.now) c.args.frame.now c.args.rows.now c.args.world.now
    c.folded-folding.new.world c.in_ok-none.none c.folded-folding.result c.as_slice-parts.ensures
    c.as_slice-having.ensures c.as_slice.ensures c.in_ok-none.ensures c.folded-folding.ensures
    c.records.new.world c.in_ok-groups.groups c.as_slice-2.result.now c.records.result
    c.in_ok-groups.ensures c.as_slice-2.ensures c.records.ensures

pub groups::folded-returns-in_err-folding : goal.groups::folded-returns-in_err-folding
groups::folded-returns-in_err-folding t c =
    let known = known_of c.args.place.now in
    part_stops (λ (row : Row). record_of (exprs_in known c.args.parts.now)
    (exprs_in known c.args.conjuncts.now) (self_of c.args.place.now) (row ∷ seen c.args.outer.now)
    c.args.frame.now) c.args.rows.now c.loop-row.row-index
    c.row-item.result c.args.world.now c.loop-row.world c.record_of-part.new.world
    c.record_of-part.result c.loop-row.folding _ (omega arith) c.row-item.is c.loop-row.invariant
    c.record_of-part.ensures c.in_err-folding.field-0.0 _ c.in_err-folding.ensures
    (search rules)

pub groups::folded-loop-row-preserved : goal.groups::folded-loop-row-preserved
groups::folded-loop-row-preserved t c =
    let known = known_of c.args.place.now in
    part_taken (λ (row : Row). record_of (exprs_in known c.args.parts.now)
    (exprs_in known c.args.conjuncts.now) (self_of c.args.place.now) (row ∷ seen c.args.outer.now)
    c.args.frame.now) c.args.rows.now c.loop-row.row-index
    c.row-item.result c.args.world.now c.loop-row.world c.record_of-part.new.world
    c.record_of-part.result c.loop-row.folding _ (omega arith) c.row-item.is c.loop-row.invariant
    c.record_of-part.ensures c.in_ok-folding.folding c.in_ok-folding.ensures

pub groups::records-returns-in_err-records : goal.groups::records-returns-in_err-records
groups::records-returns-in_err-records t c =
    let known = known_of c.args.place.now in
    kept_stop (end_record (self_of c.args.place.now) (exprs_in known c.args.having.now) (exprs_in known c.args.list.now)
    (seen c.args.outer.now) c.args.frame.now) c.args.groups.now c.loop-group.group-index
    c.group-item.result c.args.world.now c.loop-group.world c.record-record.new.world
    c.record-record.result c.loop-group.records _ c.in_err-records.field-0.0 _ (omega arith)
    c.group-item.is c.loop-group.invariant c.record-record.ensures c.in_err-records.ensures
    (search rules)

pub groups::records-loop-group-preserved : goal.groups::records-loop-group-preserved
groups::records-loop-group-preserved t c =
    let known = known_of c.args.place.now in
    kept_go (end_record (self_of c.args.place.now) (exprs_in known c.args.having.now) (exprs_in known c.args.list.now)
    (seen c.args.outer.now) c.args.frame.now) c.args.groups.now c.loop-group.group-index
    c.group-item.result c.args.world.now c.loop-group.world c.record-record.new.world
    c.record-record.result c.loop-group.records _ c.in_ok-records.records (omega arith)
    c.group-item.is c.loop-group.invariant c.record-record.ensures c.in_ok-records.ensures

-- one item of FROM more

pub from::join-returns-in-Comma : goal.from::join-returns-in-Comma
from::join-returns-in-Comma t c =
    comma_ends (self_of c.args.place.now) (known_of c.args.place.now) c.args.item.now c.args.joined c.in-Some.joined c.args.rows
    (seen c.args.outer.now) c.args.frame.now c.args.world.now c.in-Some.is c.in-Comma.field-0
    c.past_comma.result c.in-Comma.is c.past_comma.ensures

pub from::join-returns-in-Cross : goal.from::join-returns-in-Cross
from::join-returns-in-Cross t c =
    cross_ends (self_of c.args.place.now) (known_of c.args.place.now) c.args.item.now c.args.joined c.in-Some.joined c.args.rows
    (seen c.args.outer.now) c.args.frame.now c.args.world.now c.in-Some.is c.in-Cross.field-0
    c.crossed.result c.in-Cross.is c.crossed.ensures

pub from::join-join_on-requires : goal.from::join-join_on-requires
from::join-join_on-requires t c = (
  omega (
    arith,
    inner_less (known_of c.args.place.now) c.args.item.now c.in-Inner.field-0 c.in-Inner.on
        c.as_slice-on.result.now c.args.joined c.in-Some.joined c.in-Some.is c.in-Inner.is
        c.as_slice-on.ensures,
    c.decreases,
  ),
  tt,
)

pub from::join-returns-in-Inner : goal.from::join-returns-in-Inner
from::join-returns-in-Inner t c =
    inner_ends (self_of c.args.place.now) (known_of c.args.place.now) c.args.item.now c.args.joined c.in-Some.joined c.args.rows
    (seen c.args.outer.now) c.args.frame.now c.args.world.now c.in-Some.is c.in-Inner.field-0
    c.in-Inner.on c.as_slice-on.result.now c.join_on.new.world c.join_on.result c.in-Inner.is
    c.as_slice-on.ensures c.join_on.ensures

pub from::join-join_on-requires-in-Left : goal.from::join-join_on-requires-in-Left
from::join-join_on-requires-in-Left t c = (
  omega (
    arith,
    left_less (known_of c.args.place.now) c.args.item.now c.in-Left.source c.in-Left.on
        c.as_slice-on-in-Left.result.now c.args.joined c.in-Some.joined c.in-Some.is c.in-Left.is
        c.as_slice-on-in-Left.ensures,
    c.decreases,
  ),
  tt,
)

pub from::join-returns-in-Left : goal.from::join-returns-in-Left
from::join-returns-in-Left t c =
    let known = known_of c.args.place.now in
    left_ends (self_of c.args.place.now) known c.args.item.now c.args.joined c.in-Some.joined c.args.rows
    (seen c.args.outer.now) c.args.frame.now c.args.world.now c.in-Some.is c.in-Left.source
    c.in-Left.on c.as_slice-on-in-Left.result.now c.source_width.result c.join_on-in-Left.new.world
    c.join_on-in-Left.result c.in-Left.is c.as_slice-on-in-Left.ensures
    (c.source_width.ensures known) c.join_on-in-Left.ensures

pub from::join_on-returns : goal.from::join_on-returns
from::join_on-returns t c =
    on_ends (self_of c.args.place.now) (exprs_in (known_of c.args.place.now) c.args.on.now) c.args.nulls c.args.joined
    c.as_slice-left.result.now c.as_slice-right.result.now c.args.rows (seen c.args.outer.now)
    c.args.frame.now c.args.world.now c.matched-found.new.world c.matched-found.result
    c.with_found.result c.as_slice-left.ensures c.as_slice-right.ensures c.matched-found.ensures
    c.with_found.ensures

-- calls

pub calls::run_body-returns : goal.calls::run_body-returns
calls::run_body-returns t c =
    returned_ends (known_of c.in_no_routine-inner.result) (no_routine c.args.place.now.catalog.now)
    (self_of c.in_no_routine-inner.result) c.args.body.now c.args.returns c.args.values
    c.of-frame.result c.args.world.now c.eval-value.new.world c.eval-value.result
    c.assigned.result c.requires c.of-frame.ensures c.in_no_routine-inner.ensures.known
    (ap (λ (x : Context). x.self) c.in_no_routine-inner.ensures.context) c.eval-value.ensures
    c.assigned.ensures

pub calls::call_itself-call_function-requires : goal.calls::call_itself-call_function-requires
calls::call_itself-call_function-requires t c = (
  omega (
    arith,
    falls_to_self c.args.place.now c.args.own.now
        (call_cost c.args.own.now.room (function_view
        (routines_of c.args.place.now.catalog.now) c.args.own.now.name.now
        (interpreted_of c.in-Itself.function.now)))
        (costs (exprs_in (known_of c.args.place.now) c.args.arguments.now)) c.requires
        (subst (λ (q : SelfCall). CostsAsSelf (routines_of c.args.place.now.catalog.now)
        c.args.own.now q) c.in-Itself.is
        (c.self_call.ensures.cost (routines_of c.args.place.now.catalog.now))),
    c.decreases,
  ),
  tt,
)

pub calls::call_other-returns-in_ok-values-in-Interpreted :
    goal.calls::call_other-returns-in_ok-values-in-Interpreted
calls::call_other-returns-in_ok-values-in-Interpreted t c =
    another_ends (self_of c.args.place.now) (seen c.args.rows.now) c.args.frame.now
    (exprs_in (known_of c.args.place.now) c.args.arguments.now)
    c.as_slice-parameters-in-Interpreted.result.now c.args.world.now
    c.eval_arguments-in-Interpreted.new.world c.call_stated.new.world c.args.name.now
    (routines_of c.args.place.now.catalog.now c.args.name.now)
    c.in_ok-values-in-Interpreted.values c.call_stated.result
    (c.as_slice-parameters-in-Interpreted.ensures ∙ sym (ap parameters_of c.in-Interpreted.ensures))
    c.in_ok-values-in-Interpreted.ensures c.call_stated.ensures

pub calls::call_returned-returns-in-Some : goal.calls::call_returned-returns-in-Some
calls::call_returned-returns-in-Some t c =
    subst (λ (e : Ends Value). Ended c.args.world.now c.args.world.now c.run_call_plan.result e)
    (sym c.in-Some.ensures) c.run_call_plan.ensures

pub calls::call_returned-returns-in-None : goal.calls::call_returned-returns-in-None
calls::call_returned-returns-in-None t c =
    subst (λ (q : Routine). Ended c.args.world.now c.run_body.new.world c.run_body.result
    (call q c.args.values (world_of c.args.world.now))) (sym c.requires.stands) c.run_body.ensures

pub calls::call_stated-returns-in-Some : goal.calls::call_stated-returns-in-Some
calls::call_stated-returns-in-Some t c =
    subst (λ (e : Ends Value). Ended c.args.world.now c.args.world.now c.run_call_plan.result e)
    (sym c.in-Some.ensures) c.run_call_plan.ensures

pub calls::call_stated-returns-in-None : goal.calls::call_stated-returns-in-None
calls::call_stated-returns-in-None t c =
    within_ends (routines_of c.args.place.now.catalog.now c.args.name.now) _ _ _ _ _
    c.room-room.result c.args.values c.args.world.now c.call_function.new.world
    c.call_function.result c.requires c.room-room.ensures c.call_function.ensures

-- functions whose body is a statement

pub functions::activate_function-returns : goal.functions::activate_function-returns
functions::activate_function-returns t c =
    function_activated c.args.place.now.catalog.now c.args.name c.args.room c.args.values
    c.args.world.now c.start.new.world c.run_function-answer.new.world c.deactivate.new.self
    c.args.function c.run_function-answer.result (omega (arith, c.if-room-eq0.false)) c.requires
    c.in_ok-start.ensures c.run_function-answer.ensures c.deactivate.ensures

pub functions::run_function-returns-in-Ok : goal.functions::run_function-returns-in-Ok
functions::run_function-returns-in-Ok t c =
    function_ends c.args.place.now.catalog.now _ c.args.room c.in_routine-inner.result
    c.args.values c.of-frame.result c.run_stmt.new.frame c.args.world.now c.run_stmt.new.world
    _ c.in-Ok.outcome c.returned.result c.in_routine-inner.ensures c.of-frame.ensures
    c.in-Ok.ensures c.returned.ensures

-- procedures

pub procedures::activate_procedure-returns : goal.procedures::activate_procedure-returns
procedures::activate_procedure-returns t c =
    procedure_activated c.args.place.now.catalog.now c.args.name c.args.room c.args.values
    c.args.world.now c.start.new.world c.run_procedure-answer.new.world c.deactivate.new.self
    c.args.procedure c.run_procedure-answer.result (omega (arith, c.if-room-eq0.false)) c.requires
    c.in_ok-start.ensures c.run_procedure-answer.ensures c.deactivate.ensures

pub procedures::run_procedure-returns-in-Ok : goal.procedures::run_procedure-returns-in-Ok
procedures::run_procedure-returns-in-Ok t c =
    procedure_ends c.args.place.now.catalog.now _ c.args.room c.in_routine-inner.result
    c.args.values c.of-frame.result c.run_stmt.new.frame c.args.world.now c.run_stmt.new.world
    c.args.procedure c.in-Ok.outcome c.outs.result c.in_routine-inner.ensures c.of-frame.ensures
    c.in-Ok.ensures
    (subst (λ (ps : List Parameter). TellsAnywhere c.outs.result
    (given_or ps (outcome_of c.in-Ok.outcome) c.run_stmt.new.frame))
    (λ i. with_modes (c.as_slice-modes.ensures i) (c.as_slice-types.ensures i)) c.outs.ensures)

-- CALL

pub passing::pass_all-returns-in_err-values : goal.passing::pass_all-returns-in_err-values
passing::pass_all-returns-in_err-values t c =
    passing_stops (self_of c.args.place.now) (known_of c.args.place.now) c.args.arguments.now
    (with_modes c.args.modes.now c.args.types.now) c.loop-at.at c.index-arguments-at.result
    c.args.frame.now c.args.world.now c.loop-at.world c.pass_one-value.new.world
    c.pass_one-value.result c.loop-at.values _ c.in_err-values.field-0.0 _ (omega arith)
    c.index-arguments-at.is c.loop-at.invariant.going c.pass_one-value.ensures
    c.in_err-values.ensures (search rules)

pub passing::pass_all-loop-at-preserved : goal.passing::pass_all-loop-at-preserved
passing::pass_all-loop-at-preserved t c =
    let x = c.index-arguments-at.result in
    record {
      going = passing_goes (self_of c.args.place.now) (known_of c.args.place.now)
          c.args.arguments.now (with_modes c.args.modes.now c.args.types.now) c.loop-at.at x
          c.args.frame.now c.args.world.now c.loop-at.world c.pass_one-value.new.world
          c.pass_one-value.result c.loop-at.values _ c.in_ok-values.values (omega arith)
          c.index-arguments-at.is c.loop-at.invariant.going c.pass_one-value.ensures
          c.in_ok-values.ensures;
      small = omega (
        arith,
        arguments_cost-rest (known_of c.args.place.now) c.args.arguments.now c.loop-at.at x
            (omega arith) c.index-arguments-at.is,
        c.loop-at.invariant.small,
      );
    }

pub passing::perform-returns-in-Some : goal.passing::perform-returns-in-Some
passing::perform-returns-in-Some t c =
    comes_by _ _ (context_of c.args.place.now) c.args.frame.now c.args.world.now
    c.perform_itself.new.world c.perform_itself.result
    (c.in-Some.ensures.procedure
    (arguments_in (known_of c.args.place.now) c.args.arguments.now)) c.perform_itself.ensures

pub passing::perform-returns-in-None : goal.passing::perform-returns-in-None
passing::perform-returns-in-None t c =
    comes_by _ _ (context_of c.args.place.now) c.args.frame.now c.args.world.now
    c.perform_other.new.world c.perform_other.result
    (c.in-None.ensures.procedure
    (arguments_in (known_of c.args.place.now) c.args.arguments.now)) c.perform_other.ensures

pub passing::perform_itself-call_procedure-requires :
    goal.passing::perform_itself-call_procedure-requires
passing::perform_itself-call_procedure-requires t c = (
  omega (
    arith,
    falls_to_again c.args.place.now c.args.own.now
        (call_cost c.args.own.now.room (procedure_view
        (routines_of c.args.place.now.catalog.now) c.args.own.now.name.now
        (procedure_of c.in-Some.procedure.now)))
        (arguments_cost (arguments_in (known_of c.args.place.now) c.args.arguments.now)) c.requires
        (c.in-Some.ensures.cost (routines_of c.args.place.now.catalog.now)),
    c.decreases,
  ),
  tt,
)

pub passing::perform_other-returns-in_ok-values-in-Some :
    goal.passing::perform_other-returns-in_ok-values-in-Some
passing::perform_other-returns-in_ok-values-in-Some t c =
    let routines = routines_of c.args.place.now.catalog.now in
    other_ends (arguments_in (known_of c.args.place.now) c.args.arguments.now)
    (with_modes c.as_slice-modes.result.now c.as_slice-types.result.now)
    (context_of c.args.place.now) c.args.frame.now c.args.world.now c.pass.new.world
    c.call_procedure.new.world c.args.name.now (routines c.args.name.now)
    c.in_ok-values-in-Some.values c.call_procedure.result
    (modes_known (routines c.args.name.now) routines c.args.name.now c.in-Some.procedure.now
    c.as_slice-modes.result.now c.as_slice-types.result.now c.in-Some.ensures
    c.as_slice-modes.ensures c.as_slice-types.ensures) c.in_ok-values-in-Some.ensures
    (performed_ends (routines c.args.name.now) _ _ _ c.room-room.result
    c.in_ok-values-in-Some.values c.pass.new.world c.call_procedure.new.world
    c.call_procedure.result c.in-Some.ensures c.room-room.ensures c.call_procedure.ensures)

pub passing::run_call-returns-in-Ok : goal.passing::run_call-returns-in-Ok
passing::run_call-returns-in-Ok t c =
    let known = known_of c.args.place.now in
    let args = arguments_in known c.args.call.now.arguments in
    let targets = map target c.in_ok-targets.targets.items in
    call_stores (context_of c.args.place.now).scopes
    (comes_into (performed known c.args.call.now.procedure args) (context_of c.args.place.now)
    targets) targets c.args.frame.now c.store.new.frame c.args.world.now c.perform_into.new.world
    c.in-Ok.values _
    (performed_does known c.args.call.now.procedure args targets (context_of c.args.place.now)
    c.args.frame.now (world_of c.args.world.now) (search rules)) (search rules) (search rules)

pub passing::run_call-returns : goal.passing::run_call-returns
passing::run_call-returns t c =
    let known = known_of c.args.place.now in
    let args = arguments_in known c.args.call.now.arguments in
    let targets = map target c.in_ok-targets.targets.items in
    call_stops (context_of c.args.place.now).scopes
    (comes_into (performed known c.args.call.now.procedure args) (context_of c.args.place.now)
    targets) (storing targets) c.args.frame.now c.stopped.new.frame c.args.world.now
    c.perform_into.new.world c.stopped.new.world c.in-Err.stop c.stopped.result _
    (performed_does known c.args.call.now.procedure args targets (context_of c.args.place.now)
    c.args.frame.now (world_of c.args.world.now) (search rules)) (search rules) c.stopped.ensures

-- ---- statements

-- ---- what arms say

-- a test whose value is known
valued : (old new : Content) (e : Ends Bool) (b v : Bool) → Ended old new (Ok b) e → b ≡ v →
    Ended old new (Ok v) e
valued old new e b v d is = subst (λ (x : Bool). Ended old new (Ok x) e) is d

-- a run of statements inside a loop
looped : (p inner : Place) (ss : List BoundStmt) (f g : Frame) (old new : Content)
    (r : Result Outcome NoMemory) → inner ≡ one_inside p →
    Ran old new g r (does_all (stmts_in (known_of inner) ss (queries_of inner)) (context_of inner)
    f (world_of old)) →
    Ran old new g r (does_all (stmts_in (known_of p) ss (queries_of p)) (inside (context_of p)) f
    (world_of old))
looped p inner ss f g old new r is d =
    subst (λ (x : Place). Ran old new g r (does_all (stmts_in (known_of x) ss (queries_of x))
    (context_of x) f (world_of old))) is d

-- ---- statements

pub statements::run_next-returns-then-done_at_once :
    goal.statements::run_next-returns-then-done_at_once
statements::run_next-returns-then-done_at_once t c =
    let p = c.args.place.now in
    done_ends c.args.stmt.now (known_of p) (queries_of p) (context_of p) c.args.world.now
    c.args.frame.now c.done_at_once.new.frame
    (c.done_at_once.ensures.done c.if-done_at_once.true)

pub statements::run_next-returns : goal.statements::run_next-returns
statements::run_next-returns t c =
    let p = c.args.place.now in
    subst (λ (f : Frame). Ran c.args.world.now c.run_stmt.new.world c.run_stmt.new.frame
    c.run_stmt.result (does (stmt_in (known_of p) c.args.stmt.now (queries_of p)) (context_of p) f
    (world_of c.args.world.now))) (c.done_at_once.ensures.left c.if-done_at_once.false)
    c.run_stmt.ensures

pub statements::run_list-loop-stmt-preserved : goal.statements::run_list-loop-stmt-preserved
statements::run_list-loop-stmt-preserved t c =
    let p = c.args.place.now in
    let k = known_of p in record {
      underway = list_next k c.args.stmts.now c.loop-stmt.stmt-index c.stmt-item.result
          (queries_of p) (context_of p) c.loop-stmt.frame c.args.world.now c.loop-stmt.world
          (does_all (stmts_in k c.args.stmts.now (queries_of p)) (context_of p) c.args.frame.now
          (world_of c.args.world.now))
          c.run_next.new.frame c.run_next.new.world (omega (arith, c.loop-stmt-test.true))
          c.stmt-item.is c.loop-stmt.invariant.underway
          (subst (λ (o : Outcome). Ran c.loop-stmt.world c.run_next.new.world c.run_next.new.frame
          (Ok o) (does (stmt_in k c.stmt-item.result (queries_of p)) (context_of p)
          c.loop-stmt.frame (world_of c.loop-stmt.world))) c.in-Ok-Next.field-0-is
          c.in-Ok-Next.ensures);
      small = omega (
        arith,
        stmts_cost-rest k c.args.stmts.now c.loop-stmt.stmt-index c.stmt-item.result
            (queries_of p) (omega (arith, c.loop-stmt-test.true)) c.stmt-item.is,
        c.loop-stmt.invariant.small,
      );
    }

-- ---- loops

pub loops::run_loop-returns-in-Ok-false : goal.loops::run_loop-returns-in-Ok-false
loops::run_loop-returns-in-Ok-false t c =
    let p = c.args.place.now in
    let k = known_of p in
    let b = option_copied c.args.before in
    let u = option_copied c.args.until in
    let body = does_all (stmts_in k c.args.body.now (queries_of p)) (inside (context_of p)) in
    let whole = looping p.level (before_by k b (self_of p) (scopes_of p)) body
    (after_by k u (self_of p) (scopes_of p)) c.args.frame.now (world_of c.args.world.now) in
    before_ends k b u (self_of p) (scopes_of p) p.level body whole c.loop-stop.frame
    c.args.world.now c.loop-stop.world c.goes_on.new.world _ c.loop-stop.invariant
    (valued _ _ _ _ false c.in-Ok-false.ensures c.in-Ok-false.field-0-test) refl

pub loops::run_loop-returns-in-Err : goal.loops::run_loop-returns-in-Err
loops::run_loop-returns-in-Err t c =
    let p = c.args.place.now in
    let k = known_of p in
    let b = option_copied c.args.before in
    let u = option_copied c.args.until in
    let body = does_all (stmts_in k c.args.body.now (queries_of p)) (inside (context_of p)) in
    let whole = looping p.level (before_by k b (self_of p) (scopes_of p)) body
    (after_by k u (self_of p) (scopes_of p)) c.args.frame.now (world_of c.args.world.now) in
    before_stops k b u (self_of p) (scopes_of p) p.level body whole c.loop-stop.frame
    c.stopped.new.frame c.args.world.now c.loop-stop.world c.goes_on.new.world
    c.stopped.new.world c.in-Err.stop _ c.loop-stop.invariant c.in-Err.ensures c.stopped.ensures

pub loops::run_loop-returns-in-Ok-false-turns : goal.loops::run_loop-returns-in-Ok-false-turns
loops::run_loop-returns-in-Ok-false-turns t c =
    let p = c.args.place.now in
    let k = known_of p in
    let b = option_copied c.args.before in
    let u = option_copied c.args.until in
    let body = does_all (stmts_in k c.args.body.now (queries_of p)) (inside (context_of p)) in
    let whole = looping p.level (before_by k b (self_of p) (scopes_of p)) body
    (after_by k u (self_of p) (scopes_of p)) c.args.frame.now (world_of c.args.world.now) in
    no_turn k b u (self_of p) (scopes_of p) p.level body whole c.loop-stop.frame
    c.args.world.now c.loop-stop.world c.goes_on.new.world c.turns.new.world _
    c.loop-stop.invariant
    (valued _ _ _ _ true c.in-Ok-true.ensures c.in-Ok-true.field-0-test)
    (c.in-Ok-false-turns.ensures.spent (ap Ok c.in-Ok-false-turns.field-0-test)) refl

pub loops::run_loop-returns-in-Ends : goal.loops::run_loop-returns-in-Ends
loops::run_loop-returns-in-Ends t c =
    let p = c.args.place.now in
    let k = known_of p in
    let b = option_copied c.args.before in
    let u = option_copied c.args.until in
    let body = does_all (stmts_in k c.args.body.now (queries_of p)) (inside (context_of p)) in
    let whole = looping p.level (before_by k b (self_of p) (scopes_of p)) body
    (after_by k u (self_of p) (scopes_of p)) c.args.frame.now (world_of c.args.world.now) in
    let tested = valued _ _ _ _ true c.in-Ok-true.ensures c.in-Ok-true.field-0-test in
    let taken = c.in-Ok-true-turns.ensures.taken (ap Ok c.in-Ok-true-turns.field-0-test) in
    body_ends k b u (self_of p) (scopes_of p) p.level body whole c.loop-stop.frame
    c.run_list.new.frame c.args.world.now c.turns.new.world c.run_list.new.world
    c.in_ok-outcome.outcome c.in-Ends.outcome _
    (in_body k b u (self_of p) (scopes_of p) p.level body whole c.loop-stop.frame
    c.args.world.now c.loop-stop.world c.goes_on.new.world c.turns.new.world
    c.loop-stop.invariant tested taken)
    (stays_on _ _ _ c.loop-stop.invariant.stays (stays_on _ _ _ tested.stays taken.stays))
    (looped p c.in_ok-inner.inner c.args.body.now c.loop-stop.frame c.run_list.new.frame
    c.turns.new.world c.run_list.new.world _ c.in_ok-inner.ensures c.in_ok-outcome.ensures)
    c.in-Ends.ensures refl

pub loops::run_loop-returns-in-Ok-false-goes_on : goal.loops::run_loop-returns-in-Ok-false-goes_on
loops::run_loop-returns-in-Ok-false-goes_on t c =
    let p = c.args.place.now in
    let k = known_of p in
    let b = option_copied c.args.before in
    let u = option_copied c.args.until in
    let body = does_all (stmts_in k c.args.body.now (queries_of p)) (inside (context_of p)) in
    let whole = looping p.level (before_by k b (self_of p) (scopes_of p)) body
    (after_by k u (self_of p) (scopes_of p)) c.args.frame.now (world_of c.args.world.now) in
    let tested = valued _ _ _ _ true c.in-Ok-true.ensures c.in-Ok-true.field-0-test in
    let taken = c.in-Ok-true-turns.ensures.taken (ap Ok c.in-Ok-true-turns.field-0-test) in
    let kept = stays_on _ _ _ c.loop-stop.invariant.stays
    (stays_on _ _ _ tested.stays (stays_on _ _ _ taken.stays c.in_ok-outcome.ensures.stays)) in
    let ended = at_end k b u (self_of p) (scopes_of p) p.level body whole c.loop-stop.frame
    c.run_list.new.frame c.turns.new.world c.run_list.new.world c.in_ok-outcome.outcome
    (in_body k b u (self_of p) (scopes_of p) p.level body whole c.loop-stop.frame
    c.args.world.now c.loop-stop.world c.goes_on.new.world c.turns.new.world
    c.loop-stop.invariant tested taken)
    (looped p c.in_ok-inner.inner c.args.body.now c.loop-stop.frame c.run_list.new.frame
    c.turns.new.world c.run_list.new.world _ c.in_ok-inner.ensures c.in_ok-outcome.ensures)
    c.in-Again.ensures in
    after_ends k b u (self_of p) (scopes_of p) p.level body whole c.run_list.new.frame
    c.args.world.now c.run_list.new.world c.goes_on-in-loop-stop.new.world _ ended kept
    (valued _ _ _ _ false c.in-Ok-false-goes_on.ensures c.in-Ok-false-goes_on.field-0-test) refl

pub loops::run_loop-returns-in-Err-goes_on : goal.loops::run_loop-returns-in-Err-goes_on
loops::run_loop-returns-in-Err-goes_on t c =
    let p = c.args.place.now in
    let k = known_of p in
    let b = option_copied c.args.before in
    let u = option_copied c.args.until in
    let body = does_all (stmts_in k c.args.body.now (queries_of p)) (inside (context_of p)) in
    let whole = looping p.level (before_by k b (self_of p) (scopes_of p)) body
    (after_by k u (self_of p) (scopes_of p)) c.args.frame.now (world_of c.args.world.now) in
    let tested = valued _ _ _ _ true c.in-Ok-true.ensures c.in-Ok-true.field-0-test in
    let taken = c.in-Ok-true-turns.ensures.taken (ap Ok c.in-Ok-true-turns.field-0-test) in
    let kept = stays_on _ _ _ c.loop-stop.invariant.stays
    (stays_on _ _ _ tested.stays (stays_on _ _ _ taken.stays c.in_ok-outcome.ensures.stays)) in
    let ended = at_end k b u (self_of p) (scopes_of p) p.level body whole c.loop-stop.frame
    c.run_list.new.frame c.turns.new.world c.run_list.new.world c.in_ok-outcome.outcome
    (in_body k b u (self_of p) (scopes_of p) p.level body whole c.loop-stop.frame
    c.args.world.now c.loop-stop.world c.goes_on.new.world c.turns.new.world
    c.loop-stop.invariant tested taken)
    (looped p c.in_ok-inner.inner c.args.body.now c.loop-stop.frame c.run_list.new.frame
    c.turns.new.world c.run_list.new.world _ c.in_ok-inner.ensures c.in_ok-outcome.ensures)
    c.in-Again.ensures in
    after_stops k b u (self_of p) (scopes_of p) p.level body whole c.run_list.new.frame
    c.stopped-in-Err-goes_on.new.frame c.args.world.now c.run_list.new.world c.goes_on-in-loop-stop.new.world
    c.stopped-in-Err-goes_on.new.world c.in-Err-goes_on.stop _ ended kept c.in-Err-goes_on.ensures c.stopped-in-Err-goes_on.ensures

pub loops::run_loop-loop-stop-preserved : goal.loops::run_loop-loop-stop-preserved
loops::run_loop-loop-stop-preserved t c =
    let p = c.args.place.now in
    let k = known_of p in
    let b = option_copied c.args.before in
    let u = option_copied c.args.until in
    let body = does_all (stmts_in k c.args.body.now (queries_of p)) (inside (context_of p)) in
    let whole = looping p.level (before_by k b (self_of p) (scopes_of p)) body
    (after_by k u (self_of p) (scopes_of p)) c.args.frame.now (world_of c.args.world.now) in
    let tested = valued _ _ _ _ true c.in-Ok-true.ensures c.in-Ok-true.field-0-test in
    let taken = c.in-Ok-true-turns.ensures.taken (ap Ok c.in-Ok-true-turns.field-0-test) in
    let kept = stays_on _ _ _ c.loop-stop.invariant.stays
    (stays_on _ _ _ tested.stays (stays_on _ _ _ taken.stays c.in_ok-outcome.ensures.stays)) in
    let ended = at_end k b u (self_of p) (scopes_of p) p.level body whole c.loop-stop.frame
    c.run_list.new.frame c.turns.new.world c.run_list.new.world c.in_ok-outcome.outcome
    (in_body k b u (self_of p) (scopes_of p) p.level body whole c.loop-stop.frame
    c.args.world.now c.loop-stop.world c.goes_on.new.world c.turns.new.world
    c.loop-stop.invariant tested taken)
    (looped p c.in_ok-inner.inner c.args.body.now c.loop-stop.frame c.run_list.new.frame
    c.turns.new.world c.run_list.new.world _ c.in_ok-inner.ensures c.in_ok-outcome.ensures)
    c.in-Again.ensures in
    next_run k b u (self_of p) (scopes_of p) p.level body whole c.run_list.new.frame
    c.args.world.now c.run_list.new.world c.goes_on-in-loop-stop.new.world ended kept
    (valued _ _ _ _ true c.in-Ok-true-goes_on.ensures c.in-Ok-true-goes_on.field-0-test)

-- ---- raising

pub raising::stopped-returns-in-Fails : goal.raising::stopped-returns-in-Fails
raising::stopped-returns-in-Fails t c =
    stop_fails (scopes_of c.args.place.now) c.args.frame.now c.args.world.now c.args.stop
    c.in-Fails.raise c.fail.new.world c.fail.new.frame c.fail.result
    (subst (λ (n : Onward). IsAfterStop c.args.stop (Ok n)) c.in-Fails.is c.in-Ok.ensures)
    c.fail.ensures

pub raising::stopped-returns-in-Ends : goal.raising::stopped-returns-in-Ends
raising::stopped-returns-in-Ends t c =
    stop_ends (scopes_of c.args.place.now) c.args.frame.now c.args.world.now c.args.stop
    c.in-Ends.outcome
    (subst (λ (n : Onward). IsAfterStop c.args.stop (Ok n)) c.in-Ends.is c.in-Ok.ensures)

pub raising::stopped-returns-in-Err : goal.raising::stopped-returns-in-Err
raising::stopped-returns-in-Err t c =
    stop_wants (scopes_of c.args.place.now) c.args.frame.now c.args.world.now c.args.stop _
    c.in-Err.ensures

pub raising::take-returns-in-None : goal.raising::take-returns-in-None
raising::take-returns-in-None t c =
    none_ends c.args.place.now c.args.raise c.in_ok-shown.shown c.args.raised c.args.frame.now
    c.show.new.frame c.args.world.now c.state-state.result c.choose.result
    c.in_ok-shown.ensures.same c.in_ok-shown.ensures.shown c.state-state.ensures
    (c.choose.ensures.best (acts_of c.args.place.now)) c.untaken.result c.in-None.is
    c.untaken.ensures

pub raising::take-returns-else-goes_on_after : goal.raising::take-returns-else-goes_on_after
raising::take-returns-else-goes_on_after t c =
    outwards_ends c.args.place.now c.args.raise c.in_ok-shown.shown c.args.raised c.args.frame.now
    c.show.new.frame c.args.world.now c.state-state.result c.choose.result
    c.in_ok-shown.ensures.same c.in_ok-shown.ensures.shown c.state-state.ensures
    (c.choose.ensures.best (acts_of c.args.place.now)) c.in-Some.chosen c.in-Some.is
    (sym c.if-goes_on_after.false ∙ c.goes_on_after.ensures)

pub raising::take-returns-then-goes_on_after : goal.raising::take-returns-then-goes_on_after
raising::take-returns-then-goes_on_after t c =
    here_ends c.args.place.now c.args.raise c.in_ok-shown.shown c.args.raised c.args.frame.now
    c.show.new.frame c.args.world.now c.state-state.result c.choose.result
    c.in_ok-shown.ensures.same c.in_ok-shown.ensures.shown c.state-state.ensures
    (c.choose.ensures.best (acts_of c.args.place.now)) c.in-Some.chosen c.act_aside.new.frame
    c.act_aside.new.world c.act_aside.result
    c.in-Some.is (sym c.if-goes_on_after.true ∙ c.goes_on_after.ensures) c.act_aside.ensures

pub raising::act_aside-returns-in-Ok : goal.raising::act_aside-returns-in-Ok
raising::act_aside-returns-in-Ok t c =
    let p = c.args.place.now in
    let s = c.args.chosen.now in
    comes_back s.scope.variables s.scope.cursors c.args.frame.now c.set_aside.new.self
    c.act.new.frame c.come_back.new.frame c.args.world.now c.act.new.world
    (λ f w. settled (acts_of p (scopes_by (acts_of p) (take s.outer p.scopes.now)) s.scope
    s.handler.now c.args.handled.now f w)) c.in-Ok.outcome c.in_ok-kept.kept c.come_back.result
    c.in_ok-kept.ensures.ok c.in_ok-kept.ensures.kept
    (subst (λ (ss : List Scope). Ran c.args.world.now c.act.new.world c.act.new.frame
    (Ok c.in-Ok.outcome) (settled (acts_of p (scopes_by (acts_of p) ss) s.scope
    s.handler.now c.args.handled.now c.set_aside.new.self (world_of c.args.world.now))))
    c.outermost-outer.ensures c.in-Ok.ensures)
    c.come_back.ensures.same c.come_back.ensures.kept

pub raising::act-returns-in-Ok : goal.raising::act-returns-in-Ok
raising::act-returns-in-Ok t c =
    let p = c.args.place.now in
    settles c.args.world.now c.run_stmt.new.world c.run_stmt.new.frame c.settle.new.self
    c.in-Ok.outcome _
    (does (stmt_in (known_of c.in_ok-inner.inner) c.get.result.now
    (queries_of c.in_ok-inner.inner)) (context_of c.in_ok-inner.inner) c.args.frame.now
    (world_of c.args.world.now))
    (acts_of p (scopes_by (acts_of p) c.args.outer.now) c.args.scope.now c.args.handler.now
    c.args.handled.now c.args.frame.now (world_of c.args.world.now))
    c.in-Ok.ensures c.settle.ensures
    (ap (λ (s : BoundStmt). does (stmt_in (known_of c.in_ok-inner.inner) s
    (queries_of c.in_ok-inner.inner)) (context_of c.in_ok-inner.inner) c.args.frame.now
    (world_of c.args.world.now)) c.get.ensures
    ∙ ap (λ (d : Doing). d c.args.frame.now (world_of c.args.world.now))
    (action_does p c.in_ok-inner.inner c.args.outer.now c.args.scope.now c.args.handled.now
    c.args.handler.now c.in_ok-inner.ensures)) refl

pub raising::act_aside-act-requires : goal.raising::act_aside-act-requires
raising::act_aside-act-requires t c = (
  omega (
    arith,
    action_less (known_of c.args.place.now)
        (queries_in (known_of c.args.place.now) c.args.chosen.now.scope.queries.now)
        c.args.chosen.now.scope.handlers.now c.args.chosen.now.handler.now c.requires.stands.1,
    outer_less (known_of c.args.place.now) c.args.place.now.scopes.now
        c.args.chosen.now.outer c.args.chosen.now.scope c.requires.stands.0,
    ap (handlers_costs (known_of c.args.place.now)) c.outermost-outer.ensures,
    c.decreases,
  ),
  tt,
)

pub raising::act-run_stmt-requires : goal.raising::act-run_stmt-requires
raising::act-run_stmt-requires t c = (
  omega (
    arith,
    action_cost c.args.place.now c.in_ok-inner.inner c.args.outer.now c.args.scope.now
        c.args.handled.now c.args.handler.now c.in_ok-inner.ensures,
    ap (λ (s : BoundStmt). stmt_cost (stmt_in (known_of c.in_ok-inner.inner) s
        (queries_of c.in_ok-inner.inner))) c.get.ensures,
    c.decreases,
  ),
  tt,
)

-- ---- rows of FOR

pub loops::run_rows-returns-in-Ok-false : goal.loops::run_rows-returns-in-Ok-false
loops::run_rows-returns-in-Ok-false t c =
    let p = c.args.place.now in
    let body = does_all (stmts_in (known_of p) c.args.body.now (queries_of p))
    (inside (context_of p)) in
    rows_spent p.level c.args.rows.now c.loop-row.row-index c.row-item.result body
    c.loop-row.frame c.args.world.now c.loop-row.world c.turns.new.world
    (for_each p.level c.args.rows.now body c.args.frame.now (world_of c.args.world.now))
    (omega (arith, c.loop-row-test.true)) c.row-item.is c.loop-row.invariant _
    (c.in-Ok-false.ensures.spent (ap Ok c.in-Ok-false.field-0-test)) refl

pub loops::run_rows-returns-in-Ends : goal.loops::run_rows-returns-in-Ends
loops::run_rows-returns-in-Ends t c =
    let p = c.args.place.now in
    let body = does_all (stmts_in (known_of p) c.args.body.now (queries_of p))
    (inside (context_of p)) in
    rows_over p.level c.args.rows.now c.loop-row.row-index c.row-item.result body
    c.loop-row.frame c.args.world.now c.loop-row.world c.turns.new.world
    (for_each p.level c.args.rows.now body c.args.frame.now (world_of c.args.world.now))
    (omega (arith, c.loop-row-test.true)) c.row-item.is c.loop-row.invariant
    c.declare_row.new.self c.run_list.new.frame c.cut.new.self c.run_list.new.world
    c.in_ok-outcome.outcome c.in-Ends.outcome _
    (c.in-Ok-true.ensures.taken (ap Ok c.in-Ok-true.field-0-test))
    (c.in_ok-declare_row.ensures.ok
    ∙ ap (λ (vs : List Value). with_more vs c.loop-row.frame) c.as_slice.ensures) (looped p c.in_ok-inner.inner c.args.body.now c.declare_row.new.self c.run_list.new.frame
    c.turns.new.world c.run_list.new.world _ c.in_ok-inner.ensures c.in_ok-outcome.ensures)
    (c.cut.ensures ∙ ap (λ (e : Extent). first_of e.variables e.cursors c.run_list.new.frame)
    c.extent-extent.ensures) c.in-Ends.ensures refl

pub loops::run_rows-loop-row-preserved : goal.loops::run_rows-loop-row-preserved
loops::run_rows-loop-row-preserved t c =
    let p = c.args.place.now in
    let body = does_all (stmts_in (known_of p) c.args.body.now (queries_of p))
    (inside (context_of p)) in
    rows_again p.level c.args.rows.now c.loop-row.row-index c.row-item.result body
    c.loop-row.frame c.args.world.now c.loop-row.world c.turns.new.world
    (for_each p.level c.args.rows.now body c.args.frame.now (world_of c.args.world.now))
    (omega (arith, c.loop-row-test.true)) c.row-item.is c.loop-row.invariant
    c.declare_row.new.self c.run_list.new.frame c.cut.new.self c.run_list.new.world
    c.in_ok-outcome.outcome
    (c.in-Ok-true.ensures.taken (ap Ok c.in-Ok-true.field-0-test))
    (c.in_ok-declare_row.ensures.ok
    ∙ ap (λ (vs : List Value). with_more vs c.loop-row.frame) c.as_slice.ensures) (looped p c.in_ok-inner.inner c.args.body.now c.declare_row.new.self c.run_list.new.frame
    c.turns.new.world c.run_list.new.world _ c.in_ok-inner.ensures c.in_ok-outcome.ensures)
    (c.cut.ensures ∙ ap (λ (e : Extent). first_of e.variables e.cursors c.run_list.new.frame)
    c.extent-extent.ensures) c.in-Again.ensures

-- ---- branches

pub statements::run_branches-returns-in-Err : goal.statements::run_branches-returns-in-Err
statements::run_branches-returns-in-Err t c =
    let p = c.args.place.now in
    let k = known_of p in
    let otherwise = does_otherwise c.args.wants_else
    (stmts_in k c.args.otherwise.now (queries_of p)) (context_of p) in
    branch_stops k c.args.branches.now c.loop-branch.branch-index c.branch-item.result
    (queries_of p) (option_copied c.args.operand) (context_of p) otherwise c.loop-branch.frame
    c.args.world.now c.loop-branch.world
    (does_choice (option_copied c.args.operand) (branches_in k c.args.branches.now (queries_of p))
    (context_of p) otherwise c.args.frame.now (world_of c.args.world.now))
    (omega (arith, c.loop-branch-test.true)) c.branch-item.is c.loop-branch.invariant.underway
    c.stopped.new.frame c.evaluate.new.world c.stopped.new.world c.in-Err.stop _
    c.in-Err.ensures c.stopped.ensures

pub statements::run_branches-returns-then-passes : goal.statements::run_branches-returns-then-passes
statements::run_branches-returns-then-passes t c =
    let p = c.args.place.now in
    let k = known_of p in
    let otherwise = does_otherwise c.args.wants_else
    (stmts_in k c.args.otherwise.now (queries_of p)) (context_of p) in
    branch_taken k c.args.branches.now c.loop-branch.branch-index c.branch-item.result
    (queries_of p) (option_copied c.args.operand) (context_of p) otherwise c.loop-branch.frame
    c.args.world.now c.loop-branch.world
    (does_choice (option_copied c.args.operand) (branches_in k c.args.branches.now (queries_of p))
    (context_of p) otherwise c.args.frame.now (world_of c.args.world.now))
    (omega (arith, c.loop-branch-test.true)) c.branch-item.is c.loop-branch.invariant.underway
    c.run_list.new.frame c.evaluate.new.world c.run_list.new.world c.in-Ok.value _
    c.in-Ok.ensures (sym c.passes.ensures ∙ c.if-passes.true)
    (subst (λ (ss : List BoundStmt). Ran c.evaluate.new.world c.run_list.new.world
    c.run_list.new.frame c.run_list.result (does_all (stmts_in k ss (queries_of p)) (context_of p)
    c.loop-branch.frame (world_of c.evaluate.new.world))) c.as_slice.ensures c.run_list.ensures)

pub statements::run_branches-loop-branch-preserved :
    goal.statements::run_branches-loop-branch-preserved
statements::run_branches-loop-branch-preserved t c =
    let p = c.args.place.now in
    let k = known_of p in
    let otherwise = does_otherwise c.args.wants_else
    (stmts_in k c.args.otherwise.now (queries_of p)) (context_of p) in
    record {
      underway = branch_passed k c.args.branches.now c.loop-branch.branch-index
          c.branch-item.result (queries_of p) (option_copied c.args.operand) (context_of p)
          otherwise c.loop-branch.frame c.args.world.now c.loop-branch.world
          (does_choice (option_copied c.args.operand)
          (branches_in k c.args.branches.now (queries_of p)) (context_of p) otherwise
          c.args.frame.now (world_of c.args.world.now))
          (omega (arith, c.loop-branch-test.true)) c.branch-item.is
          c.loop-branch.invariant.underway c.evaluate.new.world c.in-Ok.value c.in-Ok.ensures
          (sym c.passes.ensures ∙ c.if-passes.false);
      small = omega (
        arith,
        branches_cost-rest k c.args.branches.now c.loop-branch.branch-index
            c.branch-item.result (queries_of p) (omega (arith, c.loop-branch-test.true))
            c.branch-item.is,
        c.loop-branch.invariant.small,
      );
    }

pub statements::run_branches-returns : goal.statements::run_branches-returns
statements::run_branches-returns t c =
    let p = c.args.place.now in
    let k = known_of p in
    let otherwise = does_otherwise c.args.wants_else
    (stmts_in k c.args.otherwise.now (queries_of p)) (context_of p) in
    choice_none k c.args.branches.now c.loop-branch.branch-index (queries_of p)
    (option_copied c.args.operand) (context_of p) otherwise c.loop-branch.frame
    c.run_else.new.frame c.args.world.now c.loop-branch.world c.run_else.new.world
    (does_choice (option_copied c.args.operand) (branches_in k c.args.branches.now (queries_of p))
    (context_of p) otherwise c.args.frame.now (world_of c.args.world.now)) _
    (omega (arith, c.loop-branch-test.false)) c.loop-branch.invariant.underway c.run_else.ensures

-- ---- measures

pub loops::run_loop-run_list-requires : goal.loops::run_loop-run_list-requires
loops::run_loop-run_list-requires t c = (
  omega (
    arith,
    inside_cost c.args.place.now c.in_ok-inner.inner c.args.body.now c.in_ok-inner.ensures,
    c.decreases,
  ),
  tt,
)

pub blocks::exit-act-requires : goal.blocks::exit-act-requires
blocks::exit-act-requires t c =
    let k = known_of c.args.place.now in (
      omega (
        arith,
        action_less k (queries_in k c.args.own.now.queries.now) c.args.own.now.handlers.now
            c.in-Some.handler.now c.in-Some.ensures.stands,
        c.decreases,
      ),
      tt,
    )

pub blocks::seal-returns-in-Fails : goal.blocks::seal-returns-in-Fails
blocks::seal-returns-in-Fails t c start since =
    seal_fails c.args.atomic (outcome_of c.args.outcome) start c.args.world.now
    c.sealed.new.world c.sealed.result (scopes_of c.args.place.now) c.args.frame.now
    (c.sealed.ensures start since) c.in-Fails.raise c.fail.new.world c.fail.new.frame
    c.fail.result c.in-Fails.is c.fail.ensures

pub blocks::seal-returns-in-Ends : goal.blocks::seal-returns-in-Ends
blocks::seal-returns-in-Ends t c start since =
    seal_ends c.args.atomic (outcome_of c.args.outcome) start c.args.world.now
    c.sealed.new.world c.sealed.result (scopes_of c.args.place.now) c.args.frame.now
    (c.sealed.ensures start since) c.in-Ends.outcome c.in-Ends.is

pub blocks::run_inside-close-requires : goal.blocks::run_inside-close-requires
blocks::run_inside-close-requires t c =
    let k = known_of c.args.place.now in (
      omega (
        arith,
        costs_append k c.args.outer.now c.args.own.now,
        ap (handlers_costs k) c.requires.inside,
        stmts_some (stmts_in k c.args.statements.now (queries_in k c.args.own.now.queries.now)),
        c.decreases,
      ),
      omega (arith, c.requires.known, c.in-Ok.ensures.stays.marks.longer),
    )

-- ---- compound statements

pub blocks::run_inside-returns-in-Ok-close : goal.blocks::run_inside-returns-in-Ok-close
blocks::run_inside-returns-in-Ok-close t c start since =
    let p = c.args.place.now in
    let k = known_of p in
    let own = c.args.own.now in
    let body = does_all (stmts_in k c.args.statements.now (queries_in k own.queries.now))
    (inside_scopes (scopes_by (acts_of p) c.args.scopes.now) (context_of p)) in
    closed_end p.level own.level (handlings_by p c.args.outer.now own) start c.args.world.now
    c.run_list.new.world c.close.new.world c.args.frame.now c.run_list.new.frame
    c.close.new.frame body c.in-Ok.outcome c.in-Ok-close.outcome _ c.args.mark
    (subst (λ (d : Doing). Ran c.args.world.now c.run_list.new.world c.run_list.new.frame
    (Ok c.in-Ok.outcome) (d c.args.frame.now (world_of c.args.world.now)))
    (within_does p c.in_ok-inner.inner own.queries.now c.args.scopes.now
    c.in_ok-inner.ensures c.args.statements.now) c.in-Ok.ensures)
    (c.in-Ok-close.ensures start (record {
      at = since.at;
      stays = stays_on start c.args.world.now c.run_list.new.world since.stays
          c.in-Ok.ensures.stays;
    }))
    c.left.ensures

pub blocks::declare-returns-in-Err-clause-ends : goal.blocks::declare-returns-in-Err-clause-ends
blocks::declare-returns-in-Err-clause-ends t c =
    let p = c.args.place.now in
    declared_stops (known_of p) c.args.variables.now c.loop-group.group-index
    c.group-item.result (self_of p) c.args.frame.now c.loop-group.frame c.args.world.now
    c.loop-group.world c.default_of.new.world (omega (arith, c.loop-group-test.true))
    c.group-item.is c.loop-group.invariant.declared c.in-Err.stop c.in-Err.ensures

pub blocks::declare-loop-group-preserved : goal.blocks::declare-loop-group-preserved
blocks::declare-loop-group-preserved t c =
    let p = c.args.place.now in
    let k = known_of p in
    record {
      declared = declared_next k c.args.variables.now c.loop-group.group-index
          c.group-item.result (self_of p) c.args.frame.now c.loop-group.frame c.args.world.now
          c.loop-group.world c.default_of.new.world (omega (arith, c.loop-group-test.true))
          c.group-item.is c.loop-group.invariant.declared c.in-Ok.value c.declare.new.self
          c.in-Ok.ensures c.in-Ok-declare.ensures.ok;
      small = omega (
        arith,
        variables_cost-rest k c.args.variables.now c.loop-group.group-index
            c.group-item.result (omega (arith, c.loop-group-test.true)) c.group-item.is,
        c.loop-group.invariant.small,
      );
    }

-- ---- SET

pub assigning::run_set-returns-in-Err : goal.assigning::run_set-returns-in-Err
assigning::run_set-returns-in-Err t c =
    let p = c.args.place.now in
    set_stops (known_of p) (target c.args.target.now) c.args.expr.now (context_of p)
    c.args.frame.now c.args.world.now c.assigned_value.new.world c.stopped.new.frame
    c.stopped.new.world c.in-Err.stop _ c.in-Err.ensures c.stopped.ensures

-- ---- ELSE

pub statements::run_else-returns-then-lacks_else : goal.statements::run_else-returns-then-lacks_else
statements::run_else-returns-then-lacks_else t c =
    let p = c.args.place.now in
    same_end c.args.world.now c.fail.new.world c.fail.new.frame _
    (failing (scopes_of p) c.of.result c.args.frame.now (world_of c.args.world.now))
    (does_otherwise c.args.wants_else (stmts_in (known_of p) c.args.otherwise.now (queries_of p))
    (context_of p) c.args.frame.now (world_of c.args.world.now))
    (ap (λ (d : Doing). d c.args.frame.now (world_of c.args.world.now))
    (else_fails (known_of p) c.args.wants_else c.args.otherwise.now (queries_of p) (context_of p)
    (sym c.lacks_else.ensures ∙ c.if-lacks_else.true))
    ∙ ap (λ (a : Area). failing (scopes_of p) a c.args.frame.now (world_of c.args.world.now))
    (sym c.of.ensures)) c.fail.ensures

pub statements::run_else-returns : goal.statements::run_else-returns
statements::run_else-returns t c =
    let p = c.args.place.now in
    same_end c.args.world.now c.run_list.new.world c.run_list.new.frame _
    (does_all (stmts_in (known_of p) c.args.otherwise.now (queries_of p)) (context_of p)
    c.args.frame.now (world_of c.args.world.now))
    (does_otherwise c.args.wants_else (stmts_in (known_of p) c.args.otherwise.now (queries_of p))
    (context_of p) c.args.frame.now (world_of c.args.world.now))
    (ap (λ (d : Doing). d c.args.frame.now (world_of c.args.world.now))
    (else_runs (known_of p) c.args.wants_else c.args.otherwise.now (queries_of p) (context_of p)
    (sym c.lacks_else.ensures ∙ c.if-lacks_else.false))) c.run_list.ensures

-- ---- statements of compound statements, and loops with a test

pub blocks::run_scoped-run_inside-requires : goal.blocks::run_scoped-run_inside-requires
blocks::run_scoped-run_inside-requires t c =
    let p = c.args.place.now in
    let own : Scope = record {
      handlers = c.as_slice.result;
      queries = c.args.queries;
      level = p.level;
      variables = c.extent-extent.result.variables;
      cursors = c.extent-extent.result.cursors;
    } in
    let inside_is : c.as_slice-in-Ok.result.now ≡ c.seen_outside-outer.result.now ++ own ∷ [] =
    c.as_slice-in-Ok.ensures ∙ c.in-Ok.ensures in (
      omega (
        arith,
        scoped_cost p c.args.block.now c.args.queries.now c.as_slice-statements.result.now
            c.seen_outside-outer.result.now c.as_slice-in-Ok.result.now own
            c.seen_outside-outer.ensures inside_is c.as_slice-statements.ensures
            c.as_slice.ensures refl,
        c.decreases,
      ),
      (inside_is, c.requires.known),
    )

pub blocks::run_scoped-returns-in-Ok : goal.blocks::run_scoped-returns-in-Ok
blocks::run_scoped-returns-in-Ok t c start since =
    let p = c.args.place.now in
    let own : Scope = record {
      handlers = c.as_slice.result;
      queries = c.args.queries;
      level = p.level;
      variables = c.extent-extent.result.variables;
      cursors = c.extent-extent.result.cursors;
    } in
    same_end start c.run_inside.new.world c.run_inside.new.frame c.run_inside.result _
    (body_by p c.args.block.now (queries_in (known_of p) c.args.queries.now) start.memory.tables
    c.args.frame.now (world_of c.args.world.now))
    (scoped_does p c.args.block.now c.args.queries.now c.as_slice-statements.result.now
    c.seen_outside-outer.result.now c.as_slice-in-Ok.result.now own start.memory.tables
    c.args.frame.now (world_of c.args.world.now) c.seen_outside-outer.ensures
    (c.as_slice-in-Ok.ensures ∙ c.in-Ok.ensures) c.as_slice-statements.ensures
    c.as_slice.ensures refl refl
    (ap (λ (e : Extent). e.variables) c.extent-extent.ensures)
    (ap (λ (e : Extent). e.cursors) c.extent-extent.ensures))
    (c.run_inside.ensures start since)

pub statements::run_stmt-returns-in-While : goal.statements::run_stmt-returns-in-While
statements::run_stmt-returns-in-While t c =
    let p = c.args.place.now in
    same_end c.args.world.now c.run_loop-in-While.new.world c.run_loop-in-While.new.frame _ _ _
    (while_does (known_of p) c.args.stmt.now c.in-While.test c.in-While.body
    c.as_slice-in-While.result.now (queries_of p) (context_of p) c.args.frame.now
    (world_of c.args.world.now) c.as_slice-in-While.ensures c.in-While.is) c.run_loop-in-While.ensures

pub statements::run_stmt-returns-in-Repeat : goal.statements::run_stmt-returns-in-Repeat
statements::run_stmt-returns-in-Repeat t c =
    let p = c.args.place.now in
    same_end c.args.world.now c.run_loop-in-Repeat.new.world c.run_loop-in-Repeat.new.frame _ _ _
    (repeat_does (known_of p) c.args.stmt.now c.in-Repeat.test c.in-Repeat.body
    c.as_slice-in-Repeat.result.now (queries_of p) (context_of p) c.args.frame.now
    (world_of c.args.world.now) c.as_slice-in-Repeat.ensures c.in-Repeat.is) c.run_loop-in-Repeat.ensures

-- ---- cursors

pub cursors::cursor_rows-returns-in-None : goal.cursors::cursor_rows-returns-in-None
cursors::cursor_rows-returns-in-None t c =
    let p = c.args.place.now in
    record {
      tells =
          ap (λ (q : Query). unit (answer q (self_of p) [] c.args.frame.now)
          (world_of c.args.world.now)) (no_query_at (known_of p) p.cursors.now c.args.slot
          (sym c.at.ensures ∙ ap option_copied c.in-None.is))
          ∙ ap (λ (rows : List Row). Gives rows (world_of c.args.world.now)) (sym c.new.ensures);
      stays = stays_same c.args.world.now;
    }

-- ---- SIGNAL

-- an expression that may be left out, by which it is
seen_as : (k : Known) (self : Called) (f : Frame) (old mid : Content)
    (r : Result (Option Value) Stop) (o e : Option BoundExpr) → o ≡ e →
    Ended old mid r (unit (ev_perhaps (perhaps k o) self f) (world_of old)) →
    Ended old mid r (unit (ev_perhaps (perhaps k e) self f) (world_of old))
seen_as k self f old mid r o e is d =
    subst (λ (x : Option BoundExpr). Ended old mid r (unit (ev_perhaps (perhaps k x) self f)
    (world_of old))) is d

pub signals::run_signal-returns-in-Ok-held : goal.signals::run_signal-returns-in-Ok-held
signals::run_signal-returns-in-Ok-held t c =
    let p = c.args.place.now in
    signal_ends (scopes_of p) c.args.statement.now.state
    (ev_perhaps (perhaps (known_of p) c.args.statement.now.message) (self_of p))
    c.args.frame.now c.signal.new.frame c.args.world.now c.evaluate_perhaps.new.world
    c.signal.new.world c.in-Ok.value c.in-Some.text c.in-Ok-held.raise c.signal.result
    (seen_as (known_of p) (self_of p) c.args.frame.now c.args.world.now
    c.evaluate_perhaps.new.world (Ok c.in-Ok.value) _ _ c.as_ref.ensures.value c.in-Ok.ensures)
    (sym c.in-Some.ensures)
    (c.in-Ok-held.ensures ∙ c.of.ensures
    ∙ ap (one_condition c.args.statement.now.state) c.message_of.ensures) c.signal.ensures

-- ---- INSERT, UPDATE and DELETE

pub writing::changed-returns-in-Ok : goal.writing::changed-returns-in-Ok
writing::changed-returns-in-Ok t c =
    let p = c.args.place.now in
    let query = query_in (known_of p) c.args.query.now in
    let f = c.args.frame.now in
    unit_gives c.args.world.now c.write.new.world c.in-Ok.count
    (writes c.args.change c.args.table.now query (self_of p) f)
    (goes_on_with c.args.world.now c.answer_query-rows.new.world c.write.new.world
    c.answer_query-rows.result (Ok c.in-Ok.count)
    (answer query (self_of p) [] f (world_of c.args.world.now))
    (written c.args.change c.args.table.now) c.answer_query-rows.ensures c.in-Ok.ensures)

pub writing::changed-returns-in-Err : goal.writing::changed-returns-in-Err
writing::changed-returns-in-Err t c =
    let p = c.args.place.now in
    let query = query_in (known_of p) c.args.query.now in
    let f = c.args.frame.now in
    let whole = writes c.args.change c.args.table.now query (self_of p) f
    (world_of c.args.world.now) in
    unit_stops c.args.world.now c.write.new.world c.leave.new.world c.mark-mark.result c.in-Err.stop
    c.leave.result whole c.mark-mark.ensures
    (goes_on_with c.args.world.now c.answer_query-rows.new.world c.write.new.world
    c.answer_query-rows.result (Err c.in-Err.stop)
    (answer query (self_of p) [] f (world_of c.args.world.now))
    (written c.args.change c.args.table.now) c.answer_query-rows.ensures c.in-Err.ensures)
    c.leave.ensures.left c.leave.ensures.same

-- ---- SELECT INTO

pub statements::run_stmt-returns-in-SelectInto : goal.statements::run_stmt-returns-in-SelectInto
statements::run_stmt-returns-in-SelectInto t c =
    let p = c.args.place.now in
    same_end c.args.world.now c.run_select_into.new.world c.run_select_into.new.frame _ _ _
    (select_into_does (known_of p) c.args.stmt.now c.in-SelectInto.query c.in-SelectInto.targets
    c.as_slice-in-SelectInto.result.now (queries_of p) (context_of p) c.args.frame.now
    (world_of c.args.world.now) c.as_slice-in-SelectInto.ensures c.in-SelectInto.is)
    c.run_select_into.ensures

-- ---- GET DIAGNOSTICS

pub diagnosing::run_get_diagnostics-returns-in-Ok-get :
    goal.diagnosing::run_get_diagnostics-returns-in-Ok-get
diagnosing::run_get_diagnostics-returns-in-Ok-get t c =
    let p = c.args.place.now in
    let d = c.args.statement.now in
    get_stores (known_of p) (context_of p) c.args.frame.now c.args.world.now
    c.evaluate_perhaps.new.world d.area d.information c.in-Ok.number c.get.new.frame _
    (seen_as (known_of p) (self_of p) c.args.frame.now c.args.world.now
    c.evaluate_perhaps.new.world (Ok c.in-Ok.number) _ _ c.number_of.ensures c.in-Ok.ensures)
    c.in-Ok-get.ensures.ends refl

pub diagnosing::run_get_diagnostics-returns-in-Ok :
    goal.diagnosing::run_get_diagnostics-returns-in-Ok
diagnosing::run_get_diagnostics-returns-in-Ok t c =
    let p = c.args.place.now in
    let d = c.args.statement.now in
    get_stops (known_of p) (context_of p) c.args.frame.now c.args.world.now
    c.evaluate_perhaps.new.world d.area d.information c.in-Ok.number c.in-Err-get.stop
    c.stopped.new.frame c.stopped.new.world c.stopped.result
    (seen_as (known_of p) (self_of p) c.args.frame.now c.args.world.now
    c.evaluate_perhaps.new.world (Ok c.in-Ok.number) _ _ c.number_of.ensures c.in-Ok.ensures)
    c.in-Err-get.ensures.ends
    (subst (λ (f : Frame). GoesOnFrom c.in-Err-get.stop (scopes_of p) c.evaluate_perhaps.new.world
    c.stopped.new.world f c.stopped.new.frame c.stopped.result) c.in-Err-get.ensures.kept
    c.stopped.ensures)

pub diagnosing::run_get_diagnostics-returns : goal.diagnosing::run_get_diagnostics-returns
diagnosing::run_get_diagnostics-returns t c =
    let p = c.args.place.now in
    let d = c.args.statement.now in
    get_number_stops (known_of p) (context_of p) c.args.frame.now c.args.world.now
    c.evaluate_perhaps.new.world d.area d.information c.in-Err.stop c.stopped-in-Err.new.frame
    c.stopped-in-Err.new.world c.stopped-in-Err.result
    (seen_as (known_of p) (self_of p) c.args.frame.now c.args.world.now
    c.evaluate_perhaps.new.world (Err c.in-Err.stop) _ _ c.number_of.ensures c.in-Err.ensures)
    c.stopped-in-Err.ensures

-- ---- expressions that may be left out

pub units::evaluate_perhaps-returns-in-Err : goal.units::evaluate_perhaps-returns-in-Err
units::evaluate_perhaps-returns-in-Err t c =
    let p = c.args.place.now in
    perhaps_stops (known_of p) (option_copied c.args.expr) c.in-Some.expr.now (self_of p)
    c.args.frame.now c.args.world.now c.evaluate.new.world c.in-Err.stop
    (ap option_copied c.in-Some.is) c.in-Err.ensures
