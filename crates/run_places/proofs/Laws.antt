-- What holds of places, of what statements do to them and of costs, for the crates above.
pub use Rattle.run_places.proofs.Acting.{action_cost, action_does, action_less, outer_less}
pub use Rattle.run_places.proofs.Activating.{function_activated, function_ends, procedure_activated}
pub use Rattle.run_places.proofs.Activating.{procedure_ends}
pub use Rattle.run_places.proofs.Assigning.{set_stops}
pub use Rattle.run_places.proofs.AtLeast.{stmts_some}
pub use Rattle.run_places.proofs.BlockRuns.{closed_end, costs_append, within_does, scoped_cost}
pub use Rattle.run_places.proofs.BlockRuns.{scoped_does}
pub use Rattle.run_places.proofs.BranchRuns.{branch_passed, branch_stops, branch_taken}
pub use Rattle.run_places.proofs.BranchRuns.{branches_cost-rest}
pub use Rattle.run_places.proofs.Calling.{returned_ends, another_ends, within_ends}
pub use Rattle.run_places.proofs.Cases.{costs-arm, last_result, test_fails, test_passes, test_stops}
pub use Rattle.run_places.proofs.Costs.{step_cost, left_cost, source_small, join_small, left_small}
pub use Rattle.run_places.proofs.Costs.{from_less, list_less, groups_less, inner_less, left_less}
pub use Rattle.run_places.proofs.CursorRuns.{no_query_at}
pub use Rattle.run_places.proofs.Declared.{Declared, declared_next, declared_stops}
pub use Rattle.run_places.proofs.Declared.{variables_cost-rest}
pub use Rattle.run_places.proofs.DiagnosticsRuns.{some_unit, get_stores, get_stops}
pub use Rattle.run_places.proofs.DiagnosticsRuns.{get_number_stops}
pub use Rattle.run_places.proofs.Grouping.{groups_stop, groups_end, part_stops, part_taken}
pub use Rattle.run_places.proofs.LeftToRight.{from_left, item_stops, join_stops, item_joined}
pub use Rattle.run_places.proofs.LeftToRight.{rows_end, grouping_ends, from_stops, comma_ends}
pub use Rattle.run_places.proofs.LeftToRight.{cross_ends, inner_ends, left_ends, on_ends}
pub use Rattle.run_places.proofs.Lists.{list_next, stmts_cost-rest, choice_none}
pub use Rattle.run_places.proofs.LoopRuns.{LoopUnderway, before_ends, before_stops, no_turn}
pub use Rattle.run_places.proofs.LoopRuns.{in_body, body_ends, at_end, after_stops, after_ends}
pub use Rattle.run_places.proofs.LoopRuns.{next_run, inside_cost}
pub use Rattle.run_places.proofs.Onwards.{stop_fails, stop_ends, stop_wants, seal_fails, seal_ends}
pub use Rattle.run_places.proofs.Performing.{arguments_cost-rest, comes_by, passing_goes}
pub use Rattle.run_places.proofs.Performing.{passing_stops, call_stops, call_stores, other_ends}
pub use Rattle.run_places.proofs.Performing.{performed_does, performed_ends}
pub use Rattle.run_places.proofs.RowByRow.{listed_stop, listed_go, kept_stop, kept_go, match_ends}
pub use Rattle.run_places.proofs.RowRuns.{rows_again, rows_over, rows_spent}
pub use Rattle.run_places.proofs.SeenStatements.{stmt_in-While, stmt_in-Repeat, stmt_in-SelectInto}
pub use Rattle.run_places.proofs.SeenStatements.{stmt_in-Set}
pub use Rattle.run_places.proofs.SelfCosts.{falls_to_again, falls_to_self, modes_known}
pub use Rattle.run_places.proofs.Steps.{all_go, all_stop, args_go, args_stop, rows_go, rows_stop}
pub use Rattle.run_places.proofs.Subqueries.{single_ends, exists_ends, ordered_ends}
pub use Rattle.run_places.proofs.Taking.{none_ends, outwards_ends, here_ends, comes_back, settles}
pub use Rattle.run_places.proofs.Taking.{same_end}
pub use Rattle.run_places.proofs.Trees.{rows_cost-rest, costs-rest}
pub use Rattle.run_places.proofs.Underway.{ends_with, underway, value_gives, Underway}
pub use Rattle.run_places.proofs.Words.{arms_cost, case_of_ends, case_of_stops, is_strict}
pub use Rattle.run_places.proofs.Words.{strict_ends, IsCaseOf}
pub use Rattle.run_places.proofs.Seen.{expr_in-Literal, expr_in-Column, expr_in-Variable}
pub use Rattle.run_places.proofs.Seen.{expr_in-Operation, expr_in-Chain, link_in-parts}
pub use Rattle.run_places.proofs.Seen.{item_in-Comma, select_in-parts, source_in-Table}
