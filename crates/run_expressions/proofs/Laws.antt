-- What holds of runs, for the crates above.
pub use Rattle.run_expressions.proofs.Stays.{stays_same}
pub use Rattle.run_expressions.proofs.Trees.{rest, costs-rest, rows_cost-rest}
pub use Rattle.run_expressions.proofs.Going.{Going, going, goes_on, stops_too, stops, gives}
pub use Rattle.run_expressions.proofs.Going.{ends_as, ended_as, follows, after_give, after_after}
pub use Rattle.run_expressions.proofs.Going.{same_after, deep, goes_within, stops_within, regrouped}
pub use Rattle.run_expressions.proofs.Going.{none_yet, adds_stop, adds_go, several_stop, several_go}
pub use Rattle.run_expressions.proofs.Going.{fault_tells, fault_carried, outcome_gives}
pub use Rattle.run_expressions.proofs.Steps.{args_stop, args_go, all_stop, all_go, rows_stop}
pub use Rattle.run_expressions.proofs.Steps.{rows_go, link_stops, link_goes, body_ends}
pub use Rattle.run_expressions.proofs.Cases.{test_stops, test_passes, test_fails, last_result}
pub use Rattle.run_expressions.proofs.Cases.{costs-arm}
pub use Rattle.run_expressions.proofs.Words.{IsCaseOf, is_strict, strict_ends, arms_cost}
pub use Rattle.run_expressions.proofs.Words.{case_of_stops, case_of_ends}
pub use Rattle.run_expressions.proofs.Left.{unit_stops}
pub use Rattle.run_expressions.proofs.Activations.{turn_ends, activation_ends}
pub use Rattle.run_expressions.proofs.Stays.{stays_on}
