-- What holds of statements, for the crates that run them.
pub use Rattle.statement_laws.proofs.Values.{called, valued, tested}
pub use Rattle.statement_laws.proofs.Raising.{taken_as_chosen}
pub use Rattle.statement_laws.proofs.InTurn.{goes_in_turn, list_goes_on, else_goes_on}
pub use Rattle.statement_laws.proofs.InTurn.{branches_go_on, matching_goes_on}
pub use Rattle.statement_laws.proofs.Loops.{loop_tests, runs_body, loop_goes_on, rows_go_on}
pub use Rattle.statement_laws.proofs.Declarations.{declarations_go_on}
pub use Rattle.statement_laws.proofs.Passing.{arguments_go_on}
pub use Rattle.statement_laws.proofs.Compounds.{exit_goes_on, seal_goes_on, compound_goes_on}
pub use Rattle.statement_laws.proofs.Calls.{call_goes_on, activation_goes_on, bodies_go_on}
