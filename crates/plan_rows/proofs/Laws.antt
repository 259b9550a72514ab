-- What holds of cells and of rows, for the crates above.
pub use Rattle.plan_rows.proofs.Among.{or_all, or_all_ends, item_passed, among_operands}
pub use Rattle.plan_rows.proofs.Collected.{among_row, cells_end_is, collected_first, first_and}
pub use Rattle.plan_rows.proofs.Collected.{row_err, row_ok, row_whole, rows_and, rows_and_err}
pub use Rattle.plan_rows.proofs.Collected.{rows_and_ok, rows_and_push, shown_append, took_area}
pub use Rattle.plan_rows.proofs.Collected.{took_values}
pub use Rattle.plan_rows.proofs.TruthTables.{and_decided, and_open, or_decided, or_open}
pub use Rattle.plan_rows.proofs.Places.{outer_column, same_cell}
pub use Rattle.plan_rows.proofs.Operands.{value_there}
pub use Rattle.plan_rows.proofs.Outcomes.{cell_as_defined}
pub use Rattle.plan_rows.proofs.Copies.{copy_more}
