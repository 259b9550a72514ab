-- What the crates above may cite: the orders of values, of keys and of rows by their keys are
-- total; what that gives for lists that rise; and tables by their names are tables by their places.
pub use Rattle.row_types.proofs.Total.{value_cmp_total, key_cmp_total, by_key_total}
pub use Rattle.row_types.proofs.Ordered.{by_order, is_less, err_at, ok_at, one_on_err, one_on_ok}
pub use Rattle.row_types.proofs.Ordered.{err_within, ok_within}
pub use Rattle.row_types.proofs.Ordered.{head-rises, tail-rises, above_all, below_all, first-below}
pub use Rattle.row_types.proofs.Ordered.{rises_before, insert_is_put, not_tied_above, none_stands}
pub use Rattle.row_types.proofs.Ordered.{one_stands, rises-put, any-put, all-put, any-put_all}
pub use Rattle.row_types.proofs.Ordered.{put_all-append, put_all-rises, in_order-rises}
pub use Rattle.row_types.proofs.Ordered.{in_order-append, repeat_none, repeat_here}
pub use Rattle.row_types.proofs.Ordered.{first_repeat-append, first_repeat-rises, rises-remove}
pub use Rattle.row_types.proofs.Ordered.{rises-set, stands_out, put_all-rises_first, Apart}
pub use Rattle.row_types.proofs.Ordered.{put_comm, put_all-put, put_all-apart, in_order-middle}
pub use Rattle.row_types.proofs.Ordered.{repeat_none-rises, rises_from_none}
pub use Rattle.row_types.proofs.Ordered.{all-remove, remove-insert, insert-remove, set-back}
pub use Rattle.row_types.proofs.Ordered.{all-set}
pub use Rattle.row_types.proofs.Naming.{place_named-within, table_named-at, with_table_named-at}
pub use Rattle.row_types.proofs.Naming.{with_rows_named-at, without_table_named-at, rows_named-at}
pub use Rattle.row_types.proofs.Naming.{table_named-none, with_table_named-none}
pub use Rattle.row_types.proofs.Naming.{with_rows_named-none, without_table_named-none}
pub use Rattle.row_types.proofs.Naming.{names_of-with_table, place_named-with_table}
pub use Rattle.row_types.proofs.Naming.{table_at-with_table, table_at-other}
