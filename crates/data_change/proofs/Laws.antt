-- What holds of changes of rows, for the crates above.
pub use Rattle.data_change.proofs.Meeting.{met_rows_in_order}
pub use Rattle.data_change.proofs.Changing.{put_all-length, removed_all-rises}
pub use Rattle.data_change.proofs.Changing.{set_all-same, removed_all-same}
pub use Rattle.rel_algebra.proofs.Laws.{stored_in-all}
