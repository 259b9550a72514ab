-- What rows that a table may hold are after an edit, for the crates above.
pub use Rattle.table_store.proofs.Kept.{kept_fits, kept_rises, well_kept-remove, well_kept-insert}
pub use Rattle.table_store.proofs.Kept.{can_insert, well_kept-set, can_replace}
pub use Rattle.table_store.proofs.WellKept.{well_kept-take, well_kept-removed_all, kept_rows_at}
pub use Rattle.table_store.proofs.WellKept.{AllWellKept-with_rows_at, AllWellKept-push}
pub use Rattle.table_store.proofs.WellKept.{AllWellKept-remove}
-- Rows at places that increase: those that are left, and those that go in again.
pub use Rattle.table_store.proofs.Places.{Climb-last, Climb-front, Climb-more, Climb-low}
pub use Rattle.table_store.proofs.Places.{Climb-room, removed_all-append, length-removed_all}
pub use Rattle.table_store.proofs.Places.{still_there, get_or-removed_all}
pub use Rattle.table_store.proofs.Opening.{inserted_all-append, length-inserted_all}
pub use Rattle.table_store.proofs.Opening.{inserted-removed, removed-inserted, places_of-placed}
