-- What INSERT with a column list, UPDATE and DELETE do: they are those of statements.
-- ISO/IEC 9075-2, 14.11 (insert statement), 14.14 (update statement) and 14.9 (delete statement).
pub use Rattle.rel_algebra.specs.Writing.{put_all, spread, spread_rows, stored_in, found_at}
pub use Rattle.rel_algebra.specs.Writing.{place_in, places_in, changed_row, replaced, change_in}
pub use Rattle.rel_algebra.specs.Writing.{changed, remove_in, removed}
pub use Rattle.rel_algebra.specs.Changes.{insert, update, delete}
