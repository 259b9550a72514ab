-- A table beside the number of rows that it has memory for, and which edits it takes.
-- ISO/IEC 9075-2, 4.14 (tables).
use Rattle.std.specs.Prelude.{ℕ, ◌+◌, ◌≤◌, ◌<◌, List, ◌++◌, length, slice_set, IsTrue}
use Rattle.std.specs.List.{insert}
use Rattle.row_types.specs.Rows.{Row, well_kept}
use Rattle.row_types.specs.Tables.{Table, with_rows}
use Rattle.table_store.specs.declared.placed_row.PlacedRow.{PlacedRow}
use Rattle.table_store.specs.Places.{Climb, places_of, inserted_all}

-- A table and the number of rows that it has memory for.
pub record Kept : Type 0 where
  pub table : Table
  pub capacity : ℕ

-- the same with other rows
abbrev pub holding : List Row → Kept → Kept
holding rows k = record { table = with_rows rows k.table; capacity = k.capacity }

-- what a table always is: it has memory for its rows, each of them fits, and their keys rise
pub record IsKept (k : Kept) : Type 0 where
  pub memory : length k.table.rows ≤ k.capacity
  pub rows : IsTrue (well_kept k.table.columns k.table.key k.table.rows)

-- a row may go in at a place: there is memory, it fits, and it keeps the key order
pub record CanInsert (k : Kept) (at : ℕ) (row : Row) : Type 0 where
  pub place : at ≤ length k.table.rows
  pub room : length k.table.rows < k.capacity
  pub kept : IsTrue (well_kept k.table.columns k.table.key (insert k.table.rows at row))

-- rows may stand after the others: there is memory, each fits, and all stand in key order
pub record CanAppend (k : Kept) (more : List Row) : Type 0 where
  pub room : length k.table.rows + length more ≤ k.capacity
  pub kept : IsTrue (well_kept k.table.columns k.table.key (k.table.rows ++ more))

-- rows may go in at places that increase and are theirs afterwards: there is memory, each fits, and
-- all stand in key order
pub record CanInsertAll (k : Kept) (new : List PlacedRow) : Type 0 where
  pub climb : Climb 0 (places_of new) (length k.table.rows + length new)
  pub room : length k.table.rows + length new ≤ k.capacity
  pub kept : IsTrue (well_kept k.table.columns k.table.key (inserted_all new k.table.rows))

-- a row may take the place of another: it fits, and it keeps the key order
pub record CanReplace (k : Kept) (at : ℕ) (row : Row) : Type 0 where
  pub place : at < length k.table.rows
  pub kept : IsTrue (well_kept k.table.columns k.table.key (slice_set k.table.rows at row))
