-- What is kept of the rows of a group: of each aggregate what was taken.
use Rattle.std.specs.Prelude.{ℕ, List, map}
use Rattle.sql_values.specs.Values.{Outcome}
use Rattle.sql_values.specs.Folds.{Taken, nothing, with_value, finished}
use Rattle.row_types.specs.declared.aggregate_column.AggregateColumn.{AggregateColumn}
use Rattle.row_types.specs.Rows.{Row}
use Rattle.row_types.specs.Groups.{value_at}

-- the place of a column, and what was taken of its values
pub record ColumnTaken : Type 0 where
  pub place : ℕ
  pub taken : Taken

-- an aggregate's column before the first row
abbrev pub no_column : AggregateColumn → ColumnTaken
no_column a = record { place = a.place; taken = nothing a.kind }

-- with the value of one row more
abbrev pub column_with : Row → ColumnTaken → ColumnTaken
column_with row c = record { place = c.place; taken = with_value c.taken (value_at row c.place) }

-- what the aggregate of a column gives: its value, or the fault of a sum out of range
abbrev pub column_end : ColumnTaken → Outcome
column_end c = finished c.taken

-- all aggregates of a group before its first row, from left to right
abbrev pub none_kept : List AggregateColumn → List ColumnTaken
none_kept aggregates = map no_column aggregates

-- with one row more
abbrev pub kept_with : Row → List ColumnTaken → List ColumnTaken
kept_with row kept = map (column_with row) kept
