-- Rows that are folded in groups as they come. ISO/IEC 9075-2, 7.13 (group by clause).
use Rattle.std.specs.Prelude.{ℕ, suc, List, [], ◌∷◌}
use Rattle.row_types.specs.declared.aggregate_column.AggregateColumn.{AggregateColumn}
use Rattle.row_types.specs.Rows.{Row}
use Rattle.rel_algebra.specs.Tree.{Aggregate}
use Rattle.rel_algebra.specs.Joins.{places}
use Rattle.group_index.specs.Folded.{Folded, folded_rows}

-- each aggregate with the column of its argument
abbrev pub argument_columns : ℕ → List Aggregate → List AggregateColumn
argument_columns i [] = []
argument_columns i (a ∷ ags) = record { kind = a; place = i } ∷ argument_columns (suc i) ags

-- what is kept of the parts of rows
abbrev pub folded_parts : ℕ → List Aggregate → List Row → Folded
folded_parts keys ags parts = folded_rows (places 0 keys) (argument_columns keys ags) parts
