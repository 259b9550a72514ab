-- Groups of which no row is kept: what comes of each aggregate is folded as the rows come. ISO/IEC
-- 9075-2, 7.13 (group by clause) and 10.9 (aggregate function).
use Rattle.std.specs.Prelude.{ℕ, zero, suc, List, [], ◌∷◌, map, fold, if◌then◌else◌}
use Rattle.sql_values.specs.Folds.{folded}
use Rattle.row_types.specs.declared.aggregate_column.AggregateColumn.{AggregateColumn}
use Rattle.row_types.specs.Rows.{Row}
use Rattle.row_types.specs.Groups.{same_row, values_of_column, values_at, Group, groups}
use Rattle.group_index.specs.declared.finished_group.FinishedGroup.{FinishedGroup}
use Rattle.group_index.specs.Kept.{ColumnTaken, column_end, none_kept, kept_with}

-- ---- of all rows

-- a group's key, and its aggregates from left to right
abbrev pub group_end : List AggregateColumn → Group → FinishedGroup
group_end aggregates g = record {
  key = g.key;
  ends =
      map (λ (a : AggregateColumn). folded a.kind (values_of_column a.place g.members)) aggregates;
}

-- the groups of rows, in the order of their first rows
abbrev pub finished_groups : List ℕ → List AggregateColumn → List Row → List FinishedGroup
finished_groups places aggregates rows = map (group_end aggregates) (groups places rows)

-- ---- of rows that are taken one by one

-- each group's key, and what is kept of its rows
pub record Folded : Type 0 where
  pub places : List ℕ
  pub aggregates : List AggregateColumn
  pub groups : List (Row × List ColumnTaken)

-- without a column there is one group, even of no rows
abbrev pub first_kept : List ℕ → List AggregateColumn → List (Row × List ColumnTaken)
first_kept [] aggregates = ([], none_kept aggregates) ∷ []
first_kept (p ∷ ps) aggregates = []

-- what is kept before the first row
abbrev pub no_rows : List ℕ → List AggregateColumn → Folded
no_rows places aggregates = record {
  places = places;
  aggregates = aggregates;
  groups =
      first_kept places aggregates;
}

-- the row goes to the group of its key, or makes a new one, the last
abbrev pub kept_put : List AggregateColumn → Row → Row → List (Row × List ColumnTaken) →
    List (Row × List ColumnTaken)
kept_put aggregates key row [] = (key, kept_with row (none_kept aggregates)) ∷ []
kept_put aggregates key row (g ∷ gs) = if same_row key g.0 then (g.0, kept_with row g.1) ∷
    gs else g ∷ kept_put aggregates key row gs

-- the same, to the group at a place
abbrev pub kept_at : ℕ → Row → List (Row × List ColumnTaken) → List (Row × List ColumnTaken)
kept_at at row [] = []
kept_at zero row (g ∷ gs) = (g.0, kept_with row g.1) ∷ gs
kept_at (suc at) row (g ∷ gs) = g ∷ kept_at at row gs

-- with one row more
abbrev pub with_row : Folded → Row → Folded
with_row f row = record {
  places = f.places;
  aggregates = f.aggregates;
  groups =
      kept_put f.aggregates (values_at row f.places) row f.groups;
}

-- with all rows of a list, in its order
abbrev pub folded_rows : List ℕ → List AggregateColumn → List Row → Folded
folded_rows places aggregates rows = fold with_row (no_rows places aggregates) rows

-- a group whose rows were all taken: its key, and each aggregate's value or fault
abbrev pub finished_group : Row × List ColumnTaken → FinishedGroup
finished_group g = record { key = g.0; ends = map column_end g.1 }

-- the groups of the rows that were taken
abbrev pub finished : Folded → List FinishedGroup
finished f = map finished_group f.groups
