-- Aggregates of the rows of a group. ISO/IEC 9075-2, 10.9 (aggregate function).
use Rattle.std.specs.Prelude.{List}
use Rattle.sql_values.specs.declared.value.Value.{Value}
use Rattle.sql_values.specs.Folds.{folded}
use Rattle.rel_algebra.specs.Tree.{Aggregate}
use Rattle.rel_algebra.specs.Endings.{Ending, ending_of}
pub use Rattle.row_types.specs.Groups.{same_value, same_row, values_of_column, values_at, Group}
pub use Rattle.row_types.specs.Groups.{put, grouped_from, first_groups, groups}

-- Nulls are skipped. A sum is judged at its end alone, and an average is cut towards zero.
abbrev pub finish : Aggregate → List Value → Ending Value
finish kind vs = ending_of (folded kind vs)
