-- Worked rows: groups with their aggregates, and rows of plans by their keys. ISO/IEC 9075-2, 7.13
-- (group by clause) and 10.9 (aggregate function).
use Rattle.std.specs.Prelude.{◌≡◌, pos, List, [], ◌∷◌, Ok, Err, filter}
use Rattle.std.proofs.Common.{refl}
use Rattle.sql_values.specs.declared.value.Value.TheVariants.{Null, Int}
use Rattle.sql_values.specs.declared.value.ValueFault.TheVariants.{OutOfRange}
use Rattle.sql_values.specs.declared.fold.FoldKind.TheVariants.{Count, Sum, Max}
use Rattle.row_types.specs.declared.aggregate_column.AggregateColumn.{AggregateColumn}
use Rattle.sql_conditions.specs.Conditions.{Area, area_of}
use Rattle.sql_conditions.specs.declared.condition.EngineCondition.TheVariants.{DivisionByZero}
use Rattle.row_types.specs.declared.cell.Cell.TheVariants.{Val, Cond}
use Rattle.row_types.specs.Cells.{PlanRow, Whole, Poisoned}
use Rattle.row_types.specs.Rows.{Row}
use Rattle.group_index.specs.Folded.{finished_groups, folded_rows, finished}
use Rattle.group_index.specs.Indexed.{has_key}

-- a column to group by, and one of numbers
abbrev rows : List Row
rows = (Int (pos 2) ∷ Int (pos 7) ∷ []) ∷ (Null ∷ Null ∷ []) ∷ (Int (pos 1) ∷ Int (pos 4) ∷ []) ∷
    (Int (pos 2) ∷ Int (pos 5) ∷ []) ∷ (Null ∷ Int (pos 3) ∷ []) ∷ []

-- COUNT and MAX of the second column
abbrev counted : List AggregateColumn
counted = record { kind = Count; place = 1 } ∷ record { kind = Max; place = 1 } ∷ []

-- in the order of their first rows, NULL with NULL; COUNT skips NULL
by_first_column : finished_groups (0 ∷ []) counted rows
    ≡ record { key = Int (pos 2) ∷ []; ends = Ok (Int (pos 2)) ∷ Ok (Int (pos 7)) ∷ [] }
    ∷ record { key = Null ∷ []; ends = Ok (Int (pos 1)) ∷ Ok (Int (pos 3)) ∷ [] }
    ∷ record { key = Int (pos 1) ∷ []; ends = Ok (Int (pos 1)) ∷ Ok (Int (pos 4)) ∷ [] } ∷ []
by_first_column = refl

-- folding row by row finishes as the groups of the whole list
taken_one_by_one : finished (folded_rows (0 ∷ []) counted rows) ≡ finished_groups
    (0 ∷ []) counted rows
taken_one_by_one = refl

-- with a grouping column no rows have no group
no_group_of_no_rows : finished_groups (0 ∷ []) counted [] ≡ []
no_group_of_no_rows = refl

-- without one they are one group, whose COUNT is 0 and whose MAX is NULL
one_group_of_no_rows : finished_groups [] counted [] ≡
    record { key = []; ends = Ok (Int (pos 0)) ∷ Ok Null ∷ [] } ∷ []
one_group_of_no_rows = refl

-- the greatest INTEGER, and one more row whose sum with it is none
abbrev large : List Row
large = (Int (pos 9223372036854775807) ∷ []) ∷ (Int (pos 1) ∷ []) ∷ []

-- such a SUM is a fault of its group, and no NULL
sum_out_of_range : finished_groups [] (record { kind = Sum; place = 0 } ∷ []) large ≡
    record { key = []; ends = Err OutOfRange ∷ [] } ∷ []
sum_out_of_range = refl

-- a place past a row's end is NULL, as a key and as an operand
past_the_end_is_null : finished_groups (5 ∷ []) (record { kind = Count; place = 9 } ∷ []) large ≡
    record { key = Null ∷ []; ends = Ok (Int (pos 0)) ∷ [] } ∷ []
past_the_end_is_null = refl

-- ---- rows of plans by their keys

-- the area of 22012
abbrev raised : Area
raised = area_of DivisionByZero

-- rows of a plan: two values, a poisoned row, and rows with a condition in a cell
abbrev planned : List PlanRow
planned = Whole (Val (Int (pos 2)) ∷ []) ∷ Whole (Val Null ∷ []) ∷ Poisoned raised ∷ Whole
    (Cond raised ∷ Val (Int (pos 2)) ∷ []) ∷ Whole (Val (Int (pos 2)) ∷ Cond raised ∷ []) ∷ []

-- a condition past the key's columns takes no row from its group; one in them does
of_two : filter (has_key (0 ∷ []) (Int (pos 2) ∷ [])) planned ≡ Whole (Val (Int (pos 2)) ∷ []) ∷
    Whole (Val (Int (pos 2)) ∷ Cond raised ∷ []) ∷ []
of_two = refl

-- a key of NULL finds the row whose value is NULL
null_equals_null : filter (has_key (0 ∷ []) (Null ∷ [])) planned ≡ Whole (Val Null ∷ []) ∷ []
null_equals_null = refl
