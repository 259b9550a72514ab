-- Worked rows: what is folded of rows on their way to a Group. ISO/IEC 9075-2, 7.13 (group by
-- clause) and 10.9 (aggregate function).
use Rattle.std.specs.Prelude.{◌≡◌, pos, List, [], ◌∷◌}
use Rattle.std.proofs.Common.{refl}
use Rattle.sql_values.specs.declared.value.Value.TheVariants.{Null, Int}
use Rattle.sql_values.specs.declared.fold.FoldKind.TheVariants.{Count}
use Rattle.sql_conditions.specs.Conditions.{Area, area_of}
use Rattle.sql_conditions.specs.declared.condition.EngineCondition.TheVariants.{DivisionByZero}
use Rattle.row_types.specs.declared.aggregate_column.AggregateColumn.{AggregateColumn}
use Rattle.row_types.specs.declared.cell.Cell.TheVariants.{Val, Cond}
use Rattle.row_types.specs.Cells.{Whole, Poisoned}
use Rattle.group_index.specs.Folded.{no_rows, folded_rows}
use Rattle.plan_nodes.specs.declared.received.Received.TheVariants.{Folds, Raised}
use Rattle.plan_nodes.specs.Receiving.{received}

-- COUNT of the first column
abbrev counted : List AggregateColumn
counted = record { kind = Count; place = 0 } ∷ []

-- the area of 22012
abbrev raised : Area
raised = area_of DivisionByZero

-- rows of values are folded in turn
two_folded : received (Folds (no_rows [] counted))
    (Whole (Val (Int (pos 7)) ∷ []) ∷ Whole (Val Null ∷ []) ∷ []) ≡ Folds
    (folded_rows [] counted ((Int (pos 7) ∷ []) ∷ (Null ∷ []) ∷ []))
two_folded = refl

-- the first area ends them, be it a row's poison or a cell's
poison_ends : received (Folds (no_rows [] counted))
    (Whole (Val Null ∷ []) ∷ Poisoned raised ∷ Whole (Val Null ∷ []) ∷ []) ≡ Raised raised
poison_ends = refl

-- a condition in a cell ends the fold as poison does, also after a value
cell_ends : received (Folds (no_rows [] counted))
    (Whole (Val Null ∷ Cond raised ∷ []) ∷ Whole (Val Null ∷ []) ∷ []) ≡ Raised raised
cell_ends = refl
