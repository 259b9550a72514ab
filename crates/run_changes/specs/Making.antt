-- One change of the table at a place. ISO/IEC 9075-2, 14.9, 14.11 and 14.14 (delete, insert and
-- update statement).
use Rattle.std.specs.Prelude.{ℕ, zero, suc, List, [], ◌∷◌, ◌++◌, Option, Some, None}
use Rattle.sql_conditions.specs.declared.condition.EngineCondition.TheVariants.{ConstraintViolated}
use Rattle.row_types.specs.Ordered.{in_order, first_repeat}
use Rattle.row_types.specs.Rows.{Row, by_key}
use Rattle.row_types.specs.Tables.{Table, with_rows_at}
use Rattle.row_types.specs.Writing.{rows_where}
use Rattle.atomic_undo.specs.declared.changes.Changes.{Changes}
use Rattle.atomic_undo.specs.Applying.{result_of}
use Rattle.rel_algebra.specs.World.{Eval, Gives, raise, with_tables}

-- the rows of a table after a change, in key order; there are none where a row has the key of an
-- earlier one
abbrev pub rows_after : Table → Changes → Option (List Row)
rows_after t changes = rows_where (first_repeat (by_key t.key) (result_of changes t.rows))
    (in_order (by_key t.key) (result_of changes t.rows))

-- other rows in the table at a place; it raises where there are none
abbrev pub keep_at : ℕ → Option (List Row) → Eval (Unit {0})
keep_at place None = raise ConstraintViolated
keep_at place (Some rows) = λ w. Gives tt (with_tables w (with_rows_at place rows w.tables))

-- the places below a number
abbrev pub places_below : ℕ → List ℕ
places_below zero = []
places_below (suc n) = places_below n ++ n ∷ []
