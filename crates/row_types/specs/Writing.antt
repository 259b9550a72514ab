-- The judgement of keys, by which new rows are stored or refused.
-- ISO/IEC 9075-2, 14.11 (insert statement).
use Rattle.std.specs.Prelude.{ℕ, List, ◌++◌, Option, Some, None}
use Rattle.row_types.specs.Ordered.{in_order, first_repeat}
use Rattle.row_types.specs.Rows.{Row, by_key}
use Rattle.row_types.specs.Tables.{Table}

-- the place of the first row whose key an earlier one has; the old rows come first, and then the
-- new ones
abbrev pub refused_at : Table → List Row → Option ℕ
refused_at t new = first_repeat (by_key t.key) (t.rows ++ new)

-- the rows in key order, where none is refused
abbrev pub rows_where : Option ℕ → List Row → Option (List Row)
rows_where None rows = Some rows
rows_where (Some at) rows = None

-- A table's rows with new ones, in key order; there are none where a row has the key of an earlier
-- one.
abbrev pub inserted : Table → List Row → Option (List Row)
inserted t new = rows_where (refused_at t new) (in_order (by_key t.key) (t.rows ++ new))
