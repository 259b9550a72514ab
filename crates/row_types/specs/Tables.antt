-- Tables: a finite map of names to tables, each with columns, a key and its rows in key order.
-- ISO/IEC 9075-2, 4.14 (tables).
use Rattle.std.specs.Prelude.{ℕ, zero, suc, List, [], ◌∷◌, map, if◌then◌else◌, Option, Some, None}
use Rattle.std.specs.List.{IsDistinct}
use Rattle.std.specs.Option.{option_map}
use Rattle.std.specs.Str.{bytes_eq}
use Rattle.row_types.specs.declared.ColumnType.{ColumnType}
use Rattle.row_types.specs.Rows.{Row}

-- the columns, the places of the key columns, and the rows
pub record Table : Type 0 where
  pub columns : List ColumnType
  pub key : List ℕ
  pub rows : List Row

-- A table with its name.
pub record Stored : Type 0 where
  pub name : List ℕ
  pub table : Table

-- all tables, in the order of their making; their names differ
abbrev pub Tables : Type 0
Tables = List Stored

-- the names of the tables, in the order of their making
abbrev pub names_of : Tables → List (List ℕ)
names_of ts = map (λ s. s.name) ts

-- no two tables have one name
abbrev pub HaveDistinctNames : Tables → Type 0
HaveDistinctNames ts = IsDistinct bytes_eq (names_of ts)

-- what stands for a table where none is: no columns, no key, no rows
abbrev pub no_table : Table
no_table = record { columns = []; key = []; rows = [] }

-- the same table with other rows
abbrev pub with_rows : List Row → Table → Table
with_rows rows t = record t { rows = rows }

-- the table of a name
abbrev pub table_named : List ℕ → Tables → Option Table
table_named name [] = None
table_named name (s ∷ ss) = if bytes_eq s.name name then Some s.table else table_named name ss

-- the rows of a table; a name without a table has none
abbrev pub rows_of : Option Table → List Row
rows_of None = []
rows_of (Some t) = t.rows

-- the rows of the table of a name; none where no table has it
abbrev pub rows_named : List ℕ → Tables → List Row
rows_named name ts = rows_of (table_named name ts)

-- the tables with another in the place of that of a name
abbrev pub with_table_named : List ℕ → Table → Tables → Tables
with_table_named name t [] = []
with_table_named name t (s ∷ ss) = if bytes_eq s.name name then record { name = s.name; table = t }
    ∷ ss else s ∷ with_table_named name t ss

-- the tables with other rows in that of a name
abbrev pub with_rows_named : List ℕ → List Row → Tables → Tables
with_rows_named name rows [] = []
with_rows_named name rows (s ∷ ss) =
    if bytes_eq s.name name then record { name = s.name; table = with_rows rows s.table } ∷
    ss else s ∷ with_rows_named name rows ss

-- the tables without that of a name
abbrev pub without_table_named : List ℕ → Tables → Tables
without_table_named name [] = []
without_table_named name (s ∷ ss) = if bytes_eq s.name name then ss else s ∷
    without_table_named name ss

-- where a name stands
abbrev pub place_named : List ℕ → Tables → Option ℕ
place_named name [] = None
place_named name (s ∷ ss) = if bytes_eq s.name name then Some 0 else option_map suc
    (place_named name ss)

-- the table at a place
abbrev pub table_at : Tables → ℕ → Table
table_at [] at = no_table
table_at (s ∷ ss) zero = s.table
table_at (s ∷ ss) (suc at) = table_at ss at

-- the tables with another table at a place
abbrev pub with_table : ℕ → Table → Tables → Tables
with_table at t [] = []
with_table zero t (s ∷ ss) = record { name = s.name; table = t } ∷ ss
with_table (suc at) t (s ∷ ss) = s ∷ with_table at t ss

-- the tables with other rows in the table at a place
abbrev pub with_rows_at : ℕ → List Row → Tables → Tables
with_rows_at at rows ts = with_table at (with_rows rows (table_at ts at)) ts
