-- What INSERT, UPDATE and DELETE store, by the rows that their queries gave. ISO/IEC 9075-2, 14.11
-- (insert statement), 14.14 (update statement) and 14.9 (delete statement).
use Rattle.std.specs.Prelude.{ℕ, List, [], ◌∷◌, map, length, take, drop, replicate, slice_set}
use Rattle.std.specs.Prelude.{Option, Some, None, Result, Ok, Err, if◌then◌else◌}
use Rattle.sql_values.specs.declared.value.Value.{Value}
use Rattle.sql_values.specs.declared.value.Value.TheVariants.{Null}
use Rattle.sql_values.specs.Casts.{assigned}
use Rattle.sql_conditions.specs.declared.condition.EngineCondition.TheVariants.{ConstraintViolated}
use Rattle.row_types.specs.declared.ColumnType.{ColumnType}
use Rattle.row_types.specs.Ordered.{in_order, first_repeat, searched}
use Rattle.row_types.specs.Rows.{Row, by_key, fits}
use Rattle.row_types.specs.Tables.{Table, table_named, with_rows_named}
use Rattle.row_types.specs.Writing.{inserted, rows_where}
use Rattle.rel_algebra.specs.Places.{set_all, removed_all}
use Rattle.rel_algebra.specs.World.{Eval, Gives, ◌>>=◌, give, raise, outcome, each, with_tables}

-- the values that the columns take, in the table's order
abbrev pub assigned_row : List ColumnType → Row → Eval Row
assigned_row [] vs = give []
assigned_row (c ∷ cs) [] = give []
assigned_row (c ∷ cs) (v ∷ vs) = do
  x ← outcome (assigned c.data_type v)
  xs ← assigned_row cs vs
  give (x ∷ xs)

-- a row that the table can hold; it raises where a value is NULL and its column, or the key, takes
-- none
abbrev pub row_for : Table → Row → Eval Row
row_for t row = do
  r ← assigned_row t.columns row
  if fits t.columns t.key r then give r else raise ConstraintViolated

-- a table's new rows, in key order; where a key stands twice it raises 23000. 11.7 (unique
-- constraint definition)
abbrev pub keep_rows : Option (List Row) → List ℕ → Eval (Unit {0})
keep_rows None name = raise ConstraintViolated
keep_rows (Some rows) name = λ w. Gives tt (with_tables w (with_rows_named name rows w.tables))

-- New rows in a table: row by row the columns are assigned and NOT NULL is judged, and last the
-- keys of the whole result.
abbrev pub store_in : Option Table → List ℕ → List Row → Eval (Unit {0})
store_in None name new = give tt
store_in (Some t) name new = do
  rows ← each (row_for t) new
  keep_rows (inserted t rows) name

-- New rows in the table of a name; it gives how many they are.
abbrev pub stored : List ℕ → List Row → Eval ℕ
stored name new = do
  done ← (λ w. store_in (table_named name w.tables) name new w)
  give (length new)

-- ---- values into columns

-- a row with each value in the column of its place
abbrev pub put_all : List ℕ → List Value → Row → Row
put_all [] values row = row
put_all (c ∷ cs) [] row = row
put_all (c ∷ cs) (v ∷ vs) row = put_all cs vs (slice_set row c v)

-- ---- INSERT

-- The values in the columns that are listed, and NULL in the others; in all columns, in their
-- order, where none are listed.
abbrev pub spread : Option (List ℕ) → Table → Row → Row
spread None t values = values
spread (Some listed) t values = put_all listed values (replicate (length t.columns) Null)

-- the same of several rows, in a table that is there. 14.11 (insert statement)
abbrev pub spread_rows : Option (List ℕ) → Option Table → List Row → List Row
spread_rows listed None new = new
spread_rows listed (Some t) new = map (spread listed t) new

-- New rows in the table of a name, by a list of columns; it gives how many they are.
abbrev pub stored_in : List ℕ → Option (List ℕ) → List Row → Eval ℕ
stored_in name listed new w = stored name (spread_rows listed (table_named name w.tables) new) w

-- ---- rows that are met

-- the place that a search found, or where it would stand
abbrev pub found_at : Result ℕ ℕ → ℕ
found_at (Ok i) = i
found_at (Err i) = i

-- the place of the row that has the key of another one
abbrev pub place_in : Table → Row → ℕ
place_in t row = found_at (searched (λ r. by_key t.key r row) t.rows)

-- the places of rows that are met
abbrev pub places_in : Table → List Row → List ℕ
places_in t rows = map (place_in t) rows

-- ---- UPDATE

-- Of a row that is met, with the new values after it: the row with these in the columns of their
-- targets.
abbrev pub changed_row : List ℕ → Table → Row → Row
changed_row targets t met =
    put_all targets (drop (length t.columns) met) (take (length t.columns) met)

-- The rows of a table with others at places, in key order; there are none where a row has the key
-- of an earlier one.
abbrev pub replaced : Table → List ℕ → List Row → Option (List Row)
replaced t places new = rows_where (first_repeat (by_key t.key) (set_all places new t.rows))
    (in_order (by_key t.key) (set_all places new t.rows))

-- Row by row the columns are assigned and NOT NULL is judged, and last the keys of the whole
-- result.
abbrev pub change_in : Option Table → List ℕ → List ℕ → List Row → Eval (Unit {0})
change_in None name targets met = give tt
change_in (Some t) name targets met = do
  new ← each (row_for t) (map (changed_row targets t) met)
  keep_rows (replaced t (places_in t met) new) name

-- New rows for those that are met in the table of a name; it gives how many they are.
abbrev pub changed : List ℕ → List ℕ → List Row → Eval ℕ
changed name targets met = do
  done ← (λ w. change_in (table_named name w.tables) name targets met w)
  give (length met)

-- ---- DELETE

-- the rows that are met leave a table. 14.9 (delete statement)
abbrev pub remove_in : Option Table → List ℕ → List Row → Eval (Unit {0})
remove_in None name met = give tt
remove_in (Some t) name met = keep_rows (Some (removed_all (places_in t met) t.rows)) name

-- The rows that are met leave the table of a name; it gives how many they are.
abbrev pub removed : List ℕ → List Row → Eval ℕ
removed name met = do
  done ← (λ w. remove_in (table_named name w.tables) name met w)
  give (length met)
