-- The rows that UPDATE and DELETE meet: those of a query over the table, each with all columns of
-- the row and then the values to assign. ISO/IEC 9075-2, 14.9 and 14.14 (searched delete and
-- update).
use Rattle.std.specs.Prelude.{ℕ, zero, suc, ◌≡◌, List, [], length, Some}
use Rattle.row_types.specs.Rows.{Row}
use Rattle.row_types.specs.Tables.{Table, table_named}
use Rattle.table_store.specs.Memory.{AllWellKept}
use Rattle.atomic_undo.specs.Changes.{Climb}
use Rattle.rel_algebra.specs.Tree.{Exprs, MoreExprs, Column, Query, Select, Table as TableRows}
use Rattle.rel_algebra.specs.World.{World, Gives, no_self, no_frame}
use Rattle.rel_algebra.specs.Meaning.{answer}
use Rattle.data_change.specs.Writing.{places_in}

-- so many columns of the row from one on, and then others
abbrev pub columns_then : ℕ → ℕ → Exprs → Exprs
columns_then from zero values = values
columns_then from (suc more) values = MoreExprs (Column 0 from)
    (columns_then (suc from) more values)

-- The rows of a table of so many columns that pass the conjuncts, each with values after it. Of
-- each row its conjuncts are evaluated, and then its values.
abbrev pub met_rows : List ℕ → ℕ → Exprs → Exprs → Query
met_rows name width values conjuncts = Select (columns_then 0 width values)
    (TableRows name) conjuncts

-- a query of such rows
pub record Meets (name : List ℕ) (width : ℕ) (query : Query) : Type 0 where
  pub values : Exprs
  pub conjuncts : Exprs
  pub rows : query ≡ met_rows name width values conjuncts

-- rows stand at increasing places of a table
abbrev pub StandInOrder : Table → List Row → Type 0
StandInOrder t rows = Climb 0 (places_in t rows) (length t.rows)

-- what such a query gives stands in the table, in its order
abbrev pub MetRowsInOrder : Type 0
MetRowsInOrder = (name : List ℕ) (query : Query) (t : Table) (w w' : World) (met : List Row)
    → AllWellKept w.tables → table_named name w.tables ≡ Some t →
    Meets name (length t.columns) query
    → answer query no_self [] no_frame w ≡ Gives met w' → StandInOrder t met
