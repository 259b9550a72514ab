-- Cells, and the rows of plans. ISO/IEC 9075-2, 4.33 (diagnostics area): what a scalar raises
-- stands in its cell.
use Rattle.std.specs.Prelude.{ℕ, Bool, true, false, slice_index_or, List, [], ◌∷◌, Option, Some}
use Rattle.std.specs.Prelude.{None, Result, Ok, Err}
use Rattle.sql_values.specs.declared.value.Value.{Value}
use Rattle.sql_values.specs.declared.value.Value.TheVariants.{Null}
use Rattle.sql_conditions.specs.Conditions.{Area}
use Rattle.row_types.specs.declared.cell.Cell.{Cell}
use Rattle.row_types.specs.declared.cell.Cell.TheVariants.{Val, Cond}

-- a row of a plan's list: its cells, or, where deciding whether the row stays raised, the area of
-- that
pub data PlanRow : Type 0 where
  Whole : List Cell → PlanRow
  Poisoned : Area → PlanRow

-- the cell at a place; NULL where there is none
abbrev pub cell_at : List Cell → ℕ → Cell
cell_at cells i = slice_index_or cells i (Val Null)

-- the row of a level of a stack of rows, the innermost at 0; one without cells where there is none
abbrev pub row_of_level : List (List Cell) → ℕ → List Cell
row_of_level rows level = slice_index_or rows level []

-- the cell has a value; no condition was raised in it
abbrev pub is_value : Cell → Bool
is_value (Val v) = true
is_value (Cond area) = false

-- the first area among cells, from left to right
abbrev pub area_in : List Cell → Option Area
area_in [] = None
area_in (Val v ∷ cells) = area_in cells
area_in (Cond area ∷ cells) = Some area

-- the area of a row: the poison, or the first among its cells
abbrev pub row_area : PlanRow → Option Area
row_area (Whole cells) = area_in cells
row_area (Poisoned area) = Some area

-- the cells of a row; a poisoned one has none
abbrev pub row_cells : PlanRow → List Cell
row_cells (Whole cells) = cells
row_cells (Poisoned area) = []

-- a value in front, where there are values
abbrev pub with_value : Value → Result (List Value) Area → Result (List Value) Area
with_value v (Ok values) = Ok (v ∷ values)
with_value v (Err area) = Err area

-- the values of cells; or the first area among them, from left to right
abbrev pub cells_end : List Cell → Result (List Value) Area
cells_end [] = Ok []
cells_end (Val v ∷ cells) = with_value v (cells_end cells)
cells_end (Cond area ∷ cells) = Err area

-- the values of a row; or its area: the poison, or the first among its cells
abbrev pub row_end : PlanRow → Result (List Value) Area
row_end (Whole cells) = cells_end cells
row_end (Poisoned area) = Err area

-- a row of values in front, where it has values
abbrev pub with_values : Result (List Value) Area → List (List Value) → List (List Value)
with_values (Ok values) rows = values ∷ rows
with_values (Err area) rows = rows

-- the rows that have values alone, with these
abbrev pub value_rows : List PlanRow → List (List Value)
value_rows [] = []
value_rows (r ∷ rs) = with_values (row_end r) (value_rows rs)
