-- When tables fit, and when an environment reads a scope; what scalars read beside the row.
use Rattle.std.specs.Prelude.{◌≡◌, ℕ, List, [], ◌∷◌, length}
use Rattle.row_types.specs.Cells.{PlanRow, Whole}
use Rattle.row_types.specs.Rows.{Row}
use Rattle.row_types.specs.Tables.{rows_named}
use Rattle.row_types.specs.declared.cell.Cell.{Cell}
use Rattle.row_types.specs.declared.cell.Cell.TheVariants.{Val}
use Rattle.rel_algebra.specs.Environments.{Env, read}
use Rattle.rel_algebra.specs.Endings.{row_at, value_at}
use Rattle.rel_algebra.specs.Scopes.{Inputs, Scope, columns_in}
use Rattle.rel_algebra.specs.Plan.{Sight, cell_of}

-- each row has n values
abbrev pub AllWide : ℕ → List Row → Type 0
AllWide n [] = Unit {0}
AllWide n (r ∷ rs) = (length r ≡ n) × AllWide n rs

-- the rows of each table have its columns
abbrev pub Fits : Inputs → Type 0
Fits w = (name : List ℕ) → AllWide (columns_in w name) (rows_named name w.tables)

-- what scalars read beside the row: the rows outside and the arguments
abbrev pub outside : Inputs → List (List Cell) → Sight
outside w o = record { rows = o; args = w.args }

-- where an environment says that a column or a parameter is read, there is its value
abbrev pub Agrees : Env → Sight → Scope → Type 0
Agrees e s f =
    ((d i : ℕ) → cell_of (read (e.columns d i)) s ≡ Val (value_at (row_at f.rows d) i))
    × ((i : ℕ) → cell_of (read (e.params i)) s ≡ Val (value_at f.params i))

-- of one row of one cell
abbrev pub one_cell : Cell → List PlanRow
one_cell c = Whole (c ∷ []) ∷ []
