-- Nodes that leave a row as it is, by the number in its first cell.
use Rattle.std.specs.Prelude.{◌≡◌, ◌≢◌, ℕ, ℤ, ◌++◌, List, length, take}
use Rattle.sql_values.specs.declared.value.Value.{Value}
use Rattle.sql_values.specs.declared.value.Value.TheVariants.{Int}
use Rattle.row_types.specs.declared.cell.Cell.{Cell}
use Rattle.row_types.specs.declared.cell.Cell.TheVariants.{Val}
use Rattle.rel_algebra.specs.declared.plan.Node.{Node}
use Rattle.rel_algebra.specs.declared.scalar.Scalar.{Scalar}
use Rattle.rel_algebra.specs.Plan.{Sight, cell_at, cell_of, cells_of, cells_row}
use Rattle.rel_algebra.specs.PlanView.{scalar_of, scalars_of}
use Rattle.plan_scalars.specs.Sights.{sight_of}
use Rattle.region_steps.specs.Chains.{chain_cells}
use Rattle.region_steps.specs.declared.idle.Idle.{Idle}

-- the first cell is a number, and another than this
abbrev pub IsNotAt : ℤ → List Cell → Type 0
IsNotAt code row = (n : ℤ) × ((cell_at row 0 ≡ Val (Int n)) × (n ≢ code))

-- where it is another, a scalar is the cell at a place
abbrev pub IsGuarded : Scalar → ℤ → ℕ → Type 0
IsGuarded scalar code place = (s : Sight) → IsNotAt code (cells_row s.rows 0) →
    cell_of (scalar_of scalar) s ≡ cell_at (cells_row s.rows 0) place

-- the same of a cell of a row of so many cells with those of scalars after its own
abbrev pub IsKept : List Scalar → ℤ → ℕ → ℕ → ℕ → Type 0
IsKept scalars code width place at = (row : List Cell) (outer : List (List Cell))
    (args : List Value) → length row ≡ width → IsNotAt code row →
    cell_at (row ++ cells_of (scalars_of scalars) (sight_of row outer args)) place ≡ cell_at row at

-- nodes leave the first cells of a row of so many as they are, and drop the others
abbrev pub IsIdle : List Node → Idle → Type 0
IsIdle nodes idle = (row : List Cell) (outer : List (List Cell)) (args : List Value) →
    length row ≡ idle.width → IsNotAt idle.code row →
    chain_cells nodes row outer args ≡ take idle.left row
