-- What scalars are read on, in the code's terms; and what chains of operators are.
use Rattle.std.specs.Prelude.{List, [], ◌∷◌, Bool, false}
use Rattle.sql_values.specs.declared.value.Value.{Value}
use Rattle.sql_values.specs.Values.{is_null}
use Rattle.row_types.specs.declared.cell.Cell.{Cell}
use Rattle.row_types.specs.declared.cell.Cell.TheVariants.{Val, Cond}
use Rattle.rel_algebra.specs.Tree.{Arithmetic}
use Rattle.rel_algebra.specs.Endings.{op_value}
use Rattle.rel_algebra.specs.Plan.{Sight, cell_of, strictly}
use Rattle.rel_algebra.specs.PlanView.{Link}

-- a row, the rows outside it, the innermost first, and the arguments
abbrev pub sight_of : List Cell → List (List Cell) → List Value → Sight
sight_of row outer args = record { rows = row ∷ outer; args = args }

-- goes on from the cell of what stands left, operator by operator
abbrev pub chained_cell : Cell → List Link → Sight → Cell
chained_cell first [] s = first
chained_cell first (l ∷ ls) s = chained_cell (strictly (op_value (Arithmetic l.operator))
    (first ∷ cell_of l.operand s ∷ [])) ls s

-- a cell is the value NULL
abbrev pub is_null_cell : Cell → Bool
is_null_cell (Val v) = is_null v
is_null_cell (Cond area) = false
