-- A row that Filters leave out without a trace. ISO/IEC 9075-2, 7.12 (where clause).
use Rattle.std.specs.Prelude.{Bool, false, not, ◌||◌, List, [], ◌∷◌}
use Rattle.sql_values.specs.declared.value.Value.{Value}
use Rattle.sql_values.specs.Values.{is_true}
use Rattle.row_types.specs.declared.cell.Cell.{Cell}
use Rattle.row_types.specs.declared.cell.Cell.TheVariants.{Val, Cond}
use Rattle.rel_algebra.specs.declared.plan.Node.{Node}
use Rattle.rel_algebra.specs.declared.plan.Node.TheVariants.{Filter}
use Rattle.rel_algebra.specs.Plan.{cell_of}
use Rattle.rel_algebra.specs.PlanView.{scalar_of}
use Rattle.plan_scalars.specs.Sights.{sight_of}

-- by the cell of a test: the row is left out there, or else later; one that raises keeps it
abbrev pub out_by : Cell → Bool → Bool
out_by (Val v) later = not (is_true v) || later
out_by (Cond area) later = false

-- by a node, where the later ones would leave the row out, or not
abbrev pub node_leaves_out : Node → List Cell → List (List Cell) → List Value → Bool → Bool
node_leaves_out (Filter s) row outer args later =
    out_by (cell_of (scalar_of s) (sight_of row outer args)) later
node_leaves_out _ row outer args later = false

-- the Filters that come first leave a row out, and none of them raises before
abbrev pub left_out : List Node → List Cell → List (List Cell) → List Value → Bool
left_out [] row outer args = false
left_out (n ∷ ns) row outer args = node_leaves_out n row outer args (left_out ns row outer args)
