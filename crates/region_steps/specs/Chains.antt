-- What nodes that add and keep cells make of one row.
use Rattle.std.specs.Prelude.{Bool, true, false, List, [], ◌∷◌, ◌++◌}
use Rattle.sql_values.specs.declared.value.Value.{Value}
use Rattle.row_types.specs.declared.cell.Cell.{Cell}
use Rattle.rel_algebra.specs.declared.plan.Node.{Node}
use Rattle.rel_algebra.specs.declared.plan.Node.TheVariants.{Extend, Keep}
use Rattle.rel_algebra.specs.Plan.{cells_of, cells_at}
use Rattle.rel_algebra.specs.PlanView.{scalars_of}
use Rattle.plan_scalars.specs.Sights.{sight_of}

-- one node; another than these two does nothing
abbrev pub node_cells : Node → List Cell → List (List Cell) → List Value → List Cell
node_cells (Extend ss) row outer args =
    row ++ cells_of (scalars_of ss) (sight_of row outer args)
node_cells (Keep places) row outer args = cells_at row places
node_cells _ row outer args = row

-- several, the first of them first
abbrev pub chain_cells : List Node → List Cell → List (List Cell) → List Value → List Cell
chain_cells [] row outer args = row
chain_cells (n ∷ ns) row outer args = chain_cells ns (node_cells n row outer args) outer args

-- a node that makes one row of one row
abbrev pub is_of_chain : Node → Bool
is_of_chain (Extend ss) = true
is_of_chain (Keep places) = true
is_of_chain _ = false
