use Rattle.std.proofs.Common.{◌≡◌, ◌++◌, [], drop}
use Rattle.row_types.specs.OuterRows.{outer_rows}
use Rattle.rel_algebra.specs.Plan.{cells_of}
use Rattle.rel_algebra.specs.PlanView.{scalars_of}
use Rattle.plan_scalars.specs.Sights.{sight_of}
use Rattle.plan_nodes.proofs.lists.listed_cells.Given as goal

abbrev pub invariant-loop-scalar : goal.invariant-loop-scalar
invariant-loop-scalar l =
    let s = sight_of [] (outer_rows l.outer) l.args in
    l.cells ++ cells_of (scalars_of (drop l.scalar-index l.scalars)) s ≡ cells_of
    (scalars_of l.scalars) s
