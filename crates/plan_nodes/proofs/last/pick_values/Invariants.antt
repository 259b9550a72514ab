use Rattle.std.proofs.Common.{◌≡◌, ◌++◌, map, drop}
use Rattle.row_types.specs.declared.cell.Cell.TheVariants.{Val}
use Rattle.row_types.specs.OuterRows.{outer_rows}
use Rattle.rel_algebra.specs.Plan.{cells_of, cells_at}
use Rattle.rel_algebra.specs.PlanView.{scalars_of}
use Rattle.plan_scalars.specs.Sights.{sight_of}
use Rattle.plan_nodes.proofs.last.pick_values.Given as goal

abbrev pub invariant-loop-place : goal.invariant-loop-place
invariant-loop-place l =
    let row = l.row ++ cells_of (scalars_of l.scalars) (sight_of l.row (outer_rows l.outer) l.args)
    in
    map Val l.values.items ++ cells_at row (drop l.place-index l.places) ≡
    map Val l.fn.values.items ++ cells_at row l.places
