use Rattle.std.proofs.Common.{◌≡◌, ◌++◌, ◌-◌, map}
use Rattle.row_types.specs.declared.cell.Cell.TheVariants.{Val}
use Rattle.rel_algebra.specs.Joins.{places}
use Rattle.rel_algebra.specs.Plan.{cells_at}
use Rattle.plan_nodes.proofs.last.front_values.Given as goal

abbrev pub invariant-loop-place : goal.invariant-loop-place
invariant-loop-place l =
    map Val l.values.items ++ cells_at l.row (places l.place (l.count - l.place)) ≡
    map Val l.fn.values.items ++ cells_at l.row (places 0 l.count)
