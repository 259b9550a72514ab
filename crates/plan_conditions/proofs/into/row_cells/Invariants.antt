use Rattle.std.proofs.Common.{◌≡◌}
use Rattle.rel_algebra.specs.Joins.{places}
use Rattle.rel_algebra.specs.Plan.{cells_at, shown}
use Rattle.plan_conditions.proofs.into.row_cells.Given as goal

abbrev pub invariant-loop-place : goal.invariant-loop-place
invariant-loop-place l = l.cells ≡ cells_at (shown l.row) (places 0 l.place)
