use Rattle.std.proofs.Common.{◌≡◌, ◌++◌, ◌-◌}
use Rattle.rel_algebra.specs.Joins.{places}
use Rattle.rel_algebra.specs.Plan.{cells_at}
use Rattle.region_steps.proofs.keeping.pick_front.Given as goal

abbrev pub invariant-loop-place : goal.invariant-loop-place
invariant-loop-place l = l.cells.items ++ cells_at l.row (places l.place (l.count - l.place))
    ≡ l.fn.cells.items ++ cells_at l.row (places 0 l.count)
