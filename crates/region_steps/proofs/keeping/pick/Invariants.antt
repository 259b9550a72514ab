use Rattle.std.proofs.Common.{◌≡◌, ◌++◌, drop}
use Rattle.rel_algebra.specs.Plan.{cells_at}
use Rattle.region_steps.proofs.keeping.pick.Given as goal

abbrev pub invariant-loop-place : goal.invariant-loop-place
invariant-loop-place l = l.cells.items ++ cells_at l.row (drop l.place-index l.places) ≡
    l.fn.cells.items ++ cells_at l.row l.places
