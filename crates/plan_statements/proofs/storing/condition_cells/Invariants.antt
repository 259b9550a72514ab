use Rattle.std.proofs.Common.{◌≡◌, drop, map}
use Rattle.rel_algebra.specs.BodyChain.{condition_cells, item_cell}
use Rattle.rel_algebra.specs.OnConditions.{state_item}
use Rattle.rel_algebra.specs.Plan.{more}
use Rattle.routine_views.specs.Views.{condition_read}
use Rattle.plan_expressions.specs.Emission.{put}
use Rattle.plan_statements.proofs.storing.condition_cells.Given as goal

abbrev pub invariant-loop-read : goal.invariant-loop-read
invariant-loop-read l = put l.cells (condition_cells (map condition_read
    (drop l.read-index l.reads)) l.number l.column) ≡ more (item_cell state_item l.number l.column)
    (condition_cells (map condition_read l.reads) l.number l.column)
