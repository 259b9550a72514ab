use Rattle.std.proofs.Common.{◌≡◌, drop, map}
use Rattle.rel_algebra.specs.BodyChain.{statement_cells}
use Rattle.routine_views.specs.Views.{statement_read}
use Rattle.plan_expressions.specs.Emission.{put}
use Rattle.plan_statements.proofs.storing.statement_cells.Given as goal

abbrev pub invariant-loop-read : goal.invariant-loop-read
invariant-loop-read l = put l.cells (statement_cells (map statement_read
    (drop l.read-index l.reads)) l.column) ≡ statement_cells (map statement_read l.reads) l.column
