use Rattle.std.proofs.Common.{◌≡◌, ◌++◌, drop, map}
use Rattle.routine_views.specs.Views.{statement_read}
use Rattle.routine_views.specs.Views.{target as target_of}
use Rattle.run_places.specs.Getting.{statement_targets}
use Rattle.run_places.proofs.getting.statement_variables.Given as goal

abbrev pub invariant-loop-read : goal.invariant-loop-read
invariant-loop-read l = map target_of l.targets.items ++
    statement_targets (map statement_read (drop l.read-index l.reads)) ≡
    statement_targets (map statement_read l.reads)
