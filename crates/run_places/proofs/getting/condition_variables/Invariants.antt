use Rattle.std.proofs.Common.{◌≡◌, ◌++◌, drop, map}
use Rattle.routine_views.specs.Views.{condition_read}
use Rattle.routine_views.specs.Views.{target as target_of}
use Rattle.run_places.specs.Getting.{condition_targets}
use Rattle.run_places.proofs.getting.condition_variables.Given as goal

abbrev pub invariant-loop-read : goal.invariant-loop-read
invariant-loop-read l = map target_of l.targets.items ++
    condition_targets (map condition_read (drop l.read-index l.reads)) ≡
    condition_targets (map condition_read l.reads)
