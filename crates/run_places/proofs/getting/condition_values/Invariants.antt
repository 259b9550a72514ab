use Rattle.std.proofs.Common.{◌≡◌, ◌++◌, drop, map}
use Rattle.routine_views.specs.Views.{condition_read}
use Rattle.run_places.specs.Getting.{condition_values as values_by}
use Rattle.run_places.proofs.getting.condition_values.Given as goal

abbrev pub invariant-loop-read : goal.invariant-loop-read
invariant-loop-read l =
    l.values ++ values_by l.condition (map condition_read (drop l.read-index l.reads)) ≡
    values_by l.condition (map condition_read l.reads)
