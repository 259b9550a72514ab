use Rattle.std.proofs.Common.{◌≡◌, ◌++◌, drop, map}
use Rattle.rel_algebra.specs.BodyMeaning.{condition_targets}
use Rattle.routine_views.specs.Views.{condition_read, target}
use Rattle.plan_statements.proofs.storing.targets_of_condition.Given as goal

abbrev pub invariant-loop-read : goal.invariant-loop-read
invariant-loop-read l = map target l.targets ++ condition_targets (map condition_read
    (drop l.read-index l.reads)) ≡ condition_targets (map condition_read l.reads)
