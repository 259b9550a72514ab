use Rattle.std.proofs.Common.{◌≡◌, ◌++◌, drop, map}
use Rattle.rel_algebra.specs.BodyMeaning.{statement_targets}
use Rattle.routine_views.specs.Views.{statement_read, target}
use Rattle.plan_statements.proofs.storing.targets_of_area.Given as goal

abbrev pub invariant-loop-read : goal.invariant-loop-read
invariant-loop-read l = map target l.targets ++ statement_targets (map statement_read
    (drop l.read-index l.reads)) ≡ statement_targets (map statement_read l.reads)
