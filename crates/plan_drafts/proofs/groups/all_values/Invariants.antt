use Rattle.std.proofs.Common.{◌≡◌, ◌-◌}
use Rattle.rel_algebra.specs.Emit.{checks}
use Rattle.rel_algebra.specs.Joins.{places}
use Rattle.plan_expressions.specs.Emission.{put}
use Rattle.plan_drafts.proofs.groups.all_values.Given as goal

abbrev pub invariant-loop-place : goal.invariant-loop-place
invariant-loop-place l = put l.checks (checks (places l.place (l.end - l.place))) ≡ checks
    (places l.first (l.end - l.first))
