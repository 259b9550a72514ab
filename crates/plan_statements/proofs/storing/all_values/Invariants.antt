use Rattle.std.proofs.Common.{◌≡◌, ◌+◌, ◌-◌}
use Rattle.rel_algebra.specs.Emissions.{checks}
use Rattle.rel_algebra.specs.Joins.{places}
use Rattle.plan_expressions.specs.Emission.{put}
use Rattle.plan_statements.proofs.storing.all_values.Given as goal

abbrev pub invariant-loop-index : goal.invariant-loop-index
invariant-loop-index l = put l.checks (checks (places (l.first + l.index) (l.count - l.index)))
    ≡ checks (places l.first l.count)
