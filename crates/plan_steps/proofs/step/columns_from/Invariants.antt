use Rattle.std.proofs.Common.{◌≡◌, ◌+◌, ◌-◌, ◌++◌}
use Rattle.rel_algebra.specs.Joins.{places}
use Rattle.plan_steps.proofs.step.columns_from.Given as goal

abbrev pub invariant-loop-index : goal.invariant-loop-index
invariant-loop-index l = l.columns ++ places (l.first + l.index) (l.count - l.index) ≡ places
    l.first l.count
