use Rattle.std.proofs.Common.{◌≡◌, ◌+◌, ◌++◌, length, drop}
use Rattle.rel_algebra.specs.Joins.{numbered}
use Rattle.rel_algebra.specs.PlanView.{aggregates_of}
use Rattle.plan_drafts.proofs.groups.numbered.Given as goal

abbrev pub invariant-loop-index : goal.invariant-loop-index
invariant-loop-index l =
    (aggregates_of l.columns ++ numbered (l.first + l.index) (drop l.index l.aggregates) ≡
    numbered l.first l.aggregates) × (length l.columns ≡ l.index)
