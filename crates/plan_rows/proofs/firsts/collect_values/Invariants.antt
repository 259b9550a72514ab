use Rattle.std.proofs.Common.{◌≡◌, ◌+◌, ◌≤◌, length}
use Rattle.rel_algebra.specs.Plan.{collected}
use Rattle.plan_rows.proofs.Collected.{rows_and}
use Rattle.plan_rows.proofs.firsts.collect_values.Given as goal

abbrev pub invariant-loop-alloc : goal.invariant-loop-alloc
invariant-loop-alloc g l = record {
  values : rows_and l.values (collected l.left) ≡ collected l.fn.rows;
  work : l.steps + length l.left ≤ l.fn.steps + length l.fn.rows;
}

abbrev pub decreases-loop-alloc : goal.decreases-loop-alloc
decreases-loop-alloc g l = length l.left
