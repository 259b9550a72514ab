use Rattle.std.proofs.Common.{◌+◌, ◌≤◌}
use Rattle.plan_exec.proofs.Looked.{Looked}
use Rattle.plan_exec.proofs.collecting.collect.Given as goal

abbrev pub invariant-loop-at : goal.invariant-loop-at
invariant-loop-at g l = record {
  looked : Looked l.fn.rows l.at;
  work : l.steps ≤ l.fn.steps + l.at;
}
