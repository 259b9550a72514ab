use Rattle.std.proofs.Common.{◌≡◌, ◌+◌, ◌≤◌, drop}
use Rattle.row_types.specs.OuterRows.{outer_rows}
use Rattle.rel_algebra.specs.Plan.{shown_rows}
use Rattle.plan_nodes.specs.Fates.{passed}
use Rattle.plan_nodes.specs.Receiving.{received}
use Rattle.plan_nodes.proofs.leaves.table_passed.Given as goal

abbrev pub invariant-loop-at : goal.invariant-loop-at
invariant-loop-at g l = record {
  rows : received l.received (passed l.nodes (outer_rows l.outer) l.args
      (shown_rows (drop l.at l.table.table.rows))) ≡ received l.fn.into
      (passed l.nodes (outer_rows l.outer) l.args (shown_rows l.table.table.rows));
  work : l.steps ≤ l.fn.steps + l.at;
}
