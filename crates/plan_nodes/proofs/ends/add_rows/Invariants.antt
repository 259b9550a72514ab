use Rattle.std.proofs.Common.{◌≡◌, drop}
use Rattle.row_types.specs.OuterRows.{outer_rows}
use Rattle.rel_algebra.specs.Plan.{shown_rows}
use Rattle.plan_nodes.specs.Receiving.{received}
use Rattle.plan_nodes.specs.Ways.{way_rows}
use Rattle.plan_nodes.proofs.ends.add_rows.Given as goal

abbrev pub invariant-loop-row : goal.invariant-loop-row
invariant-loop-row l =
    received l.received (way_rows l.way (outer_rows l.outer) l.args
    (shown_rows (drop l.row-index l.rows))) ≡ received l.fn.received
    (way_rows l.way (outer_rows l.outer) l.args (shown_rows l.rows))
