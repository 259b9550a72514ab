use Rattle.std.proofs.Common.{◌≡◌, drop}
use Rattle.row_types.specs.OuterRows.{outer_rows}
use Rattle.plan_nodes.specs.Grouping.{groups_rows}
use Rattle.plan_nodes.specs.Receiving.{received}
use Rattle.plan_nodes.specs.Ways.{way_rows}
use Rattle.plan_nodes.proofs.groups.add_groups.Given as goal

abbrev pub invariant-loop-group : goal.invariant-loop-group
invariant-loop-group l =
    received l.received (way_rows l.way (outer_rows l.outer) l.args
    (groups_rows (drop l.group-index l.groups))) ≡ received l.fn.received
    (way_rows l.way (outer_rows l.outer) l.args (groups_rows l.groups))
