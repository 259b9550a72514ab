use Rattle.std.proofs.Common.{◌+◌, ◌++◌, drop, map, ap}
use Rattle.row_types.specs.declared.cell.Cell.TheVariants.{Val}
use Rattle.row_types.specs.OuterRows.{outer_rows}
use Rattle.plan_nodes.specs.Grouping.{end_cells, groups_rows}
use Rattle.plan_nodes.specs.Receiving.{received}
use Rattle.plan_nodes.specs.Ways.{way_rows}
use Rattle.plan_nodes.proofs.Paired.{at_place, one_way}
use Rattle.plan_nodes.proofs.groups.add_groups.Goals as goal

pub loop-group-preserved : goal.loop-group-preserved
loop-group-preserved c =
    let o = outer_rows c.args.outer.now in
    let args = c.args.args.now in
    let way = c.args.way.now in
    let groups = c.args.groups.now in
    let i = c.loop-group.group-index in
    let group = c.group-item.result in
    one_way way o args (map Val group.key ++ end_cells group.ends)
    (groups_rows (drop (i + 1) groups)) (groups_rows (drop i groups)) c.loop-group.received
    c.add_group.new.received
    (received c.args.received.now (way_rows way o args (groups_rows groups)))
    (ap groups_rows (at_place groups i group c.loop-group-test.true c.group-item.is))
    c.in_ok-add_group.ensures c.loop-group.invariant
