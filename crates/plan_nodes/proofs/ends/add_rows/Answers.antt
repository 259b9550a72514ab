use Rattle.std.proofs.Common.{◌+◌, drop, ap, ◌∙◌}
use Rattle.row_types.specs.OuterRows.{outer_rows}
use Rattle.rel_algebra.specs.Plan.{shown, shown_rows}
use Rattle.plan_nodes.specs.Fates.{fate_rows}
use Rattle.plan_nodes.specs.Receiving.{received}
use Rattle.plan_nodes.specs.Ways.{way_fate, way_rows}
use Rattle.plan_nodes.proofs.Paired.{at_place, one_way, values_alone}
use Rattle.plan_nodes.proofs.ends.add_rows.Goals as goal

pub loop-row-preserved : goal.loop-row-preserved
loop-row-preserved c =
    let o = outer_rows c.args.outer.now in
    let args = c.args.args.now in
    let way = c.args.way.now in
    let rows = c.args.rows.now in
    let i = c.loop-row.row-index in
    let row = c.row-item.result in
    one_way way o args (shown row) (shown_rows (drop (i + 1) rows)) (shown_rows (drop i rows))
    c.loop-row.received c.add_passed.new.received
    (received c.args.received.now (way_rows way o args (shown_rows rows)))
    (ap shown_rows (at_place rows i row c.loop-row-test.true c.row-item.is))
    (c.in_ok-add_passed.ensures
    ∙ ap (λ cells. received c.loop-row.received (fate_rows (way_fate way cells o args)))
    (values_alone c.of-values.result row c.clear.new.self.cells.items
    (c.of-values.ensures ∙ c.as_slice.ensures) c.clear.ensures))
    c.loop-row.invariant
