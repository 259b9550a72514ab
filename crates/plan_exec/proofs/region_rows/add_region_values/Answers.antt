use Rattle.std.proofs.Common.{◌++◌, map, ap, ◌∙◌}
use Rattle.std.proofs.lemmas.Result.{on_ok_weaker}
use Rattle.row_types.specs.OuterRows.{outer_rows}
use Rattle.row_types.specs.declared.cell.Cell.TheVariants.{Val}
use Rattle.plan_nodes.specs.Fates.{fate_rows}
use Rattle.plan_nodes.specs.Receiving.{received}
use Rattle.plan_nodes.specs.Ways.{way_fate}
use Rattle.plan_exec.specs.RegionRows.{region_cells}
use Rattle.plan_exec.proofs.Regions.{values_region}
use Rattle.plan_exec.proofs.region_rows.add_region_values.Goals as goal

pub returns : goal.returns
returns c =
    let o = outer_rows c.args.outer.now in
    on_ok_weaker c.add_passed.result
    (λ h. h ∙ ap (λ cells. received c.args.received.now
    (fate_rows (way_fate c.args.way.now cells o c.args.args.now)))
    (values_region c.args.when.now c.args.region.now.steps.items o c.args.args.now
    c.args.values.now c.of-front.result c.args.scratch.now.cells.items
    c.push.new.self.items c.in_ok-cell.cell c.of-front.ensures c.in_ok-push.ensures.items
    (c.in_ok-cell.ensures ∙ ap (λ cs. region_cells c.args.when.now c.args.region.now.steps.items o
    c.args.args.now (map Val c.args.values.now ++ cs)) c.as_slice-cells.ensures.value)))
    c.add_passed.ensures
