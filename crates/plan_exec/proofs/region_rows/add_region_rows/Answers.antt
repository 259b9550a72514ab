use Rattle.std.proofs.Common.{ap, length, arith}
use Rattle.row_types.specs.OuterRows.{outer_rows}
use Rattle.plan_nodes.specs.Receiving.{received}
use Rattle.plan_nodes.specs.Ways.{way_rows}
use Rattle.plan_exec.specs.RegionRows.{region_rows}
use Rattle.plan_exec.proofs.Regions.{all_regions, next_region}
use Rattle.plan_exec.proofs.region_rows.add_region_rows.Goals as goal

pub rows-preserved-in-Continue-1 : goal.rows-preserved-in-Continue-1
rows-preserved-in-Continue-1 g c =
    let o = outer_rows c.args.outer.now in
    let steps = c.args.region.now.steps.items in
    record {
      rows = next_region c.args.when.now steps o c.args.args.now c.args.way.now c.rows.left
          c.take_first.new.self c.in-Some.row c.rows.received c.add_region_row.new.received
          (received c.args.received.now (way_rows c.args.way.now o c.args.args.now
          (region_rows c.args.when.now steps o c.args.args.now c.args.rows)))
          c.in-Some.ensures.row c.in_ok-add_region_row.ensures c.rows.invariant.rows;
      work = omega (
        arith,
        c.rows.invariant.work,
        c.take_first.ensures.step,
        ap length c.in-Some.ensures.row,
      );
    }

pub returns-clause-rows : goal.returns-clause-rows
returns-clause-rows g c =
    let o = outer_rows c.args.outer.now in
    let steps = c.args.region.now.steps.items in
    all_regions c.args.when.now steps o c.args.args.now c.args.way.now c.rows.left c.rows.received
    (received c.args.received.now (way_rows c.args.way.now o c.args.args.now
    (region_rows c.args.when.now steps o c.args.args.now c.args.rows)))
    (omega (arith, c.rows-test.false)) c.rows.invariant.rows
