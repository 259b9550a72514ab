use Rattle.std.proofs.Common.{◌≡◌, ◌+◌, ◌≤◌, length}
use Rattle.row_types.specs.OuterRows.{outer_rows}
use Rattle.plan_nodes.specs.Receiving.{received}
use Rattle.plan_nodes.specs.Ways.{way_rows}
use Rattle.plan_exec.specs.RegionRows.{region_rows}
use Rattle.plan_exec.proofs.region_rows.add_region_rows.Given as goal

abbrev pub invariant-rows : goal.invariant-rows
invariant-rows g l =
    let o = outer_rows l.outer in
    let steps = l.region.steps.items in
    record {
      rows : received l.received (way_rows l.way o l.args
          (region_rows l.when steps o l.args l.left))
          ≡ received l.fn.received (way_rows l.way o l.args
          (region_rows l.when steps o l.args l.fn.rows));
      work : l.steps + length l.left ≤ l.fn.steps + length l.fn.rows;
    }

abbrev pub decreases-rows : goal.decreases-rows
decreases-rows g l = length l.left
