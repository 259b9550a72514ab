use Rattle.std.proofs.Common.{◌≡◌, ◌++◌, ◌≤◌, take, drop, length}
use Rattle.row_types.specs.OuterRows.{outer_rows}
use Rattle.rel_algebra.specs.Plan.{cells_of}
use Rattle.rel_algebra.specs.PlanView.{scalars_of}
use Rattle.plan_scalars.specs.Sights.{sight_of}
use Rattle.region_steps.proofs.registers.extend.Given as goal

abbrev pub invariant-loop-scalar : goal.invariant-loop-scalar
invariant-loop-scalar l =
    let s = sight_of l.fn.cells.items (outer_rows l.outer) l.args in
    record {
      cells : l.cells.items ++ cells_of (scalars_of (drop l.scalar-index l.scalars)) s ≡
          l.fn.cells.items ++ cells_of (scalars_of l.scalars) s;
      came : take l.width l.cells.items ≡ l.fn.cells.items;
      wide : l.width ≤ length l.cells.items;
    }
