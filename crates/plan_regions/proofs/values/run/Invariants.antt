use Rattle.std.proofs.Common.{◌≡◌, drop}
use Rattle.row_types.specs.OuterRows.{outer_rows}
use Rattle.plan_regions.specs.Regions.{steps_cells}
use Rattle.plan_regions.proofs.values.run.Given as goal

abbrev pub invariant-loop-step : goal.invariant-loop-step
invariant-loop-step l =
    steps_cells (drop l.step-index l.steps) l.registers.cells.items (outer_rows l.outer) l.args
    ≡ steps_cells l.steps l.fn.registers.cells.items (outer_rows l.outer) l.args
