use Rattle.std.proofs.Common.{◌≡◌, ◌-◌, ◌≤◌, List, drop, length}
use Rattle.row_types.specs.declared.cell.Cell.{Cell}
use Rattle.rel_algebra.specs.Plan.{case_cell, cells_of}
use Rattle.rel_algebra.specs.PlanView.{scalars_of}
use Rattle.plan_scalars.specs.Sights.{sight_of}
use Rattle.region_steps.proofs.choices.taken.Given as goal

abbrev pub invariant-loop-at : goal.invariant-loop-at
invariant-loop-at l = record {
  cell : (outer : List (List Cell)) → let s = sight_of l.row outer l.args in
      case_cell (cells_of (scalars_of (drop l.at l.operands)) s) ≡ case_cell
      (cells_of (scalars_of l.operands) s);
  within : l.at ≤ length l.operands;
}

abbrev pub decreases-loop-at : goal.decreases-loop-at
decreases-loop-at l = length l.operands - l.at
