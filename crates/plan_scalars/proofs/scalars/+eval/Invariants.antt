use Rattle.std.proofs.Common.{◌≡◌, ◌≢◌, ◌-◌, ◌≤◌, true, false, map, drop, length}
use Rattle.sql_values.specs.declared.value.Value.TheVariants.{Bool as TruthValue}
use Rattle.three_valued.specs.declared.truth.Truth.TheVariants.{True, False}
use Rattle.three_valued.specs.Truths.{value_of_truth}
use Rattle.row_types.specs.OuterRows.{outer_rows}
use Rattle.rel_algebra.specs.Plan.{cells_of, values_of, and_cell, or_cell, case_cell, coalesce_cell}
use Rattle.rel_algebra.specs.PlanView.{scalars_of, link_of}
use Rattle.plan_scalars.specs.Sights.{sight_of, chained_cell}
use Rattle.plan_scalars.proofs.Ends.{with_values}
use Rattle.plan_scalars.proofs.scalars.+eval.Given as goal

abbrev pub invariant-and-loop-operand : goal.invariant-and-loop-operand
invariant-and-loop-operand l =
    let s = sight_of l.row (outer_rows l.outer) l.args in
    record {
      undecided : l.so_far ≢ False;
      same : and_cell (value_of_truth l.so_far)
          (cells_of (scalars_of (drop l.operand-index l.operands)) s) ≡ and_cell (TruthValue true)
          (cells_of (scalars_of l.operands) s);
    }

abbrev pub invariant-or-loop-operand : goal.invariant-or-loop-operand
invariant-or-loop-operand l =
    let s = sight_of l.row (outer_rows l.outer) l.args in
    record {
      undecided : l.so_far ≢ True;
      same : or_cell (value_of_truth l.so_far)
          (cells_of (scalars_of (drop l.operand-index l.operands)) s) ≡ or_cell (TruthValue false)
          (cells_of (scalars_of l.operands) s);
    }

abbrev pub invariant-case-loop-at : goal.invariant-case-loop-at
invariant-case-loop-at l =
    let s = sight_of l.row (outer_rows l.outer) l.args in
    record {
      cell : case_cell (cells_of (scalars_of (drop l.at l.operands)) s) ≡ case_cell
          (cells_of (scalars_of l.operands) s);
      within : l.at ≤ length l.operands;
    }

abbrev pub decreases-case-loop-at : goal.decreases-case-loop-at
decreases-case-loop-at l = length l.operands - l.at

abbrev pub invariant-coalesce-loop-operand : goal.invariant-coalesce-loop-operand
invariant-coalesce-loop-operand l =
    let s = sight_of l.row (outer_rows l.outer) l.args in
    coalesce_cell (cells_of (scalars_of (drop l.operand-index l.operands)) s) ≡ coalesce_cell
    (cells_of (scalars_of l.operands) s)

abbrev pub invariant-eval_all-loop-operand : goal.invariant-eval_all-loop-operand
invariant-eval_all-loop-operand l =
    let s = sight_of l.row (outer_rows l.outer) l.args in
    with_values l.values.items (values_of (cells_of (scalars_of (drop l.operand-index l.operands))
    s)) ≡ values_of (cells_of (scalars_of l.operands) s)

abbrev pub invariant-eval_links-loop-link : goal.invariant-eval_links-loop-link
invariant-eval_links-loop-link l =
    let s = sight_of l.row (outer_rows l.outer) l.args in
    chained_cell l.cell (map link_of (drop l.link-index l.links)) s ≡ chained_cell l.fn.first
    (map link_of l.links) s
