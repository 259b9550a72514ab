use Rattle.std.proofs.Common.{◌≡◌, ◌++◌, length, reverse}
use Rattle.rel_algebra.specs.PlanView.{scalars_of}
use Rattle.plan_drafts.specs.Choosing.{with_row, all_arms_of}
use Rattle.plan_drafts.proofs.chosen.add_row.Given as goal

abbrev pub invariant-loop-column : goal.invariant-loop-column
invariant-loop-column l =
    all_arms_of l.grown ++ with_row l.number (all_arms_of (reverse l.columns_left))
    (scalars_of (reverse l.row_left)) ≡ with_row l.number (all_arms_of l.fn.columns)
    (scalars_of l.fn.row)

abbrev pub decreases-loop-column : goal.decreases-loop-column
decreases-loop-column l = length l.columns_left
