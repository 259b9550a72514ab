use Rattle.std.proofs.Common.{◌≡◌, length, reverse}
use Rattle.plan_drafts.specs.Choosing.{closed, all_arms_of}
use Rattle.plan_expressions.specs.Emission.{put}
use Rattle.plan_drafts.proofs.chosen.close_columns.Given as goal

abbrev pub invariant-loop-column : goal.invariant-loop-column
invariant-loop-column l = put l.scalars (closed (all_arms_of (reverse l.columns_left))) ≡ closed
    (all_arms_of l.fn.columns)

abbrev pub decreases-loop-column : goal.decreases-loop-column
decreases-loop-column l = length l.columns_left
