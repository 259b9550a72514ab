use Rattle.std.proofs.Common.{◌≡◌, ◌++◌, length, reverse}
use Rattle.plan_drafts.proofs.chosen.turned_columns.Given as goal

abbrev pub invariant-loop-column : goal.invariant-loop-column
invariant-loop-column l = l.turned ++ reverse l.left ≡ reverse l.fn.columns

abbrev pub decreases-loop-column : goal.decreases-loop-column
decreases-loop-column l = length l.left
