use Rattle.std.proofs.Common.{◌≡◌}
use Rattle.body_queries.proofs.routines.+keep_routine.Given as goal

abbrev pub decreases-keep_routine : goal.decreases-keep_routine
decreases-keep_routine l = l.below

abbrev pub invariant-loop-used : goal.invariant-loop-used
invariant-loop-used l = l.kept ≡ l.fn.kept
