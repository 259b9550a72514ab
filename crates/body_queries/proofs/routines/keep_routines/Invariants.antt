use Rattle.std.proofs.Common.{◌≡◌}
use Rattle.body_queries.proofs.routines.keep_routines.Given as goal

abbrev pub invariant-loop-name : goal.invariant-loop-name
invariant-loop-name l = l.kept ≡ l.fn.kept
