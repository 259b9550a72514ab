use Rattle.kept_queries.specs.Keeping.{AreKept}
use Rattle.body_queries.proofs.bodies.keep_in_defaults.Given as goal

abbrev pub invariant-loop-group : goal.invariant-loop-group
invariant-loop-group l = AreKept l.around l.kept
