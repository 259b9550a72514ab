use Rattle.kept_queries.specs.Keeping.{AreKept}
use Rattle.body_queries.proofs.bodies.keep_in_arguments.Given as goal

abbrev pub invariant-loop-argument : goal.invariant-loop-argument
invariant-loop-argument l = AreKept l.around l.kept
