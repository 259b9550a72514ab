use Rattle.kept_queries.specs.Keeping.{AreKept}
use Rattle.body_queries.proofs.bodies.+bodies.Given as goal

abbrev pub invariant-keep_in_stmts-loop-stmt : goal.invariant-keep_in_stmts-loop-stmt
invariant-keep_in_stmts-loop-stmt l = AreKept l.around l.kept

abbrev pub invariant-keep_in_branches-loop-branch : goal.invariant-keep_in_branches-loop-branch
invariant-keep_in_branches-loop-branch l = AreKept l.around l.kept

abbrev pub invariant-keep_in_handlers-loop-handler : goal.invariant-keep_in_handlers-loop-handler
invariant-keep_in_handlers-loop-handler l = AreKept l.around l.kept
