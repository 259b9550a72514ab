use Rattle.kept_queries.specs.Keeping.{AreKept}
use Rattle.body_queries.proofs.under_rows.+under_rows.Given as goal

abbrev pub invariant-keep_in_exprs-loop-expr : goal.invariant-keep_in_exprs-loop-expr
invariant-keep_in_exprs-loop-expr l = AreKept l.around l.kept

abbrev pub invariant-keep_in_links-loop-link : goal.invariant-keep_in_links-loop-link
invariant-keep_in_links-loop-link l = AreKept l.around l.kept

abbrev pub invariant-keep_in_from-loop-item : goal.invariant-keep_in_from-loop-item
invariant-keep_in_from-loop-item l = AreKept l.around l.kept

abbrev pub invariant-keep_in_rows-loop-row : goal.invariant-keep_in_rows-loop-row
invariant-keep_in_rows-loop-row l = AreKept l.around l.kept
