use Rattle.std.proofs.Common.{sym, ◌∙◌}
use Rattle.sql_lex.proofs.Scanning.{close_end-goes}
use Rattle.sql_lex.proofs.step.close_end.Goals as goal

pub loop-at-preserved : goal.loop-at-preserved
loop-at-preserved c = close_end-goes _ _ c.loop-at-test.true
    (sym c.begins_with.ensures ∙ c.if-begins_with.false) c.loop-at.invariant
