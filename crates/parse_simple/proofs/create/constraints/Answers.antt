use Rattle.std.proofs.Common.{refl}
use Rattle.grammar_sql.specs.Definitions as definitions
use Rattle.grammar_sql.specs.Sql as g
use Rattle.grammar_sql.specs.Definitions.{constraints, column_constraint, not_null, key_words}
use Rattle.grammar_sql.specs.Definitions.{primary_key}
use Rattle.grammar_algebra.proofs.Laws.{each_step, each_smaller}
use Rattle.parse_simple.proofs.create.constraints.Goals as goal

pub more-preserved : goal.more-preserved
unfolding constraints column_constraint not_null key_words primary_key
more-preserved c = each_step g.rules c.args.room definitions.column_constraint refl c.more.found _
    c.more.input.rest.now _ _ c.begins_constraint.result _ c.more.invariant
    c.begins_constraint.ensures c.more-test.true c.in-Ok.ensures c.in_ok-push-in-Ok.ensures.ok

pub more-smaller : goal.more-smaller
unfolding column_constraint not_null key_words primary_key
more-smaller c = each_smaller g.rules c.args.room definitions.column_constraint refl
    c.more.input.rest.now _ _ c.in-Ok.ensures
