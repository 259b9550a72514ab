use Rattle.std.proofs.Common.{refl}
use Rattle.grammar_sql.specs.Definitions as definitions
use Rattle.grammar_sql.specs.Sql as g
use Rattle.grammar_sql.specs.Definitions.{characteristics, characteristic, language, deterministic}
use Rattle.grammar_sql.specs.Definitions.{not_deterministic, contains_sql, data_characteristic}
use Rattle.grammar_sql.specs.Definitions.{data_access, null_characteristic, null_call}
use Rattle.grammar_algebra.proofs.Laws.{each_step, each_smaller}
use Rattle.parse_simple.proofs.routines.characteristics.Goals as goal

pub more-preserved : goal.more-preserved
unfolding characteristics characteristic language deterministic not_deterministic contains_sql
    data_characteristic data_access null_characteristic null_call
more-preserved c = each_step g.rules c.args.room definitions.characteristic refl c.more.found _
    c.more.input.rest.now _ _ c.begins_characteristic.result _ c.more.invariant
    c.begins_characteristic.ensures c.more-test.true c.in-Ok.ensures c.in_ok-push-in-Ok.ensures.ok

pub more-smaller : goal.more-smaller
unfolding characteristic language deterministic not_deterministic contains_sql data_characteristic
    data_access null_characteristic null_call
more-smaller c = each_smaller g.rules c.args.room definitions.characteristic refl
    c.more.input.rest.now _ _ c.in-Ok.ensures
