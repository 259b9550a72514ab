use Rattle.std.proofs.Common.{List, length, ap}
use Rattle.sql_values.specs.declared.value.Value.{Value}
use Rattle.run_choices.specs.Sight.{seen}
use Rattle.run_plans.proofs.Chosen.{ends_found}
use Rattle.run_plans.proofs.choosing.kept_for.Goals as goal

pub returns-in-Some : goal.returns-in-Some
returns-in-Some c =
    ends_found c.kept_mean.ensures c.kept_tables_fit.ensures c.args.place.now c.args.world.now
    c.args.frame.now (seen c.args.rows.now) c.args.query.now c.in-Some.kept.now
    c.in-Some.ensures.kept c.in-Some.ensures.query _ c.in-Some.ensures.sight
    (ap (λ (vs : List Value). length vs) c.variables.ensures) c.tables-stored.result.now
    c.tables-stored.ensures c.len-rows.ensures.rows c.if_wide.result c.if_wide.ensures.same
    c.if_wide.ensures.wide
