use Rattle.std.proofs.Common.{List, length, ap, ◌∙◌}
use Rattle.sql_values.specs.declared.value.Value.{Value}
use Rattle.run_plans.proofs.Calls.{ends_by_plan}
use Rattle.run_plans.proofs.calling.call_plan_for.Goals as goal

pub returns-in-Some : goal.returns-in-Some
returns-in-Some c =
    ends_by_plan c.calls_mean.ensures c.kept_tables_fit.ensures c.args.place.now.catalog.now
    c.args.name.now c.args.values.now c.args.world.now c.in-Some.call.now c.in-Some.ensures.kept
    (c.in-Some.ensures.parameters ∙ ap (λ (vs : List Value). length vs) c.as_slice.ensures)
    c.tables-stored.result.now c.tables-stored.ensures c.len-rows.ensures.rows
    c.if_tables_fit.result c.if_tables_fit.ensures.same c.if_tables_fit.ensures.wide
