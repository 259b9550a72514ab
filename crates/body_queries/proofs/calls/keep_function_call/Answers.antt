-- What is planned of the function is its own plan, in the catalog of what is kept.
use Rattle.std.proofs.Common.{sym, subst}
use Rattle.catalog_store.specs.Catalog.{Catalog}
use Rattle.body_queries.specs.Bodies.{HasOwnPlan}
use Rattle.body_queries.proofs.Making.{returning_own}
use Rattle.body_queries.proofs.calls.keep_function_call.Goals as goal

pub add_call-requires : goal.add_call-requires
add_call-requires c =
    let plan = c.in_ok-plan-in-Some.plan in let count = c.len-parameters.result in
    subst (λ (known : Catalog). HasOwnPlan known c.args.name.now count plan)
    (sym c.requires.catalog)
    (returning_own c.routine_is.ensures c.args.catalog.now c.args.name.now c.args.function.now
    c.in-Some.returned.now count plan c.len-entries.ensures.names c.requires.function
    c.len-parameters.ensures (let same = c.in-Some.ensures in cc) c.in_ok-plan-in-Some.ensures)
