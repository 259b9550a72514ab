use Rattle.std.proofs.Common.{◌≡◌, subst}
use Rattle.catalog_store.specs.Catalog.{Catalog}
use Rattle.call_plans.specs.Calls.{IsCallPlan}
use Rattle.run_plans.proofs.Calls.{given_so, given_sure}
use Rattle.run_plans.proofs.calling.call_at.Goals as goal

pub returns-in-Some-clause-kept : goal.returns-in-Some-clause-kept
returns-in-Some-clause-kept c =
    let place = c.args.place.now in
    given_sure (IsCallPlan place.catalog.now c.args.name.now) c.in-Some.call.now c.if_taking.result
    c.if_taking.ensures.same
    (subst (λ (known : Catalog). IsCallPlan known c.args.name.now c.in-Some.call.now) place.same
    c.in-Some.ensures)

pub returns-in-Some-clause-parameters : goal.returns-in-Some-clause-parameters
returns-in-Some-clause-parameters c =
    given_so (λ k. k.parameters ≡ c.args.arguments) c.in-Some.call.now c.if_taking.result
    c.if_taking.ensures.same c.if_taking.ensures.parameters
