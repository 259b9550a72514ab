use Rattle.std.proofs.Common.{length}
use Rattle.block_plans.specs.Callees.{width_in}
use Rattle.catalog_store.specs.Kept.{IsPlan}
use Rattle.plan_bodies.proofs.block.plan_known.Goals as goal
use Rattle.plan_bodies.proofs.Parameters.{asked_is}
use Rattle.plan_expressions.proofs.Laws.{if_ok}
use Rattle.plan_steps.specs.Places.{function_in}
use Rattle.rel_algebra.specs.BodyChain.{known_body}
use Rattle.rel_algebra.specs.Emissions.{asked_where}
use Rattle.rel_algebra.specs.Emit.{top}
use Rattle.rel_algebra.specs.Plan.{single}
use Rattle.rel_algebra.specs.PlanView.{scalar_of, tree_of}

pub returns : goal.returns
returns c =
    let k = c.args.functions.now in let types = c.args.parameters.now in
    if_ok c.plan_asked.result
    (λ p. IsPlan p (asked_where (scalar_of c.in_ok-when.when) single
    (tree_of c.in_ok-inner.inner) 0))
    (λ p. IsPlan p (known_body (function_in k types c.args.returns c.args.body.now) (width_in k)
    (top (length types)) 0)) c.plan_asked.ensures
    (asked_is c.in_ok-when.ensures c.in_ok-inner.ensures)
