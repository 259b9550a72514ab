use Rattle.std.proofs.Common.{length}
use Rattle.block_plans.specs.Callees.{width_in}
use Rattle.catalog_store.specs.Kept.{IsPlan}
use Rattle.plan_bodies.proofs.block.plan_chain.Goals as goal
use Rattle.plan_bodies.proofs.Parameters.{asked_is}
use Rattle.plan_expressions.proofs.Laws.{if_ok, scalar_of-Constant}
use Rattle.plan_steps.specs.Places.{function_in}
use Rattle.rel_algebra.specs.BodyChain.{called_body}
use Rattle.rel_algebra.specs.Emissions.{asked_where}
use Rattle.rel_algebra.specs.Emit.{top}
use Rattle.rel_algebra.specs.Plan.{single}
use Rattle.rel_algebra.specs.PlanView.{scalar_of, tree_of}
use Rattle.rel_algebra.specs.declared.scalar.Scalar.TheVariants as code
use Rattle.sql_values.specs.declared.value.Value.TheVariants.{Bool as Truth}
use Rattle.std.specs.Prelude.{true}

pub returns : goal.returns
returns c =
    let k = c.args.functions.now in let types = c.args.parameters.now in
    if_ok c.plan_asked.result
    (λ p. IsPlan p (asked_where (scalar_of (code.Constant (Truth true))) single
    (tree_of c.in_ok-inner.inner) 0))
    (λ p. IsPlan p (called_body (function_in k types c.args.returns c.args.body.now) (width_in k)
    (top (length types)) 0)) c.plan_asked.ensures
    (asked_is (scalar_of-Constant (Truth true)) c.in_ok-inner.ensures)
