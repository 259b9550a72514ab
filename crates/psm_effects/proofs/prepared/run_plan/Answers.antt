-- What is collected of the plan is how the query ends.
use Rattle.rel_algebra.specs.Plan.{collected}
use Rattle.psm_effects.specs.Preparing.{plan_in}
use Rattle.psm_effects.proofs.Answering.{if_ok, all_values}
use Rattle.psm_effects.proofs.Preparing.{plan_ends}
use Rattle.psm_effects.proofs.prepared.run_plan.Goals as goal

pub returns-clause-ends : goal.returns-clause-ends
returns-clause-ends g c =
    if_ok c.collect.result
    (λ a told. plan_ends c.args.tables.now (plan_in c.args.prepared.now) c.in_ok-rows.rows a
    c.len-tables.ensures.rows c.in_ok-rows.ensures.rows told)
    c.collect.ensures.answer

pub returns-clause-values : goal.returns-clause-values
returns-clause-values g c = if_ok c.collect.result
    (λ a told. all_values a (collected c.in_ok-rows.rows) told) c.collect.ensures.answer
