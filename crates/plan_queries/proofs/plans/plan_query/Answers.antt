use Rattle.std.proofs.Common.{ap, ◌∙◌}
use Rattle.rel_algebra.specs.Emit.{plan}
use Rattle.block_plans.specs.View.{query_seen}
use Rattle.block_plans.specs.Callees.{width_in}
use Rattle.plan_queries.proofs.plans.plan_query.Goals as goal

pub returns : goal.returns
returns c =
    c.in_ok-plan_within.ensures ∙ ap (λ e. plan (query_seen c.args.functions.now c.args.query.now)
    (width_in c.args.functions.now) e) c.top-scope.ensures
