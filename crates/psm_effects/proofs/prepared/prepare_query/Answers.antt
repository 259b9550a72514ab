-- The plan that is made is the query's own.
use Rattle.std.proofs.Common.{◌∙◌}
use Rattle.rel_algebra.specs.Emit.{top}
use Rattle.rel_algebra.specs.PlanView.{tree_of}
use Rattle.catalog_store.specs.View.{query_of}
use Rattle.catalog_store.specs.Widths.{width_in}
use Rattle.block_plans.proofs.Laws.{bare_plan}
use Rattle.psm_effects.proofs.Preparing.{own_plan, own_form}
use Rattle.psm_effects.proofs.prepared.prepare_query.Goals as goal

pub returns-clause-plan : goal.returns-clause-plan
returns-clause-plan c =
    let known = c.args.catalog.now in
    own_plan (query_of known c.args.query.now) (width_in known) (tree_of c.in_ok-plan.plan)
    c.requires.planned
    (c.in_ok-plan.ensures ∙ bare_plan c.of.result known c.args.query.now (top 0) c.of.ensures)

pub returns-clause-form : goal.returns-clause-form
returns-clause-form c =
    let known = c.args.catalog.now in
    own_form (query_of known c.args.query.now) (width_in known) (tree_of c.in_ok-plan.plan)
    (c.in_ok-plan.ensures ∙ bare_plan c.of.result known c.args.query.now (top 0) c.of.ensures)
