use Rattle.std.proofs.Common.{map}
use Rattle.std.proofs.lemmas.Result.{on_ok_weaker}
use Rattle.rel_algebra.specs.BodyChain.{target_stores}
use Rattle.rel_algebra.specs.BodySteps.{tag}
use Rattle.rel_algebra.specs.PlanView.{scalars_of}
use Rattle.routine_views.specs.Views.{target}
use Rattle.plan_steps.specs.Places.{env_in}
use Rattle.plan_statements.proofs.Several.{cells_put}
use Rattle.plan_statements.proofs.storing.put_cells.Goals as goal

pub returns : goal.returns
returns c =
    let p = c.args.place.now in
    let spot = c.args.spot.now in
    on_ok_weaker c.put_targets.result
    (cells_put p spot c.nodes_over-nodes.result c.extend.new.self c.args.draft.now
    c.put_targets.new.draft (scalars_of c.args.cells) (tag spot.here) c.args.count c.args.tested
    (target_stores (map target c.args.targets.now) (env_in p) spot.columns c.args.tested
    spot.columns) c.nodes_over-nodes.ensures.tree c.in_ok-extend.ensures.tree)
    c.put_targets.ensures
