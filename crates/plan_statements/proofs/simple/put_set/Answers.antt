use Rattle.std.proofs.lemmas.Result.{on_ok_weaker}
use Rattle.rel_algebra.specs.PlanView.{scalar_of}
use Rattle.routine_views.specs.Views.{target}
use Rattle.plan_steps.specs.Places.{leaf_in}
use Rattle.plan_statements.proofs.Single.{set_put}
use Rattle.plan_statements.proofs.simple.put_set.Goals as goal

pub returns : goal.returns
returns c =
    let p = c.args.place.now in
    on_ok_weaker c.put_value.result
    (set_put p c.args.at c.spot_of-spot.result (target c.args.target.now)
    (leaf_in p.functions.now c.args.value.now) c.nodes_over-nodes.result c.emit_value.new.nodes
    c.put_column.new.draft c.args.draft.now c.put_value.new.draft c.in_ok-scalar.scalar
    (scalar_of c.in_ok-scalar-2.scalar) c.in_ok-column.column c.column_at-stored.result
    c.spot_of-spot.ensures c.nodes_over-nodes.ensures.tree c.nodes_over-nodes.ensures.width
    c.in_ok-scalar.ensures c.in_ok-scalar-2.ensures c.in_ok-column.ensures.place
    c.in_ok-column.ensures.tree c.column_at-stored.ensures) c.put_value.ensures
