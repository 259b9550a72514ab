use Rattle.std.proofs.Common.{replicate}
use Rattle.std.proofs.lemmas.Result.{on_ok_weaker}
use Rattle.rel_algebra.specs.BodyChain.{assigned_as, emitted}
use Rattle.rel_algebra.specs.BodySteps.{tag}
use Rattle.rel_algebra.specs.PlanView.{scalar_of}
use Rattle.plan_steps.specs.Places.{env_in, leaf_in, widths_in}
use Rattle.plan_steps.specs.Steps.{stores_of}
use Rattle.plan_statements.proofs.Single.{column_judged, stores_none}
use Rattle.plan_statements.proofs.compound.put_default.Goals as goal

pub returns : goal.returns
returns c =
    let p = c.args.place.now in
    let spot = c.args.spot.now in
    on_ok_weaker c.judge.result
    (column_judged p spot (emitted (leaf_in p.functions.now c.args.default.now) (widths_in p)
    (env_in p)) c.nodes_over-nodes.result c.emit_value.new.nodes c.put_column.new.draft
    c.args.draft.now c.judge.new.draft c.in_ok-scalar.scalar (assigned_as c.args.data_type)
    (scalar_of c.in_ok-scalar-2.scalar) (λ t. tag spot.from) (λ t. replicate c.args.count t)
    (stores_of c.new-stores.result) c.in_ok-kept.kept (scalar_of c.in_ok-goes.goes)
    c.in_ok-column.column c.nodes_over-nodes.ensures.tree c.nodes_over-nodes.ensures.width
    c.in_ok-scalar.ensures c.in_ok-scalar-2.ensures c.in_ok-column.ensures.place
    c.in_ok-column.ensures.tree c.in_ok-goes.ensures
    (stores_none c.new-stores.result c.new-stores.ensures) c.in_ok-kept.ensures) c.judge.ensures
