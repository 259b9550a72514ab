use Rattle.std.proofs.Common.{map}
use Rattle.std.proofs.lemmas.Result.{on_ok_weaker}
use Rattle.rel_algebra.specs.BodyChain.{reading}
use Rattle.rel_algebra.specs.Emit.{folded, plan}
use Rattle.block_plans.specs.Callees.{width_in}
use Rattle.block_plans.specs.View.{query_seen}
use Rattle.routine_views.specs.Views.{target}
use Rattle.plan_expressions.specs.Scopes.{env_of}
use Rattle.plan_steps.specs.Places.{env_in}
use Rattle.plan_statements.proofs.Several.{folded_put, folded_seen, not_folded, plan_seen}
use Rattle.plan_statements.proofs.storing.put_into.Goals as goal

pub returns-in-Some : goal.returns-in-Some
returns-in-Some c =
    let p = c.args.place.now in
    let k = p.functions.now in
    let q = query_seen k c.args.query.now in
    let env = reading (env_in p) in
    on_ok_weaker c.put_folded.result
    (folded_put p c.args.at c.spot_of-spot.result (folded q (width_in k) env)
    (plan q (width_in k) env) (map target c.args.targets.now) c.in-Some.list
    c.nodes_over-nodes.result c.emit_folded.new.draft c.args.draft.now c.put_folded.new.draft
    c.spot_of-spot.ensures c.nodes_over-nodes.ensures.tree c.nodes_over-nodes.ensures.width
    (folded_seen k c.args.query.now (env_of c.in_ok-names.names) env c.nodes_over-nodes.result
    c.emit_folded.new.draft c.in_ok-folded.folded _ c.in_ok-names.ensures c.in-Some.is
    c.in_ok-folded.ensures))
    c.put_folded.ensures

pub returns-in-None : goal.returns-in-None
returns-in-None c =
    let p = c.args.place.now in
    let k = p.functions.now in
    let q = query_seen k c.args.query.now in
    let env = reading (env_in p) in
    let names = env_of c.in_ok-names.names in
    on_ok_weaker c.put_unfolded.result
    (not_folded p c.args.at (folded q (width_in k) env)
    (plan (query_seen k c.args.query.now) (width_in k) names) (plan q (width_in k) env)
    (map target c.args.targets.now) c.nodes_over-nodes.result c.emit_folded.new.draft
    c.args.draft.now c.put_unfolded.new.draft
    (folded_seen k c.args.query.now names env c.nodes_over-nodes.result c.emit_folded.new.draft
    c.in_ok-folded.folded _ c.in_ok-names.ensures c.in-None.is c.in_ok-folded.ensures)
    (plan_seen k c.args.query.now names env c.in_ok-names.ensures)) c.put_unfolded.ensures
