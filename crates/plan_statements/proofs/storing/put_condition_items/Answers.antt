use Rattle.std.proofs.Common.{Option, ℕ, map, refl, take}
use Rattle.std.proofs.lemmas.Result.{on_ok_weaker}
use Rattle.rel_algebra.specs.BodyChain.{emit_condition_items, not_stacked_cell}
use Rattle.routine_views.specs.Views.{condition_read}
use Rattle.plan_steps.specs.Places.{codes_of, env_in, leaf_in, widths_in}
use Rattle.plan_statements.proofs.Several.{condition_put}
use Rattle.plan_statements.proofs.Single.{engine_put}
use Rattle.plan_statements.proofs.storing.put_condition_items.Goals as goal

pub returns-in_default : goal.returns-in_default
returns-in_default c =
    let p = c.args.place.now in
    let at = c.args.at in
    let reads = map condition_read c.args.reads.now in
    on_ok_weaker c.put_engine.result
    (engine_put p at c.spot_of-spot.result not_stacked_cell
    (λ (o : Option ℕ). take 1 (emit_condition_items o (leaf_in p.functions.now c.args.number.now)
    reads (widths_in p) (codes_of p) (env_in p) at.here at.next at.columns)) p.stacked
    c.args.draft.now c.put_engine.new.draft c.spot_of-spot.ensures c.in_default.is refl)
    c.put_engine.ensures

pub returns : goal.returns
returns c =
    let p = c.args.place.now in
    on_ok_weaker c.put_numbered.result
    (condition_put p c.args.at c.spot_of-spot.result p.stacked c.in-Some.column
    c.in_ok-numbered.numbered (leaf_in p.functions.now c.args.number.now)
    (map condition_read c.args.reads.now) c.nodes_over-nodes.result c.emit_value.new.nodes
    c.put_column.new.draft c.args.draft.now c.put_numbered.new.draft c.in_ok-scalar.scalar
    c.spot_of-spot.ensures c.in-Some.is c.nodes_over-nodes.ensures.tree
    c.nodes_over-nodes.ensures.width c.in_ok-scalar.ensures c.in_ok-numbered.ensures.place
    c.in_ok-numbered.ensures.tree) c.put_numbered.ensures
