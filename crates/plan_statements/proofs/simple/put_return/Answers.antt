use Rattle.std.proofs.lemmas.Result.{on_ok_weaker}
use Rattle.plan_steps.specs.Places.{leaf_in}
use Rattle.plan_statements.proofs.Single.{return_put}
use Rattle.plan_statements.proofs.simple.put_return.Goals as goal

pub returns : goal.returns
returns c =
    let p = c.args.place.now in
    on_ok_weaker c.put_value.result
    (return_put p c.args.at c.spot_of-spot.result (leaf_in p.functions.now c.args.value.now)
    c.nodes_over-nodes.result c.emit_value.new.nodes c.put_column.new.draft c.args.draft.now
    c.put_value.new.draft c.in_ok-scalar.scalar c.in_ok-column.column c.spot_of-spot.ensures
    c.nodes_over-nodes.ensures.tree c.nodes_over-nodes.ensures.width c.in_ok-scalar.ensures
    c.in_ok-column.ensures.place c.in_ok-column.ensures.tree) c.put_value.ensures
