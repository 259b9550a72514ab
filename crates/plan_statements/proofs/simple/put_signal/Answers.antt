use Rattle.std.proofs.Common.{ap, ◌∙◌}
use Rattle.std.proofs.lemmas.Result.{on_ok_weaker}
use Rattle.sql_values.specs.declared.value.Value.TheVariants.{Null}
use Rattle.rel_algebra.specs.BodyChain.{push}
use Rattle.rel_algebra.specs.Plan.{constant}
use Rattle.rel_algebra.specs.PlanView.{scalar_of}
use Rattle.plan_expressions.proofs.Laws.{scalar_of-Constant}
use Rattle.plan_steps.specs.Places.{perhaps_in}
use Rattle.plan_statements.proofs.Single.{text_raised}
use Rattle.plan_statements.proofs.simple.put_signal.Goals as goal

pub returns : goal.returns
returns c =
    let p = c.args.place.now in
    let signal = c.args.signal.now in
    on_ok_weaker c.put_raised.result
    (text_raised p c.args.at c.spot_of-spot.result (perhaps_in p.functions.now signal.message)
    c.nodes_over-nodes.result c.emit_perhaps.new.nodes c.args.draft.now c.put_raised.new.draft
    c.in_ok-text.text (scalar_of c.in_ok-cell.cell) (λ x. push signal.state x (constant Null))
    c.spot_of-spot.ensures c.nodes_over-nodes.ensures.tree c.nodes_over-nodes.ensures.width
    c.in_ok-text.ensures (c.in_ok-cell.ensures ∙
    ap (push signal.state (scalar_of c.in_ok-text.text)) (scalar_of-Constant Null)))
    c.put_raised.ensures
