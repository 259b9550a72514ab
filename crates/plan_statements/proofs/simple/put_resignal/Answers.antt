use Rattle.std.proofs.Common.{ℕ, Option, refl, take}
use Rattle.std.proofs.lemmas.Result.{on_ok_weaker}
use Rattle.rel_algebra.specs.BodyChain.{again, emit_again, not_active_cell}
use Rattle.rel_algebra.specs.PlanView.{scalar_of}
use Rattle.plan_steps.specs.Places.{codes_of, env_in, perhaps_in, widths_in}
use Rattle.plan_statements.proofs.Single.{again_put, engine_put, text_raised}
use Rattle.plan_statements.proofs.simple.put_resignal.Goals as goal

pub returns-in_default : goal.returns-in_default
returns-in_default c =
    let p = c.args.place.now in
    let at = c.args.at in
    let signal = c.args.signal.now in
    on_ok_weaker c.put_engine.result
    (engine_put p at c.spot_of-spot.result not_active_cell
    (λ (o : Option ℕ). take 1 (emit_again o signal.state (perhaps_in p.functions.now signal.message)
    (widths_in p) (codes_of p) (env_in p) at.here at.next at.columns)) p.stacked c.args.draft.now
    c.put_engine.new.draft c.spot_of-spot.ensures c.in_default.is refl) c.put_engine.ensures

pub returns : goal.returns
returns c =
    let p = c.args.place.now in
    let signal = c.args.signal.now in
    let words = perhaps_in p.functions.now signal.message in
    let column = c.in-Some.column in
    on_ok_weaker c.put_raised.result
    (λ puts. again_put p c.args.at p.stacked column signal.state words c.args.draft.now
    c.put_raised.new.draft c.in-Some.is
    (text_raised p c.args.at c.spot_of-spot.result words c.nodes_over-nodes.result
    c.emit_perhaps.new.nodes c.args.draft.now c.put_raised.new.draft c.in_ok-text.text
    (scalar_of c.in_ok-cell.cell) (λ x. again signal.state words x column) c.spot_of-spot.ensures
    c.nodes_over-nodes.ensures.tree c.nodes_over-nodes.ensures.width c.in_ok-text.ensures
    (c.in_ok-cell.ensures p.functions.now) puts)) c.put_raised.ensures
