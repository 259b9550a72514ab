use Rattle.std.proofs.Common.{List, Option, ℕ, length, map, refl, sym, ap, take, ◌∙◌}
use Rattle.std.proofs.lemmas.Result.{on_ok_weaker}
use Rattle.bound_trees.specs.declared.statement.BoundTarget.{BoundTarget}
use Rattle.rel_algebra.specs.BodyChain.{emit_statement_items, not_stacked_cell}
use Rattle.rel_algebra.specs.PlanView.{scalars_of}
use Rattle.routine_views.specs.Views.{statement_read, target}
use Rattle.plan_expressions.proofs.Laws.{length-map}
use Rattle.plan_steps.specs.Places.{codes_of, env_in}
use Rattle.plan_statements.proofs.Several.{statement_put}
use Rattle.plan_statements.proofs.Single.{engine_put}
use Rattle.plan_statements.proofs.storing.put_statement_items.Goals as goal

pub returns-in_default : goal.returns-in_default
returns-in_default c =
    let p = c.args.place.now in
    let at = c.args.at in
    let reads = map statement_read c.args.reads.now in
    on_ok_weaker c.put_engine.result
    (engine_put p at c.spot_of-spot.result not_stacked_cell
    (λ (o : Option ℕ). take 1 (emit_statement_items o reads (codes_of p) (env_in p) at.here at.next
    at.columns)) p.stacked c.args.draft.now c.put_engine.new.draft c.spot_of-spot.ensures
    c.in_default.is refl) c.put_engine.ensures

pub returns : goal.returns
returns c =
    let p = c.args.place.now in
    let at = c.args.at in
    let spot = c.spot_of-spot.result in
    let column = c.in-Some.column in
    let reads = map statement_read c.args.reads.now in
    on_ok_weaker c.put_cells.result
    (statement_put p at spot p.stacked column (length c.args.reads.now) c.in_ok-tested.tested reads
    (scalars_of c.in_ok-cells.cells) (map target c.as_slice.result.now) c.args.draft.now
    c.put_cells.new.draft c.spot_of-spot.ensures c.in-Some.is
    (sym (length-map statement_read c.args.reads.now)) c.in_ok-tested.ensures
    c.in_ok-cells.ensures
    (ap (λ (ts : List BoundTarget). map target ts) c.as_slice.ensures ∙ c.in_ok-targets.ensures))
    c.put_cells.ensures
