use Rattle.std.proofs.Common.{[], refl, suc}
use Rattle.std.proofs.lemmas.Result.{on_ok_weaker}
use Rattle.rel_algebra.specs.BodySteps.{case_of, col, tag}
use Rattle.rel_algebra.specs.PlanView.{scalar_of}
use Rattle.plan_steps.specs.Places.{env_in, leaf_in, widths_in}
use Rattle.plan_steps.specs.Steps.{stores_of}
use Rattle.plan_statements.specs.Statements.{test_by}
use Rattle.plan_statements.proofs.Single.{column_judged, stores_none}
use Rattle.plan_statements.proofs.choices.put_test.Goals as goal

pub returns : goal.returns
returns c =
    let p = c.args.place.now in
    let free = c.args.free in
    on_ok_weaker c.judge.result
    (column_judged p c.args.spot.now (test_by c.args.operand (leaf_in p.functions.now
    c.args.test.now) (widths_in p) (env_in p)) c.nodes_over-nodes.result c.emit_test.new.nodes
    c.put_column.new.draft c.args.draft.now c.judge.new.draft c.in_ok-scalar.scalar (λ x. x)
    (scalar_of c.in_ok-scalar.scalar) (λ t. case_of (col t) (tag free) (tag (suc free)))
    (λ t. []) (stores_of c.new-stores.result) c.new-none.result (scalar_of c.in_ok-goes.goes)
    c.in_ok-column.column c.nodes_over-nodes.ensures.tree c.nodes_over-nodes.ensures.width
    c.in_ok-scalar.ensures refl c.in_ok-column.ensures.place c.in_ok-column.ensures.tree
    c.in_ok-goes.ensures (stores_none c.new-stores.result c.new-stores.ensures)
    c.new-none.ensures) c.judge.ensures
