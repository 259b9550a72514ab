use Rattle.std.proofs.Common.{ap, ◌∙◌}
use Rattle.rel_algebra.specs.Plan.{on_each}
use Rattle.rel_algebra.specs.PlanView.{scalar_of}
use Rattle.rel_algebra.specs.Emit.{Env, Emitted, assigning, emit, top}
use Rattle.catalog_store.specs.View.{tree_of}
use Rattle.catalog_store.specs.Widths.{width_in}
use Rattle.plan_expressions.specs.Scopes.{env_of}
use Rattle.plan_queries.proofs.Calling.{alone_emits}
use Rattle.plan_queries.proofs.functions.plan_function.Goals as goal

pub returns : goal.returns
returns c = λ types.
    let k = c.args.catalog.now in
    let emission = λ (e : Env). emit (tree_of k c.args.returned.now) (width_in k) e in
    let start = c.over-draft.ensures in
    let emits = alone_emits c.of-functions.result k c.args.returned.now (env_of c.top-scope.result)
    c.over-draft.result c.emit_expr.new.draft (scalar_of c.in_ok-value.value) c.of-functions.ensures
    c.in_ok-value.ensures in
    let e = c.top-scope.ensures in
    record {
      nodes = c.into_nodes-nodes.ensures.kept (emission (top c.args.parameters) 0).nodes
          (emits.tree ∙ (λ j. on_each (emission (e j) (start.width j)).nodes (start.tree j)));
      scalar = c.in_ok-scalar.ensures ∙ ap (assigning c.args.returns)
          (emits.scalar ∙ (λ j. (emission (e j) (start.width j)).scalar));
    }
