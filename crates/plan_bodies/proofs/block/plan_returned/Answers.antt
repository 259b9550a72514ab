use Rattle.std.proofs.Common.{ap, ◌∙◌}
use Rattle.block_plans.specs.Callees.{width_in}
use Rattle.block_plans.specs.View.{expr_seen}
use Rattle.plan_bodies.proofs.block.plan_returned.Goals as goal
use Rattle.rel_algebra.specs.Emit.{Env, assigning, emit, top}
use Rattle.rel_algebra.specs.Plan.{on_each}

pub returns : goal.returns
returns c =
    let k = c.args.functions.now in
    let emission = λ (e : Env). emit (expr_seen k c.args.returned.now) (width_in k) e in
    let start = c.nodes_over-draft.ensures in let emits = c.in_ok-value.ensures in
    let e = c.top-scope.ensures in
    record {
      nodes = c.into_nodes-nodes.ensures.kept (emission (top c.args.parameters) 0).nodes
          (emits.tree ∙ (λ j. on_each (emission (e j) (start.width j)).nodes (start.tree j)));
      scalar = c.in_ok-scalar.ensures ∙ ap (assigning c.args.returns)
          (emits.scalar ∙ (λ j. (emission (e j) (start.width j)).scalar));
    }
