use Rattle.std.proofs.Common.{ap, ◌∙◌}
use Rattle.plan_bodies.proofs.block.plan_asked.Goals as goal
use Rattle.rel_algebra.specs.Emissions.{asked_where}
use Rattle.rel_algebra.specs.Plan.{anew, apply, single}
use Rattle.rel_algebra.specs.PlanView.{scalar_of, tree_of}

pub returns : goal.returns
returns c =
    let when = scalar_of c.args.when in let inner = tree_of c.args.inner in
    let start = c.nodes_over-draft.ensures in
    record {
      nodes = c.into_nodes-nodes.ensures.kept (asked_where when single inner 0).nodes
          (c.in_ok-apply.ensures.tree ∙ ap (apply when single anew inner) start.tree);
      scalar = c.first_column.ensures;
    }
