use Rattle.std.proofs.Common.{◌∙◌}
use Rattle.rel_algebra.specs.declared.plan.Node.TheVariants.{Extend}
use Rattle.rel_algebra.specs.PlanView.{leaf_of, with_nodes}
use Rattle.plan_expressions.proofs.Nodes.{one_after, with-Extend}
use Rattle.plan_expressions.proofs.draft.Draft.extend.Goals as goal

pub returns-clause-tree : goal.returns-clause-tree
returns-clause-tree c =
    let plan = c.args.self.now.plan in
    let input = leaf_of plan.leaf in
    one_after plan.nodes _ (Extend c.args.scalars) input c.in_ok-push.ensures.ok ∙
    with-Extend c.args.scalars (with_nodes plan.nodes input)
