use Rattle.std.proofs.Common.{◌∙◌}
use Rattle.rel_algebra.specs.declared.plan.Node.TheVariants.{Group}
use Rattle.rel_algebra.specs.PlanView.{leaf_of, with_nodes}
use Rattle.plan_expressions.proofs.Nodes.{one_after, with-Group}
use Rattle.plan_expressions.proofs.draft.Draft.group.Goals as goal

pub returns-clause-tree : goal.returns-clause-tree
returns-clause-tree c =
    let plan = c.args.self.now.plan in
    let input = leaf_of plan.leaf in
    one_after plan.nodes _ (Group c.args.places c.args.aggregates) input c.in_ok-push.ensures.ok ∙
    with-Group c.args.places c.args.aggregates (with_nodes plan.nodes input)
