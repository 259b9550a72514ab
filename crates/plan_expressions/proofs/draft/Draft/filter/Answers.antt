use Rattle.std.proofs.Common.{◌∙◌}
use Rattle.rel_algebra.specs.declared.plan.Node.TheVariants.{Filter}
use Rattle.rel_algebra.specs.PlanView.{leaf_of, with_nodes}
use Rattle.plan_expressions.proofs.Nodes.{one_after, with-Filter}
use Rattle.plan_expressions.proofs.draft.Draft.filter.Goals as goal

pub returns-clause-tree : goal.returns-clause-tree
returns-clause-tree c =
    let plan = c.args.self.now.plan in
    let input = leaf_of plan.leaf in
    one_after plan.nodes _ (Filter c.args.test) input c.in_ok-push.ensures.ok ∙
    with-Filter c.args.test (with_nodes plan.nodes input)
