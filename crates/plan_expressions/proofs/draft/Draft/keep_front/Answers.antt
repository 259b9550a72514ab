use Rattle.std.proofs.Common.{ap, ◌∙◌}
use Rattle.rel_algebra.specs.declared.plan.Node.TheVariants.{Keep}
use Rattle.rel_algebra.specs.Plan.{keep}
use Rattle.rel_algebra.specs.PlanView.{leaf_of, with_nodes}
use Rattle.plan_expressions.proofs.Nodes.{one_after, with-Keep}
use Rattle.plan_expressions.proofs.draft.Draft.keep_front.Goals as goal

pub returns-clause-tree : goal.returns-clause-tree
returns-clause-tree c =
    let plan = c.args.self.now.plan in
    let input = leaf_of plan.leaf in
    one_after plan.nodes _ (Keep c.front.result) input c.in_ok-push.ensures.ok
    ∙ with-Keep c.front.result (with_nodes plan.nodes input)
    ∙ ap (λ is. keep is (with_nodes plan.nodes input)) c.front.ensures
