use Rattle.std.proofs.Common.{ap, ◌∙◌}
use Rattle.rel_algebra.specs.declared.plan.Node.TheVariants.{Apply}
use Rattle.rel_algebra.specs.Plan.{apply, anew}
use Rattle.rel_algebra.specs.PlanView.{leaf_of, with_nodes, tree_of, scalar_of, kind_of}
use Rattle.plan_expressions.proofs.Nodes.{one_after, with-Apply}
use Rattle.plan_expressions.proofs.draft.Draft.apply.Goals as goal

pub returns-clause-tree : goal.returns-clause-tree
returns-clause-tree c =
    let plan = c.args.self.now.plan in
    let input = with_nodes plan.nodes (leaf_of plan.leaf) in
    one_after plan.nodes _ (Apply c.args.when c.args.kind c.in_ok-inner.inner) (leaf_of plan.leaf)
    c.in_ok-push.ensures.ok
    ∙ with-Apply c.args.when c.args.kind c.in_ok-inner.inner input
    ∙ ap (λ p. apply (scalar_of c.args.when) (kind_of c.args.kind) anew (tree_of p) input)
    c.in_ok-inner.ensures
