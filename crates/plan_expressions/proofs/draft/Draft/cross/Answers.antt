use Rattle.std.proofs.Common.{ap, ◌∙◌}
use Rattle.rel_algebra.specs.declared.plan.Node.TheVariants.{Cross}
use Rattle.rel_algebra.specs.Plan.{cross}
use Rattle.rel_algebra.specs.PlanView.{leaf_of, with_nodes, tree_of}
use Rattle.plan_expressions.proofs.Nodes.{one_after, with-Cross}
use Rattle.plan_expressions.proofs.draft.Draft.cross.Goals as goal

pub returns-clause-tree : goal.returns-clause-tree
returns-clause-tree c =
    let plan = c.args.self.now.plan in
    let left = with_nodes plan.nodes (leaf_of plan.leaf) in
    one_after plan.nodes _ (Cross c.in_ok-right.right) (leaf_of plan.leaf) c.in_ok-push.ensures.ok ∙
    with-Cross c.in_ok-right.right left
    ∙ ap (λ p. cross left (tree_of p)) c.in_ok-right.ensures ∙
    ap (λ t. cross left t) c.into_plan.ensures
