use Rattle.std.proofs.Common.{ap, ◌∙◌}
use Rattle.rel_algebra.specs.declared.plan.Node.TheVariants.{LeftOuter}
use Rattle.rel_algebra.specs.Plan.{PlanTree, left_outer}
use Rattle.rel_algebra.specs.PlanView.{leaf_of, with_nodes, tree_of, run_of, scalar_of}
use Rattle.plan_expressions.proofs.Nodes.{one_after, with-LeftOuter}
use Rattle.plan_expressions.proofs.draft.Draft.left_outer.Goals as goal

pub returns-clause-tree : goal.returns-clause-tree
returns-clause-tree c =
    let plan = c.args.self.now.plan in
    let left = with_nodes plan.nodes (leaf_of plan.leaf) in
    let n = c.args.right.columns in
    let over = λ (t : PlanTree). left_outer (run_of c.args.nodes) (scalar_of c.args.test) n left t
    in
    one_after plan.nodes _ (LeftOuter c.args.nodes c.args.test n c.in_ok-right.right)
    (leaf_of plan.leaf) c.in_ok-push.ensures.ok
    ∙ with-LeftOuter c.args.nodes c.args.test n c.in_ok-right.right left ∙
    ap (λ p. over (tree_of p)) c.in_ok-right.ensures ∙ ap over c.into_plan.ensures
