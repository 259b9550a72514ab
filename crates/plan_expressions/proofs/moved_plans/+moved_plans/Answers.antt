use Rattle.std.proofs.Common.{ap, ◌∙◌}
use Rattle.rel_algebra.specs.Merged.{moved_tree}
use Rattle.rel_algebra.specs.declared.plan.Plan.{Plan}
use Rattle.rel_algebra.specs.PlanView.{tree_of}
use Rattle.plan_expressions.specs.Merging.{move_of}
use Rattle.plan_expressions.proofs.MovingPlans.{nodes_next, nodes_done, plan_moved, extend_moved}
use Rattle.plan_expressions.proofs.MovingPlans.{apply_moved, filter_moved, keep_moved, cross_moved}
use Rattle.plan_expressions.proofs.MovingPlans.{outer_moved, settle_moved, group_moved, sort_moved}
use Rattle.plan_expressions.proofs.moved_plans.+moved_plans.Goals as goal

pub moved_plan-returns : goal.moved_plan-returns
moved_plan-returns t c =
    plan_moved (move_of c.args.shift) c.args.depth c.args.plan.now _ c.in_ok-leaf.ensures
    (rw c.as_slice.ensures at c.in_ok-nodes.ensures)

pub moved_nodes-loop-node-preserved : goal.moved_nodes-loop-node-preserved
moved_nodes-loop-node-preserved t c =
    nodes_next (move_of c.args.shift) c.args.depth c.args.nodes.now c.loop-node.node-index
    c.node-item.result c.in_ok-copy.copy c.loop-node.moved c.push.new.self c.loop-node-test.true
    c.node-item.is c.in_ok-copy.ensures c.in_ok-push.ensures.ok c.loop-node.invariant

pub moved_nodes-returns : goal.moved_nodes-returns
moved_nodes-returns t c =
    nodes_done (move_of c.args.shift) c.args.depth c.args.nodes.now c.loop-node.node-index
    c.loop-node.moved c.loop-node-test.false c.loop-node.invariant

pub moved_node-returns-in_ok-scalars-in-Extend : goal.moved_node-returns-in_ok-scalars-in-Extend
moved_node-returns-in_ok-scalars-in-Extend t c =
    extend_moved (move_of c.args.shift) c.args.depth c.in-Some.row c.args.node.now
    c.in-Extend.scalars c.in_ok-scalars-in-Extend.scalars c.in-Some.ensures.1 c.in-Extend.is
    (rw c.as_slice.ensures at c.in_ok-scalars-in-Extend.ensures)

pub moved_node-returns-in_ok-kind-in-Apply : goal.moved_node-returns-in_ok-kind-in-Apply
moved_node-returns-in_ok-kind-in-Apply t c =
    apply_moved (move_of c.args.shift) c.args.depth c.in-Some.row c.args.node.now c.in-Apply.when
    c.in_ok-when-in-Apply.when c.in-Apply.kind c.in_ok-kind-in-Apply.kind c.in-Apply.inner
    c.in_ok-moved_plan-in-Apply.field-0 c.in_ok-inner-in-Apply.inner c.in-Some.ensures.1
    c.in-Apply.is c.in_ok-when-in-Apply.ensures c.in_ok-kind-in-Apply.ensures
    (c.in_ok-moved_plan-in-Apply.ensures ∙ ap
    (λ (p : Plan). moved_tree (move_of c.args.shift) c.in-Some.row (tree_of p)) c.get.ensures)
    c.in_ok-inner-in-Apply.ensures

pub moved_node-returns-in_ok-test-in-Filter : goal.moved_node-returns-in_ok-test-in-Filter
moved_node-returns-in_ok-test-in-Filter t c =
    filter_moved (move_of c.args.shift) c.args.depth c.in-Some.row c.args.node.now c.in-Filter.test
    c.in_ok-test-in-Filter.test c.in-Some.ensures.1 c.in-Filter.is c.in_ok-test-in-Filter.ensures

pub moved_node-returns-in_ok-copied-in-Keep : goal.moved_node-returns-in_ok-copied-in-Keep
moved_node-returns-in_ok-copied-in-Keep t c =
    keep_moved (move_of c.args.shift) c.args.depth c.args.node.now c.in-Keep.places
    c.in_ok-copied-in-Keep.field-0 c.in-Keep.is c.in_ok-copied-in-Keep.ensures

pub moved_node-returns-in_ok-right-in-Cross : goal.moved_node-returns-in_ok-right-in-Cross
moved_node-returns-in_ok-right-in-Cross t c =
    cross_moved (move_of c.args.shift) c.args.depth c.args.node.now c.in-Cross.right
    c.in_ok-moved_plan-in-Cross.field-0 c.in_ok-right-in-Cross.right c.in-Cross.is
    (c.in_ok-moved_plan-in-Cross.ensures ∙ ap
    (λ (p : Plan). moved_tree (move_of c.args.shift) c.args.depth (tree_of p))
    c.get-in-Cross.ensures) c.in_ok-right-in-Cross.ensures

pub moved_node-returns-in_ok-test-in-LeftOuter : goal.moved_node-returns-in_ok-test-in-LeftOuter
moved_node-returns-in_ok-test-in-LeftOuter t c =
    outer_moved (move_of c.args.shift) c.args.depth c.in-Some.row c.args.node.now
    c.in-LeftOuter.nodes c.in_ok-nodes-in-LeftOuter.nodes c.in-LeftOuter.test
    c.in_ok-test-in-LeftOuter.test
    c.in-LeftOuter.nulls c.in-LeftOuter.right c.in_ok-moved_plan-in-LeftOuter.field-0
    c.in_ok-right-in-LeftOuter.right c.in-Some.ensures.1 c.in-LeftOuter.is
    (rw c.as_slice-in-LeftOuter.ensures at c.in_ok-nodes-in-LeftOuter.ensures)
    c.in_ok-test-in-LeftOuter.ensures
    (c.in_ok-moved_plan-in-LeftOuter.ensures ∙
    ap (λ (p : Plan). moved_tree (move_of c.args.shift) c.args.depth (tree_of p))
    c.get-in-LeftOuter.ensures) c.in_ok-right-in-LeftOuter.ensures

pub moved_node-returns-in-Settle : goal.moved_node-returns-in-Settle
moved_node-returns-in-Settle t c = settle_moved (move_of c.args.shift) c.args.depth c.args.node.now
    c.in-Settle.is

pub moved_node-returns-in_ok-columns-in-Group : goal.moved_node-returns-in_ok-columns-in-Group
moved_node-returns-in_ok-columns-in-Group t c =
    group_moved (move_of c.args.shift) c.args.depth c.args.node.now c.in-Group.places
    c.in_ok-places-in-Group.places c.in-Group.columns c.in_ok-columns-in-Group.columns
    c.in-Group.is
    (c.in_ok-places-in-Group.ensures ∙ c.as_slice-in-Group.ensures)
    (c.in_ok-columns-in-Group.ensures ∙ c.as_slice-in-Group-2.ensures)

pub moved_node-returns-in_ok-from_slice-in-Sort : goal.moved_node-returns-in_ok-from_slice-in-Sort
moved_node-returns-in_ok-from_slice-in-Sort t c =
    sort_moved (move_of c.args.shift) c.args.depth c.args.node.now c.in-Sort.keys
    c.in_ok-from_slice-in-Sort.field-0 c.in-Sort.is (c.in_ok-from_slice-in-Sort.ensures ∙
    c.as_slice-in-Sort.ensures)
