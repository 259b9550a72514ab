use Rattle.std.proofs.Common.{ℕ, subst}
use Rattle.rel_algebra.specs.Merged.{moved}
use Rattle.rel_algebra.specs.PlanView.{scalar_of}
use Rattle.plan_expressions.specs.Emission.{Emits}
use Rattle.plan_expressions.specs.Merging.{move_of}
use Rattle.plan_expressions.proofs.Moving.{merging_next, node_adds, merging_done}
use Rattle.plan_expressions.proofs.merge.merge.Goals as goal

pub merge_node-requires : goal.merge_node-requires
merge_node-requires c =
    node_adds (move_of (record { by = c.columns.result; from = c.args.first }))
    c.args.plan.now.nodes c.loop-node.node-index c.node-item.result
    c.args.draft.now c.loop-node.draft (rw c.as_slice-node-items.ensures at c.loop-node-test.true)
    (rw c.as_slice-node-items.ensures at c.node-item.is) c.requires
    c.loop-node.invariant

pub loop-node-preserved : goal.loop-node-preserved
loop-node-preserved c =
    merging_next (move_of (record { by = c.columns.result; from = c.args.first }))
    c.args.plan.now.nodes c.loop-node.node-index c.node-item.result
    c.args.draft.now c.loop-node.draft c.merge_node.new.draft
    (rw c.as_slice-node-items.ensures at c.loop-node-test.true)
    (rw c.as_slice-node-items.ensures at c.node-item.is) c.in_ok-merge_node.ensures
    c.loop-node.invariant

pub returns : goal.returns
returns c = λ e is.
    subst (λ (by : ℕ). Emits c.args.draft.now c.loop-node.draft
    (scalar_of c.in_ok-moved_scalar.field-0)
    (moved (record { by = by; from = c.args.first }) 0 e)) c.columns.ensures
    (merging_done (move_of (record { by = c.columns.result; from = c.args.first }))
    c.args.plan.now.nodes c.loop-node.node-index c.args.draft.now c.loop-node.draft
    (scalar_of c.in_ok-moved_scalar.field-0) e
    (rw c.as_slice-node-items.ensures at c.loop-node-test.false) c.loop-node.invariant is.nodes
    (rw is.scalar at c.in_ok-moved_scalar.ensures))
