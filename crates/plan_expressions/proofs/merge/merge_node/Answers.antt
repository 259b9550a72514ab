use Rattle.std.proofs.Common.{[], Option, subst, IsSome}
use Rattle.rel_algebra.specs.Plan.{Nodes}
use Rattle.plan_expressions.specs.Merging.{move_of}
use Rattle.plan_expressions.proofs.Moving.{extend_next, apply_next}
use Rattle.plan_expressions.proofs.Running.{no_run}
use Rattle.plan_expressions.proofs.merge.merge_node.Goals as goal

pub returns-in_ok-extend-in-Extend : goal.returns-in_ok-extend-in-Extend
returns-in_ok-extend-in-Extend c =
    extend_next (move_of c.args.shift) c.args.node.now c.in-Extend.scalars
    c.in_ok-scalars-in-Extend.scalars c.args.draft.now c.extend.new.self c.in-Extend.is
    (rw c.as_slice.ensures at c.in_ok-scalars-in-Extend.ensures)
    c.in_ok-extend-in-Extend.ensures.tree c.in_ok-extend-in-Extend.ensures.width

pub returns-in_ok-apply-in-Apply : goal.returns-in_ok-apply-in-Apply
returns-in_ok-apply-in-Apply c =
    apply_next (move_of c.args.shift) c.args.node.now c.in-Apply.when c.in_ok-when-in-Apply.when
    c.in-Apply.kind c.in_ok-kind-in-Apply.kind c.in-Apply.inner c.get.result.now
    c.in_ok-inner-in-Apply.inner c.args.draft.now c.apply.new.self c.in-Apply.is c.get.ensures
    c.in_ok-when-in-Apply.ensures c.in_ok-kind-in-Apply.ensures c.in_ok-inner-in-Apply.ensures
    c.in_ok-apply-in-Apply.ensures.tree c.in_ok-apply-in-Apply.ensures.width

pub unreachable-requires : goal.unreachable-requires
unreachable-requires c =
    let never = subst (λ (o : Option Nodes). IsSome o)
    (no_run c.args.node.now [] c.in_default.not-Extend c.in_default.not-Apply) c.requires in
    cc
