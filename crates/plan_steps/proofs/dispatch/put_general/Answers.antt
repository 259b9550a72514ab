use Rattle.std.proofs.Common.{◌∙◌, List, ap, map, refl}
use Rattle.bound_trees.specs.declared.condition.BoundConditionValue.{BoundConditionValue}
use Rattle.rel_algebra.specs.BodyDispatch.{general_arms, general_tests}
use Rattle.routine_views.specs.Views.{condition_value}
use Rattle.plan_steps.specs.Places.{aimed_by}
use Rattle.plan_steps.proofs.Dispatching.{arms_next, arms_done}
use Rattle.plan_steps.proofs.dispatch.put_general.Goals as goal

pub loop-handler-preserved : goal.loop-handler-preserved
loop-handler-preserved c known outer left =
    arms_next (λ vs. general_tests vs c.args.column) (aimed_by c.args.aim)
    (λ hs n others. general_arms (aimed_by c.args.aim) hs n c.args.column others)
    (λ h hs n others. refl) known outer c.args.handlers.now c.loop-handler.handler-index
    c.loop-handler.own c.in_ok-own.own c.aimed.result c.handler-item.result c.in_ok-tests.tests
    c.loop-handler.arms c.put_arm.new.arms left _ c.loop-handler-test.true c.handler-item.is
    (c.in_ok-tests.ensures ∙ ap (λ (vs : List BoundConditionValue). general_tests
    (map condition_value vs) c.args.column) c.as_slice.ensures) c.aimed.ensures
    c.in_ok-own.ensures c.in_ok-put_arm.ensures
    (c.loop-handler.invariant known outer left)

pub returns : goal.returns
returns c known outer left =
    arms_done (λ hs n others. general_arms (aimed_by c.args.aim) hs n c.args.column others)
    (λ n others. refl) known outer c.args.handlers.now c.loop-handler.handler-index
    c.loop-handler.own c.loop-handler.arms left _ c.loop-handler-test.false
    (c.loop-handler.invariant known outer left)
