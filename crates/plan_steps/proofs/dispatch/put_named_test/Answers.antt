use Rattle.rel_algebra.specs.BodyDispatch.{named_tests}
use Rattle.plan_steps.proofs.Dispatching.{named_State, test_put}
use Rattle.plan_steps.proofs.dispatch.put_named_test.Goals as goal

pub returns-in_ok-push-in-State : goal.returns-in_ok-push-in-State
returns-in_ok-push-in-State c others =
    test_put c.args.tests.now c.push.new.self c.in_ok-matching-in-State.field-0
    (named_tests others c.args.column) _ c.in_ok-push-in-State.ensures.ok
    (named_State c.args.value.now c.in-State.field-0 c.args.column
    c.in_ok-matching-in-State.field-0 others c.in-State.is c.in_ok-matching-in-State.ensures)
