use Rattle.rel_algebra.specs.BodyDispatch.{general_tests}
use Rattle.plan_steps.proofs.Dispatching.{general_NotFound, general_SqlException}
use Rattle.plan_steps.proofs.Dispatching.{general_SqlWarning, test_put}
use Rattle.plan_steps.proofs.dispatch.put_general_test.Goals as goal

pub returns-in_ok-push-in-SqlException : goal.returns-in_ok-push-in-SqlException
returns-in_ok-push-in-SqlException c others =
    test_put c.args.tests.now c.push.new.self c.in_ok-matching-in-SqlException.field-0
    (general_tests others c.args.column) _ c.in_ok-push-in-SqlException.ensures.ok
    (general_SqlException c.args.value.now c.args.column c.in_ok-matching-in-SqlException.field-0 others
    c.in-SqlException.is c.in_ok-matching-in-SqlException.ensures)

pub returns-in_ok-push-in-SqlWarning : goal.returns-in_ok-push-in-SqlWarning
returns-in_ok-push-in-SqlWarning c others =
    test_put c.args.tests.now c.push-in-SqlWarning.new.self c.in_ok-matching-in-SqlWarning.field-0
    (general_tests others c.args.column) _ c.in_ok-push-in-SqlWarning.ensures.ok
    (general_SqlWarning c.args.value.now c.args.column c.in_ok-matching-in-SqlWarning.field-0 others
    c.in-SqlWarning.is c.in_ok-matching-in-SqlWarning.ensures)

pub returns-in_ok-push-in-NotFound : goal.returns-in_ok-push-in-NotFound
returns-in_ok-push-in-NotFound c others =
    test_put c.args.tests.now c.push-in-NotFound.new.self c.in_ok-matching-in-NotFound.field-0
    (general_tests others c.args.column) _ c.in_ok-push-in-NotFound.ensures.ok
    (general_NotFound c.args.value.now c.args.column c.in_ok-matching-in-NotFound.field-0 others
    c.in-NotFound.is c.in_ok-matching-in-NotFound.ensures)
