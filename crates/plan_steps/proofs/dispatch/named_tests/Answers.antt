use Rattle.std.proofs.Common.{refl}
use Rattle.rel_algebra.specs.BodyDispatch.{named_tests}
use Rattle.plan_steps.proofs.Dispatching.{tests_done, tests_next}
use Rattle.plan_steps.proofs.dispatch.named_tests.Goals as goal

pub loop-value-preserved : goal.loop-value-preserved
loop-value-preserved c =
    tests_next (λ vs. named_tests vs c.args.column) c.loop-value.tests c.put_named_test.new.tests
    c.args.values.now c.loop-value.value-index c.value-item.result _ c.loop-value-test.true
    c.value-item.is c.in_ok-put_named_test.ensures c.loop-value.invariant

pub returns : goal.returns
returns c = tests_done (λ vs. named_tests vs c.args.column) c.loop-value.tests c.args.values.now
    c.loop-value.value-index _ c.loop-value-test.false refl c.loop-value.invariant
