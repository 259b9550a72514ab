use Rattle.rel_algebra.specs.declared.scalar.ListWord.TheVariants as listed
use Rattle.rel_algebra.specs.declared.scalar.Scalar.TheVariants as scalar
use Rattle.plan_expressions.proofs.Laws.{scalar_of-Listed}
use Rattle.plan_steps.proofs.Dispatching.{arm_put}
use Rattle.plan_steps.proofs.dispatch.put_arm.Goals as goal

pub returns : goal.returns
returns c left =
    arm_put c.args.tests c.args.arms.now c.push.new.self c.push-2.new.self
    (scalar.Listed listed.Or c.args.tests) c.in_ok-code.code c.args.to left
    (λ h. let never = c.if-is_empty.ensures.1 h in cc) (scalar_of-Listed listed.Or c.args.tests)
    c.in_ok-code.ensures c.in_ok-push.ensures.ok c.in_ok-push-2.ensures.ok
