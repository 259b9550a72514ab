use Rattle.plan_bodies.proofs.Parameters.{three_put}
use Rattle.plan_bodies.proofs.inline.put_raised.Goals as goal
use Rattle.rel_algebra.specs.BodyChain.{raised_area, without_return_cell}
use Rattle.rel_algebra.specs.BodySteps.{code_is}

pub returns : goal.returns
returns c =
    three_put c.args.arms.now c.push.new.self c.push-2.new.self c.push-3.new.self
    c.in_ok-code_is.field-0 c.in_ok-raised_area.field-0 c.in_ok-pushing.field-0 (code_is 1)
    raised_area without_return_cell c.in_ok-code_is.ensures c.in_ok-raised_area.ensures
    c.in_ok-pushing.ensures c.in_ok-push.ensures.ok c.in_ok-push-2.ensures.ok
    c.in_ok-push-3.ensures.ok
