use Rattle.rel_algebra.specs.BodyDispatch.{matching}
use Rattle.rel_algebra.specs.BodySteps.{tag}
use Rattle.rel_algebra.specs.Tree.{SqlException}
use Rattle.plan_steps.proofs.Dispatching.{untaken_put}
use Rattle.plan_steps.proofs.dispatch.put_untaken.Goals as goal

pub returns : goal.returns
returns c =
    untaken_put c.args.arms.now c.push.new.self c.push-2.new.self c.push-3.new.self
    c.in_ok-test.test c.in_ok-tag.field-0 c.in_ok-tag-2.field-0
    (matching SqlException c.args.column) (tag c.args.out) (tag c.args.here)
    c.in_ok-test.ensures c.in_ok-tag.ensures c.in_ok-tag-2.ensures c.in_ok-push.ensures.ok
    c.in_ok-push-2.ensures.ok c.in_ok-push-3.ensures.ok
