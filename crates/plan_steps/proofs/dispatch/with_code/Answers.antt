use Rattle.plan_steps.proofs.Stores.{stores_two}
use Rattle.plan_steps.proofs.dispatch.with_code.Goals as goal

pub returns : goal.returns
returns c = stores_two c.args.stores c.push.new.self c.push-2.new.self _ _
    c.in_ok-push.ensures.ok c.in_ok-push-2.ensures.ok
