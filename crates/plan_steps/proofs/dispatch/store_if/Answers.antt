use Rattle.std.proofs.Common.{ap}
use Rattle.rel_algebra.specs.BodySteps.{store}
use Rattle.plan_steps.proofs.Stores.{stores_last}
use Rattle.plan_steps.proofs.dispatch.store_if.Goals as goal

pub returns : goal.returns
returns c = stores_last c.args.stores.now c.push.new.self _ _ c.in_ok-push.ensures.ok
    (ap (store c.args.column) c.in_ok-new.ensures)
