use Rattle.rel_algebra.specs.BodySteps.{guarded}
use Rattle.plan_steps.specs.Steps.{stores_of}
use Rattle.plan_steps.proofs.Stores.{guarded_next, guarded_done}
use Rattle.plan_steps.proofs.step.guarded.Goals as goal

pub loop-store-preserved : goal.loop-store-preserved
loop-store-preserved c =
    guarded_next c.loop-store.scalars c.push.new.self c.loop-store.left c.pop.new.self
    c.in-Some.store c.in_ok-guarded_one.field-0 c.args.code
    (guarded c.args.code (stores_of c.args.stores)) c.in-Some.ensures
    c.in_ok-guarded_one.ensures c.in_ok-push.ensures.ok c.loop-store.invariant

pub returns : goal.returns
returns c = guarded_done c.loop-store.scalars c.loop-store.left c.args.code
    (guarded c.args.code (stores_of c.args.stores)) c.in_default.ensures.0 c.loop-store.invariant
