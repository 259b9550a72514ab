use Rattle.std.proofs.lemmas.Result.{on_ok_weaker}
use Rattle.rel_algebra.specs.BodySteps.{tag}
use Rattle.plan_steps.specs.Steps.{stores_of}
use Rattle.rel_algebra.specs.PlanView.{scalar_of}
use Rattle.plan_statements.proofs.Single.{value_put}
use Rattle.plan_statements.proofs.simple.put_value.Goals as goal

pub returns : goal.returns
returns c =
    on_ok_weaker c.judge.result
    (λ puts e tree. value_put c.args.place.now c.args.spot.now e c.args.column c.args.stored
    (scalar_of c.in_ok-goes.goes) (tag c.args.code) (stores_of c.in_ok-stores.stores)
    c.new-none.result c.args.draft.now c.judge.new.draft c.in_ok-goes.ensures
    c.in_ok-stores.ensures c.new-none.ensures (puts e tree)) c.judge.ensures
