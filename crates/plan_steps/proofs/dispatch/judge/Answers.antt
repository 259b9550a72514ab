use Rattle.std.proofs.Common.{refl, suc}
use Rattle.std.proofs.lemmas.Result.{on_ok_weaker}
use Rattle.plan_steps.specs.Steps.{stores_of}
use Rattle.plan_steps.proofs.Acting.{acted_as}
use Rattle.plan_steps.proofs.dispatch.judge.Goals as goal

pub returns : goal.returns
returns c =
    let spot = c.args.spot.now in
    on_ok_weaker c.act.result
    (λ puts e tree. acted_as spot.from spot.columns c.in_ok-wide.wide (suc c.args.column) e
    (stores_of c.in_ok-stores.stores) _ c.args.extra c.args.extra c.args.draft.now c.act.new.draft
    c.in_ok-wide.ensures c.in_ok-stores.ensures refl (puts e tree)) c.act.ensures
