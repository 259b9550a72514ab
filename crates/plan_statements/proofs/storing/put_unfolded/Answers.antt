use Rattle.std.proofs.Common.{ap, map, take}
use Rattle.std.proofs.lemmas.Result.{on_ok_weaker}
use Rattle.rel_algebra.specs.BodyChain.{into_asked}
use Rattle.rel_algebra.specs.Plan.{PlanTree}
use Rattle.routine_views.specs.Views.{target}
use Rattle.plan_steps.specs.Places.{codes_of, env_in}
use Rattle.plan_steps.proofs.Stepping.{puts_as}
use Rattle.plan_statements.proofs.storing.put_unfolded.Goals as goal

pub returns : goal.returns
returns c =
    let p = c.args.place.now in
    let at = c.args.at in
    on_ok_weaker c.put_asked.result
    (puts_as c.args.draft.now c.put_asked.new.draft _ _
    (ap (λ (x : PlanTree). take 1 (into_asked x (map target c.args.targets.now) (codes_of p)
    (env_in p) at.here at.next at.columns)) c.in_ok-inner.ensures)) c.put_asked.ensures
