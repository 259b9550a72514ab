use Rattle.std.proofs.Common.{map}
use Rattle.std.proofs.lemmas.Result.{on_ok_weaker}
use Rattle.rel_algebra.specs.BodyChain.{target_stores}
use Rattle.rel_algebra.specs.Emissions.{all_values}
use Rattle.rel_algebra.specs.Joins.{places}
use Rattle.rel_algebra.specs.PlanView.{scalar_of}
use Rattle.routine_views.specs.Views.{target}
use Rattle.plan_steps.specs.Places.{env_in}
use Rattle.plan_steps.specs.Steps.{stores_of}
use Rattle.plan_statements.proofs.Several.{targets_put}
use Rattle.plan_statements.proofs.storing.put_targets.Goals as goal

pub returns : goal.returns
returns c =
    let p = c.args.place.now in
    let spot = c.args.spot.now in
    on_ok_weaker c.judge.result
    (λ puts e tree. targets_put p spot c.args.nodes c.put_column.new.draft c.args.draft.now
    c.judge.new.draft (scalar_of c.in_ok-all_values.field-0)
    (all_values (places c.args.checked c.args.count)) (scalar_of c.in_ok-goes.goes) c.args.tested
    (stores_of c.in_ok-stores.stores) (target_stores (map target c.args.targets.now) (env_in p)
    spot.columns c.args.tested c.args.first) c.new-none.result e tree
    c.in_ok-put_column.ensures.tree c.in_ok-all_values.ensures c.in_ok-goes.ensures
    c.in_ok-stores.ensures c.new-none.ensures puts) c.judge.ensures
