use Rattle.std.proofs.Common.{refl}
use Rattle.std.proofs.lemmas.Result.{on_ok_weaker}
use Rattle.rel_algebra.specs.PlanView.{scalar_of}
use Rattle.plan_steps.specs.Steps.{stores_of}
use Rattle.plan_steps.proofs.Acting.{go_put}
use Rattle.plan_steps.proofs.step.go.Goals as goal

pub returns : goal.returns
returns c =
    on_ok_weaker c.act.result
    (go_put c.args.code c.args.columns (scalar_of c.args.target) (scalar_of c.args.target)
    (stores_of c.in_ok-stores.stores) c.new.result c.nodes_over-nodes.result c.args.draft.now
    c.act.new.draft c.nodes_over-nodes.ensures.tree c.in_ok-stores.ensures c.new.ensures refl)
    c.act.ensures
