use Rattle.std.proofs.lemmas.Result.{on_ok_weaker}
use Rattle.rel_algebra.specs.PlanView.{run_of}
use Rattle.plan_steps.specs.Steps.{stores_of}
use Rattle.plan_steps.proofs.Acting.{stored_put}
use Rattle.plan_steps.proofs.step.put_stored.Goals as goal

pub returns : goal.returns
returns c =
    on_ok_weaker c.store_at.result
    (λ h e tree. stored_put c.args.code e (run_of c.into_nodes.result) (stores_of c.args.stores)
    c.args.kept c.args.draft.now c.put_nodes.new.draft c.store_at.new.draft
    (c.into_nodes.ensures.run e tree) c.in_ok-put_nodes.ensures h) c.store_at.ensures
