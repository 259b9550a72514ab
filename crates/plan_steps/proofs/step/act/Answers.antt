use Rattle.std.proofs.Common.{◌++◌, ◌∙◌, ap}
use Rattle.std.proofs.lemmas.Result.{on_ok_weaker}
use Rattle.rel_algebra.specs.BodySteps.{placed}
use Rattle.rel_algebra.specs.Joins.{places}
use Rattle.plan_steps.specs.Steps.{stores_of}
use Rattle.plan_steps.specs.declared.step.Store.{Store}
use Rattle.std.proofs.Common.{List}
use Rattle.plan_steps.proofs.Acting.{act_put}
use Rattle.plan_steps.proofs.step.act.Goals as goal

pub returns : goal.returns
returns c =
    on_ok_weaker c.put_stored.result
    (λ h e tree. act_put c.args.code c.args.first c.args.columns e (stores_of c.args.stores)
    c.in_ok-kept.kept c.args.extra c.args.draft.now c.put_stored.new.draft
    (c.in_ok-kept.ensures ∙ ap (λ (ss : List Store). placed (stores_of ss) c.args.first
    (places 0 c.args.columns) ++ c.args.extra) c.as_slice.ensures) (h e tree))
    c.put_stored.ensures
