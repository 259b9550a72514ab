use Rattle.std.proofs.Common.{◌∙◌, map}
use Rattle.std.proofs.lemmas.Result.{on_ok_weaker}
use Rattle.rel_algebra.specs.BodyDispatch.{general_arms}
use Rattle.plan_steps.specs.Places.{aimed_by, coded_in}
use Rattle.plan_steps.proofs.dispatch.put_scope.Goals as goal

pub returns : goal.returns
returns c =
    on_ok_weaker c.put_general.result
    (λ puts known outer left. puts known outer left ∙
    c.in_ok-put_named.ensures known outer (general_arms (aimed_by c.args.aim)
    (map (coded_in known outer) c.args.handlers.now) c.args.first c.args.column left))
    c.put_general.ensures
