use Rattle.std.proofs.lemmas.Result.{IfOk-weaker}
use Rattle.rel_algebra.specs.PlanView.{scalar_of}
use Rattle.plan_statements.proofs.Single.{again_text, again_whole}
use Rattle.plan_statements.proofs.simple.same_state.Goals as goal

pub returns-in-Some : goal.returns-in-Some
returns-in-Some c =
    IfOk-weaker c.retexted.result _ _
    (λ s h known. again_text known c.args.message.now _ (scalar_of c.args.text) (scalar_of s)
    c.args.column c.in-Some.is h) c.retexted.ensures

pub returns-in-None : goal.returns-in-None
returns-in-None c =
    IfOk-weaker c.on_column.result _ _
    (λ s h known. again_whole known c.args.message.now (scalar_of c.args.text) (scalar_of s)
    c.args.column c.in-None.is h) c.on_column.ensures
