use Rattle.std.proofs.lemmas.Result.{IfOk-weaker}
use Rattle.rel_algebra.specs.PlanView.{scalar_of}
use Rattle.plan_expressions.proofs.Laws.{scalar_of-Column}
use Rattle.plan_steps.specs.Places.{perhaps_in}
use Rattle.plan_statements.proofs.Single.{again_as, again_state}
use Rattle.plan_statements.proofs.simple.again.Goals as goal

pub returns-in-Some : goal.returns-in-Some
returns-in-Some c =
    IfOk-weaker c.push.result _ _
    (λ s h known. again_state c.args.signal.now.state c.in-Some.state
    (perhaps_in known c.args.signal.now.message) (scalar_of c.args.text) _ (scalar_of s)
    c.args.column c.in-Some.is (scalar_of-Column 0 c.args.column) h) c.push.ensures

pub returns-in-None : goal.returns-in-None
returns-in-None c =
    IfOk-weaker c.same_state.result _ _
    (λ s h known. again_as c.args.signal.now.state (perhaps_in known c.args.signal.now.message)
    (scalar_of c.args.text) (scalar_of s) c.args.column c.in-None.is (h known))
    c.same_state.ensures
