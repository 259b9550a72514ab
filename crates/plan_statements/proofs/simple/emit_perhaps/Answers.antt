use Rattle.std.proofs.lemmas.Result.{IfOk-weaker}
use Rattle.rel_algebra.specs.PlanView.{scalar_of}
use Rattle.plan_statements.proofs.Several.{empty_emits, given_emits}
use Rattle.plan_statements.proofs.simple.emit_perhaps.Goals as goal

pub returns-in-Some : goal.returns-in-Some
returns-in-Some c =
    given_emits c.args.place.now.functions.now c.args.expr.now c.in-Some.expr c.args.place.now
    c.args.nodes.now c.emit_value.new.nodes c.emit_value.result c.in-Some.is c.emit_value.ensures

pub returns-in-None : goal.returns-in-None
returns-in-None c =
    IfOk-weaker c.empty_text.result _ _
    (λ s h. empty_emits c.args.place.now.functions.now c.args.expr.now c.args.place.now
    c.args.nodes.now (scalar_of s) c.in-None.is h) c.empty_text.ensures
