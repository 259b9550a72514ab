use Rattle.std.proofs.Common.{◌∙◌, ap, Some}
use Rattle.run_operands.proofs.Given.{is_taken}
use Rattle.run_operands.proofs.done.value_for.Goals as goal

pub returns-in-Some-Ok : goal.returns-in-Some-Ok
returns-in-Some-Ok c =
    is_taken c.args.to c.args.expr.now c.in-Some-Ok.value c.args.frame.now c.at_once.result
    c.taken.result (c.in-Some-Ok.is ∙ ap Some c.in-Some-Ok.field-0-is) c.at_once.ensures
    c.taken.ensures
