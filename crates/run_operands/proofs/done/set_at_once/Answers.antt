use Rattle.run_operands.proofs.Given.{set_ends}
use Rattle.run_operands.proofs.done.set_at_once.Goals as goal

pub returns-in-Some-clause-done : goal.returns-in-Some-clause-done
returns-in-Some-clause-done c h =
    set_ends c.args.target.now c.args.expr.now c.args.frame.now c.set.new.self
    c.complete.new.self c.in-Some.value c.value_for.result c.in-Some.is c.value_for.ensures
    c.set.ensures c.complete.ensures
