use Rattle.run_operands.proofs.Given.{set_done}
use Rattle.run_operands.proofs.done.done_at_once.Goals as goal

pub returns-in-Set-clause-done : goal.returns-in-Set-clause-done
returns-in-Set-clause-done c h =
    set_done c.args.stmt.now c.in-Set.target c.in-Set.expr c.args.frame.now
    c.set_at_once.new.frame c.in-Set.is (c.set_at_once.ensures.done h)
