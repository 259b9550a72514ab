use Rattle.rel_algebra.specs.Emit.{checks_of}
use Rattle.rel_algebra.specs.PlanView.{scalars_of}
use Rattle.plan_expressions.proofs.Asking.{checks_next, checks_done}
use Rattle.plan_expressions.proofs.asked.value_checks.Goals as goal

pub loop-scalar-preserved : goal.loop-scalar-preserved
loop-scalar-preserved c =
    checks_next c.loop-scalar.checks c.push.new.self c.loop-scalar.left c.pop.new.self
    c.in-Some.scalar c.in_ok-check_of.field-0 (checks_of (scalars_of c.args.list))
    c.in-Some.ensures c.in_ok-check_of.ensures c.in_ok-push.ensures.ok c.loop-scalar.invariant

pub returns : goal.returns
returns c = checks_done c.loop-scalar.checks c.loop-scalar.left (checks_of (scalars_of c.args.list))
    c.in_default.ensures.0 c.loop-scalar.invariant
