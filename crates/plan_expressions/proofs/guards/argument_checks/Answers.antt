use Rattle.plan_expressions.proofs.Checks.{checking_next, checking_done}
use Rattle.plan_expressions.proofs.guards.argument_checks.Goals as goal

pub loop-place-preserved : goal.loop-place-preserved
loop-place-preserved c = λ known.
    checking_next known c.args.arguments.now c.args.types.now c.args.first c.loop-place.place
    c.index-arguments-place.result c.may_refuse-refused.result c.in-Some.column
    c.loop-place.checks c.add_check.new.checks c.loop-place-test.true
    c.index-arguments-place.is c.may_refuse-refused.ensures c.in-Some.ensures.1
    c.in_ok-add_check.ensures (c.loop-place.invariant known)

pub returns : goal.returns
returns c = λ known. checking_done known c.args.arguments.now c.args.types.now c.args.first
    c.loop-place.place c.loop-place.checks c.loop-place-test.false (c.loop-place.invariant known)
