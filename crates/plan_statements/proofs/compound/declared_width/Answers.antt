use Rattle.plan_statements.proofs.Declaring.{width_done, width_next}
use Rattle.plan_statements.proofs.compound.declared_width.Goals as goal

pub loop-group-preserved : goal.loop-group-preserved
loop-group-preserved c known =
    width_next known c.args.variables.now c.loop-group.group-index c.group-item.result
    c.loop-group.wide c.in_ok-wide.wide _ c.loop-group-test.true c.group-item.is
    c.in_ok-wide.ensures (c.loop-group.invariant known)

pub returns : goal.returns
returns c known =
    width_done known c.args.variables.now c.loop-group.group-index c.loop-group.wide _
    c.loop-group-test.false (c.loop-group.invariant known)
