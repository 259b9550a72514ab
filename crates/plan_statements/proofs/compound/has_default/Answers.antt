use Rattle.std.proofs.Common.{sym}
use Rattle.plan_statements.proofs.Declaring.{default_done, default_here, default_next}
use Rattle.plan_statements.proofs.compound.has_default.Goals as goal

pub loop-group-preserved : goal.loop-group-preserved
loop-group-preserved c known =
    default_next known c.args.variables.now c.loop-group.group-index c.group-item.result _
    c.loop-group-test.true c.group-item.is (sym c.if-is_some.ensures)
    (c.loop-group.invariant known)

pub returns-then-is_some : goal.returns-then-is_some
returns-then-is_some c known =
    default_here known c.args.variables.now c.loop-group.group-index c.group-item.result _
    c.loop-group-test.true c.group-item.is (sym c.if-is_some.ensures)
    (c.loop-group.invariant known)

pub returns : goal.returns
returns c known =
    default_done known c.args.variables.now c.loop-group.group-index _ c.loop-group-test.false
    (c.loop-group.invariant known)
